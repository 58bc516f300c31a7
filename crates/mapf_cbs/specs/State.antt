-- The state of a search.
use Rattle.std.specs.Prelude.{◌≡◌, ℕ, ◌+◌, ◌*◌, ◌<◌, ◌≤◌, ◌^◌, List, [], ◌∷◌, ◌++◌, Option, None, Some, length}
use Rattle.std.specs.Prelude.{slice_get, slice_set, sum, Contains}
use Rattle.std.specs.declared.cmp.Ordering.{Ordering}
use Rattle.std.specs.declared.cmp.Ordering.TheVariants.{Less}
use Rattle.std.specs.Ordering.{nat_cmp, ordering_then}
use Rattle.std.specs.BTreeSet.{insert_key}
use Rattle.mapf_model.specs.declared.cause.Cause.{Cause}
use Rattle.mapf_model.specs.declared.cause.Cause.TheVariants.{Splits, Ticks}
use Rattle.mapf_model.specs.declared.conflict.Conflict.{Conflict}
use Rattle.mapf_model.specs.Conflicts.{tick_of}
use Rattle.mapf_model.specs.Plan.{Instance}
use Rattle.mapf_model.specs.Limits.{most_agents, split_ticks}
use Rattle.mapf_model.specs.Tree.{left_constraint, right_constraint}
use Rattle.mapf_model.specs.declared.label.Entry.{Entry}
use Rattle.mapf_spacetime.specs.declared.found.Found.{Found}
use Rattle.mapf_cbs.specs.declared.node.Node.{Node}
use Rattle.mapf_cbs.specs.declared.node.Node.TheVariants.{Child}
use Rattle.mapf_cbs.specs.declared.node.Status.{Status}
use Rattle.mapf_cbs.specs.declared.node.Status.TheVariants.{Open, Dead, Expanded}
use Rattle.mapf_cbs.specs.Search.{View, IsSearched}
use Rattle.mapf_cbs.specs.Nodes.{AreNodesForAll, HaveTableBars, AreViews}

-- a child that has a sum is open
abbrev pub status_of : Option ℕ → Status
status_of None = Dead
status_of (Some total) = Open

-- the nodes with the two children of the node k, which is split on the conflict, and what was found at these
abbrev pub with_children : List Node → ℕ → Conflict → Found (List Entry) → Found (List Entry) → List Node
with_children nodes k conflict left right =
    (nodes ++ Child k (left_constraint conflict) left ∷ []) ++ Child k (right_constraint conflict) right ∷ []

-- the statuses after a node is split: it names its left child, and the statuses of the two children come last
abbrev pub split_statuses : List Status → ℕ → Conflict → Option ℕ → Option ℕ → List Status
split_statuses statuses k conflict left right =
    slice_set ((statuses ++ status_of left ∷ []) ++ status_of right ∷ []) k (Expanded conflict (length statuses))

-- by sum, then by number
abbrev pub key_cmp : ℕ × ℕ → ℕ × ℕ → Ordering
key_cmp a b = ordering_then (nat_cmp a.0 b.0) (nat_cmp a.1 b.1)

-- the keys with that of a child, if it is open
abbrev pub with_key : List (ℕ × ℕ) → ℕ → Option ℕ → List (ℕ × ℕ)
with_key keys number None = keys
with_key keys number (Some total) = insert_key key_cmp keys (total, number)

-- the keys with those of two children, the left one of this number and the right one of the next
abbrev pub with_keys : List (ℕ × ℕ) → ℕ → Option ℕ → Option ℕ → List (ℕ × ℕ)
with_keys keys number left right = with_key (with_key keys number left) (number + 1) right

-- the key is the least of the list, and these are the others
pub record IsLeastKey (key : ℕ × ℕ) (keys rest : List (ℕ × ℕ)) : Type 0 where
  pub removal : keys ≡ key ∷ rest
  pub above : (other : ℕ × ℕ) → Contains rest other → key_cmp key other ≡ Less

-- the open nodes by their sums
pub record IsOpenSet (keys : List (ℕ × ℕ)) (views : List View) (statuses : List Status) : Type 0 where
  pub only : (key : ℕ × ℕ) → Contains keys key → (view : View) × (slice_get views key.1 ≡ Some view)
      × (slice_get statuses key.1 ≡ Some Open) × (key.0 ≡ sum view.costs)
  pub each : (m : ℕ) (view : View) → slice_get views m ≡ Some view → slice_get statuses m ≡ Some Open →
      Contains keys (sum view.costs, m)

-- the nodes, their statuses and the keys of the open nodes after so many splits; the sum of each open node is at most
-- 2^32 times (splits + greatest number of agents), so no sum overflows
pub record IsState (problem : Instance) (nodes : List Node) (statuses : List Status) (keys : List (ℕ × ℕ)) (count : ℕ)
    : Type 0 where
  pub views : List View
  pub are : AreViews nodes views
  pub searched : IsSearched problem views statuses count
  pub opens : IsOpenSet keys views statuses
  pub nodes_for : AreNodesForAll (length problem.agents) nodes
  pub bars : HaveTableBars nodes
  pub size : length nodes ≡ 2 * count + 1
  pub small : (key : ℕ × ℕ) → Contains keys key → key.0 ≤ (count + most_agents) * 2 ^ 32

-- the conflict is too late; or it is not, and as many splits were made as are allowed
abbrev pub IsCauseToStop : Conflict → ℕ → ℕ → Cause → Type 0
IsCauseToStop conflict splits limit Ticks = split_ticks ≤ tick_of conflict
IsCauseToStop conflict splits limit (Splits n) = (tick_of conflict < split_ticks) × (n ≡ limit) × (splits ≡ limit)

-- the state while its first open node is being expanded
pub record IsPopped (problem : Instance) (nodes : List Node) (statuses : List Status) (rest : List (ℕ × ℕ))
    (count total k : ℕ) : Type 0 where
  pub state : IsState problem nodes statuses ((total, k) ∷ rest) count
  pub above : (key : ℕ × ℕ) → Contains rest key → key_cmp (total, k) key ≡ Less
