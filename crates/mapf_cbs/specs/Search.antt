-- What a conflict-based search knows of its nodes.
use Rattle.std.specs.Prelude.{◌≡◌, ◌≢◌, ℕ, ◌+◌, ◌*◌, ◌<◌, ◌≤◌, ◌^◌, ◌==◌, if◌then◌else◌, List, [], ◌∷◌, Some, length}
use Rattle.std.specs.Prelude.{slice_get, slice_set, sum, All}
use Rattle.mapf_model.specs.declared.constraint.Constraint.{Constraint}
use Rattle.mapf_model.specs.declared.problem.Agent.{Agent}
use Rattle.mapf_model.specs.Blocks.{LabelBlock}
use Rattle.mapf_model.specs.declared.label.Entry.{Entry}
use Rattle.mapf_model.specs.declared.conflict.Conflict.{Conflict}
use Rattle.mapf_model.specs.Plan.{Instance}
use Rattle.mapf_model.specs.declared.bar.Bar.{Bar}
use Rattle.mapf_model.specs.Labels.{Entries}
use Rattle.mapf_model.specs.Tree.{ConstraintTree, Split, Leaf, Clash, NodeContext, root, child_context}
use Rattle.mapf_model.specs.Tree.{left_child_context, right_child_context, left_constraint, right_constraint}
use Rattle.mapf_model.specs.Tree.{IsProperSplit, with_blocks}
use Rattle.mapf_spacetime.specs.Answer.{AreGoodLabels}
use Rattle.mapf_spacetime.specs.Task.{task_of}
use Rattle.mapf_spacetime.specs.declared.found.Found.{Found}
use Rattle.mapf_spacetime.specs.declared.found.Found.TheVariants.{Arrives, Dead as DeadEnd}
use Rattle.mapf_model.specs.Conflicts.{tick_of}
use Rattle.mapf_model.specs.Grid.{free_cell_count}
use Rattle.mapf_model.specs.Limits.{split_ticks}
use Rattle.mapf_constraints.specs.BarSets.{AreBefore}
use Rattle.mapf_cbs.specs.BoundBlocks.{AreBlocksFor}
use Rattle.mapf_cbs.specs.CheapestPath.{IsCheapestPath, HasNoPath}
use Rattle.mapf_cbs.specs.FirstConflicts.{IsFirstConflict}
use Rattle.mapf_cbs.specs.declared.node.Status.{Status}
use Rattle.mapf_cbs.specs.declared.node.Status.TheVariants.{Open, Dead, Expanded}

-- the state of a node: what it inherits, its own constraint included, the agents' paths and costs, and its own blocks
pub record View : Type 0 where
  pub context : NodeContext
  pub paths : List (List ℕ)
  pub costs : List ℕ
  pub blocks : List LabelBlock

-- the agent's entries at the node: those of its block there, else of its nearest block above
abbrev pub entries_at : View → ℕ → Entries
entries_at view = with_blocks view.blocks view.context.entries

-- the agent's path is a cheapest one at the node
abbrev pub IsCheapestOf : Instance → View → ℕ → Agent → List ℕ → ℕ → Type 0
IsCheapestOf problem view i agent path cost =
    IsCheapestPath problem.grid agent (view.context.bars i) path cost (entries_at view i)

-- one path and one cost for each agent
pub record AreCounted (problem : Instance) (view : View) : Type 0 where
  pub paths : length view.paths ≡ length problem.agents
  pub costs : length view.costs ≡ length problem.agents

-- the block is of an agent of the problem; it has labels, and these are sound under the agent's constraints and can be
-- printed
pub record IsPrintableBlock (problem : Instance) (bars : ℕ → List Bar) (block : LabelBlock) : Type 0 where
  pub agent : Agent
  pub known : slice_get problem.agents block.agent ≡ Some agent
  pub labels : AreGoodLabels (task_of problem.grid agent (bars block.agent)) block.entries
  pub some : 1 ≤ length block.entries

-- no block, or one such block
abbrev pub AreOwnBlocks : Instance → (ℕ → List Bar) → List LabelBlock → Type 0
AreOwnBlocks problem bars [] = Unit {0}
AreOwnBlocks problem bars (block ∷ []) = IsPrintableBlock problem bars block
AreOwnBlocks problem bars (block ∷ other ∷ blocks) = ⊥

-- each agent has a cheapest path
pub record IsLive (problem : Instance) (view : View) : Type 0 where
  pub counted : AreCounted problem view
  pub own : AreOwnBlocks problem view.context.bars view.blocks
  pub each : (i : ℕ) (agent : Agent) (path : List ℕ) (cost : ℕ) → slice_get problem.agents i ≡ Some agent →
      slice_get view.paths i ≡ Some path → slice_get view.costs i ≡ Some cost →
      IsCheapestOf problem view i agent path cost

-- one agent has no path, each other agent has a cheapest one
pub record IsDead (problem : Instance) (view : View) : Type 0 where
  pub counted : AreCounted problem view
  pub own : AreOwnBlocks problem view.context.bars view.blocks
  pub who : ℕ
  pub agent : Agent
  pub known : slice_get problem.agents who ≡ Some agent
  pub blocked : HasNoPath problem.grid agent (view.context.bars who) (entries_at view who)
  pub each : (i : ℕ) (other : Agent) (path : List ℕ) (cost : ℕ) → i ≢ who → slice_get problem.agents i ≡ Some other →
      slice_get view.paths i ≡ Some path → slice_get view.costs i ≡ Some cost →
      IsCheapestOf problem view i other path cost

-- the labels that were found
abbrev pub labels_of : Found (List Entry) → List Entry
labels_of (Arrives path labels) = labels
labels_of (DeadEnd labels) = labels

-- the blocks of a node at which this agent was replanned: one with the entries that were found, none if there are none
abbrev pub bound_blocks : ℕ → List Entry → List LabelBlock
bound_blocks agent [] = []
bound_blocks agent (entry ∷ entries) = record { agent = agent; entries = entry ∷ entries } ∷ []

-- the child under one more constraint whose agent has no path; its blocks show it
abbrev pub dead_child : View → Constraint → List Entry → View
dead_child view constraint entries =
    record {
      context = child_context view.context view.blocks constraint;
      paths = view.paths;
      costs = view.costs;
      blocks = bound_blocks constraint.agent entries;
    }

-- the child under one more constraint, with its agent's new path and cost, and with blocks that show them
abbrev pub live_child : View → Constraint → List ℕ → ℕ → List Entry → View
live_child view constraint path cost entries =
    record {
      context = child_context view.context view.blocks constraint;
      paths = slice_set view.paths constraint.agent path;
      costs = slice_set view.costs constraint.agent cost;
      blocks = bound_blocks constraint.agent entries;
    }

-- a node that was split: the conflict is the first of its paths, and its children are later nodes, the right one next
-- to the left one, each with the blocks of the agent that was replanned there
pub record IsExpandedAt (problem : Instance) (views : List View) (k : ℕ) (view : View) (conflict : Conflict) (left : ℕ)
    : Type 0 where
  pub live : IsLive problem view
  pub proper : IsProperSplit problem conflict
  pub early : tick_of conflict < split_ticks
  pub on_first : IsFirstConflict view.paths conflict
  pub to_left : (child : View) × (slice_get views left ≡ Some child)
      × (child.context ≡ left_child_context view.context conflict view.blocks)
      × AreBlocksFor problem child.context (Some (left_constraint conflict).agent) child.blocks
  pub to_right : (child : View) × (slice_get views (left + 1) ≡ Some child)
      × (child.context ≡ right_child_context view.context conflict view.blocks)
      × AreBlocksFor problem child.context (Some (right_constraint conflict).agent) child.blocks
  pub later : k < left

-- what holds of a node by its status
abbrev pub IsStatus : Instance → List View → ℕ → View → Status → Type 0
IsStatus problem views k view Open = IsLive problem view
IsStatus problem views k view Dead = IsDead problem view
IsStatus problem views k view (Expanded conflict left) = IsExpandedAt problem views k view conflict left

-- the node is split
abbrev pub IsExpandedStatus : Status → Type 0
IsExpandedStatus Open = ⊥
IsExpandedStatus Dead = ⊥
IsExpandedStatus (Expanded conflict left) = Unit {0}

-- the node is terminal
abbrev pub IsEndStatus : Status → Type 0
IsEndStatus Open = Unit {0}
IsEndStatus Dead = Unit {0}
IsEndStatus (Expanded conflict left) = ⊥

-- the shape of a tree, with the numbers of its nodes
pub data Shape : Type 0 where
  Node : (k : ℕ) → (left right : Shape) → Shape
  End : (k : ℕ) → Shape

-- the number of splits of a shape
abbrev pub splits : Shape → ℕ
splits (Node k left right) = 1 + (splits left + splits right)
splits (End k) = 0

-- how many nodes have this number
abbrev pub occurrences : ℕ → Shape → ℕ
occurrences m (Node k left right) = (if m == k then 1 else 0) + (occurrences m left + occurrences m right)
occurrences m (End k) = if m == k then 1 else 0

-- the subtree of the node has this shape
abbrev pub IsShape : List Status → ℕ → Shape → Type 0
IsShape statuses k (Node m left right) =
    (same : k ≡ m) × (conflict : Conflict) × (a : ℕ) × (slice_get statuses k ≡ Some (Expanded conflict a))
    × IsShape statuses a left × IsShape statuses (a + 1) right
IsShape statuses k (End m) =
    (same : k ≡ m) × (status : Status) × (slice_get statuses k ≡ Some status) × IsEndStatus status

-- the nodes form one tree with so many splits, in which each node occurs once
pub record IsOneTree (statuses : List Status) (count : ℕ) : Type 0 where
  pub shape : Shape
  pub is_shape : IsShape statuses 0 shape
  pub exact : splits shape ≡ count
  pub once : (k : ℕ) → k < length statuses → occurrences k shape ≡ 1

-- what holds of the nodes of a search after so many splits: each is as its status says, and no open node is cheaper
-- than one that was split
pub record IsSearched (problem : Instance) (views : List View) (statuses : List Status) (count : ℕ) : Type 0 where
  pub lengths : length views ≡ length statuses
  pub first : (view : View) × (slice_get views 0 ≡ Some view) × (view.context ≡ root) × (view.blocks ≡ [])
  pub each : (k : ℕ) (view : View) (status : Status) → slice_get views k ≡ Some view →
      slice_get statuses k ≡ Some status →
      IsStatus problem views k view status
  pub least : (k m : ℕ) (view other : View) (status : Status) → slice_get views k ≡ Some view →
      slice_get views m ≡ Some other → slice_get statuses k ≡ Some status → IsExpandedStatus status →
      slice_get statuses m ≡ Some Open → sum view.costs ≤ sum other.costs
  pub tree : IsOneTree statuses count
  pub low : (k : ℕ) (view : View) (i : ℕ) → slice_get views k ≡ Some view →
      AreBefore (count * free_cell_count problem.grid) (view.context.bars i)

-- these are the node's own blocks, and none is too long for memory
abbrev pub AreBlocksOf : View → List LabelBlock → Type 0
AreBlocksOf view blocks = (blocks ≡ view.blocks) × All (λ block. length block.entries < 2 ^ 64) blocks

-- these are the blocks of each node
pub record AreBlockLists (views : List View) (lists : List (List LabelBlock)) : Type 0 where
  pub lengths : length lists ≡ length views
  pub each : (k : ℕ) (view : View) (blocks : List LabelBlock) → slice_get views k ≡ Some view →
      slice_get lists k ≡ Some blocks → AreBlocksOf view blocks

-- these are the blocks of the node with this number
abbrev pub AreBlocksAt : List View → ℕ → List LabelBlock → Type 0
AreBlocksAt views k blocks = (view : View) → slice_get views k ≡ Some view → AreBlocksOf view blocks

-- the subtree of the node is this tree: each split and each leaf has its node's own blocks
abbrev pub IsTreeAt : List View → List Status → ℕ → ConstraintTree → Type 0
IsTreeAt views statuses k (Split conflict blocks left right) =
    AreBlocksAt views k blocks × (a : ℕ) × (slice_get statuses k ≡ Some (Expanded conflict a))
    × IsTreeAt views statuses a left × IsTreeAt views statuses (a + 1) right
IsTreeAt views statuses k (Leaf blocks) =
    AreBlocksAt views k blocks × (status : Status) × (slice_get statuses k ≡ Some status) × IsEndStatus status
IsTreeAt views statuses k (Clash i j) = ⊥

-- the two children of a node that was split are later nodes of the list, and their numbers fit in 32 bits
abbrev pub AreChildrenLater : List Status → Type 0
AreChildrenLater statuses =
    (k : ℕ) (conflict : Conflict) (left : ℕ) → slice_get statuses k ≡ Some (Expanded conflict left) → (k < left)
    × (left + 1 < length statuses) × (left + 1 < 2 ^ 32)
