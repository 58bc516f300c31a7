-- Trees whose splits name the first conflict of the first cheapest paths. Ties are broken too: between conflicts of one
-- tick by their order, between paths of one cost by their cells' numbers.
use Rattle.std.specs.Prelude.{◌≡◌, ℕ, List, Some, slice_get}
use Rattle.mapf_conflicts.specs.Pairs.{IsOrdered, IsFirstOfItsTick}
use Rattle.mapf_model.specs.declared.conflict.Conflict.{Conflict}
use Rattle.mapf_model.specs.Conflicts.{HasConflict, AreConflictFreeBefore, tick_of}
use Rattle.mapf_cbs.specs.Earned.{AreDue}
use Rattle.mapf_model.specs.declared.problem.Agent.{Agent}
use Rattle.mapf_model.specs.Path.{IsCost}
use Rattle.mapf_model.specs.Plan.{Instance}
use Rattle.mapf_model.specs.Tree.{ConstraintTree, Split, Leaf, Clash, NodeContext, AtEachNode, root}
use Rattle.mapf_spacetime.specs.Answer.{IsFirstOfCost}
use Rattle.mapf_spacetime.specs.Task.{task_of}

-- the first conflict of the paths: of the least tick, then a vertex conflict before a swapping conflict, then by the
-- agents' numbers, of which the first is the smaller
pub record IsFirstConflict (paths : List (List ℕ)) (conflict : Conflict) : Type 0 where
  pub has : HasConflict paths conflict
  pub earliest : AreConflictFreeBefore paths (tick_of conflict)
  pub ordered : IsOrdered conflict
  pub least : IsFirstOfItsTick paths conflict

-- at the node each agent's path is the first of its cost, by cell numbers, of those that satisfy its constraints
abbrev pub AreFirstPaths : Instance → NodeContext → List (List ℕ) → Type 0
AreFirstPaths problem context paths = (i : ℕ) (agent : Agent) (path : List ℕ) (cost : ℕ) →
    slice_get problem.agents i ≡ Some agent → slice_get paths i ≡ Some path → IsCost agent.goal path cost →
    IsFirstOfCost (task_of problem.grid agent (context.bars i)) cost path

-- a split names the first conflict of due paths, each the first of its cost
abbrev pub IsOnFirstConflict : Instance → ConstraintTree → NodeContext → ConstraintTree → Type 0
IsOnFirstConflict problem tree context (Split conflict blocks left right) = (paths : List (List ℕ)) × (total : ℕ)
    × AreDue problem tree context paths total × AreFirstPaths problem context paths
    × IsFirstConflict paths conflict
IsOnFirstConflict problem tree context (Leaf blocks) = Unit {0}
IsOnFirstConflict problem tree context (Clash i j) = Unit {0}

-- the same of each split of the tree
abbrev pub AreOnFirstConflicts : Instance → ConstraintTree → Type 0
AreOnFirstConflicts problem tree = AtEachNode (IsOnFirstConflict problem tree) root tree
