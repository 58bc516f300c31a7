-- How far a tree was judged.
use Rattle.std.specs.Prelude.{◌≡◌, Bool, true, false, List, [], ◌∷◌, fold, length}
use Rattle.std.specs.List.{AllZip}
use Rattle.mapf_model.specs.Laws.{AreAlike}
use Rattle.mapf_model.specs.Plan.{Instance}
use Rattle.mapf_model.specs.Tree.{Node, SplitNode, LeafNode, ClashNode, NodeContext, left_child_context}
use Rattle.mapf_model.specs.Tree.{right_child_context}
use Rattle.mapf_checker.specs.declared.tree.Progress.{Progress}
use Rattle.mapf_distance.specs.Tables.{AreMade, AreStartDistances}
use Rattle.mapf_checker.specs.Branch.{Place, place_of}

-- what the trees that are still expected, in pre-order, inherit after this node
abbrev pub contexts_after : List NodeContext → Node → List NodeContext
contexts_after [] node = []
contexts_after (here ∷ pending) (SplitNode conflict blocks) =
    left_child_context here conflict blocks ∷ right_child_context here conflict blocks ∷ pending
contexts_after (here ∷ pending) (LeafNode blocks) = pending
contexts_after (here ∷ pending) (ClashNode i j) = pending

-- what the trees that are still expected inherit after all of these nodes
abbrev pub contexts_after_all : List NodeContext → List Node → List NodeContext
contexts_after_all pending nodes = fold contexts_after pending nodes

-- no trees distinguish these contexts from those
abbrev pub AreAllAlike : Instance → List NodeContext → List NodeContext → Type 0
AreAllAlike problem these those = AllZip (AreAlike problem) these those

-- what the trees that are still expected inherit, as far as it is kept
abbrev pub pending_at : Bool → Place → List NodeContext
pending_at true place = []
pending_at false place = place.here ∷ place.pending

-- the same of a tree that was judged so far
abbrev pub pending_by : Progress → List NodeContext
pending_by progress = pending_at progress.is_over (place_of progress.branch)

-- what the node that is judged next inherits, as far as it is kept
abbrev pub here_of : Progress → NodeContext
here_of progress = (place_of progress.branch).here

-- the tables are those of the problem; the distances are those of its starts, once there are any; and the entries are
-- those of its agents
pub record IsReady (problem : Instance) (progress : Progress) : Type 0 where
  pub tables : AreMade problem progress.tables
  pub distances : (progress.distances.items ≡ [] → ⊥) → AreStartDistances problem progress.distances.items
  pub agents : progress.branch.agents ≡ length problem.agents
