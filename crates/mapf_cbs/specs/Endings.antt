-- How a search over trees ends.
use Rattle.std.specs.Prelude.{◌≡◌, ℕ, ◌<◌, ◌≤◌, List, [], Some, length, slice_get, All}
use Rattle.mapf_model.specs.declared.cause.Cause.{Cause}
use Rattle.mapf_model.specs.declared.conflict.Conflict.{Conflict}
use Rattle.mapf_model.specs.Blocks.{LabelBlock}
use Rattle.mapf_model.specs.Conflicts.{HaveSomeConflict}
use Rattle.mapf_model.specs.Limits.{most_path_cells}
use Rattle.mapf_model.specs.Plan.{Instance}
use Rattle.mapf_cbs.specs.declared.node.Status.{Status}
use Rattle.mapf_cbs.specs.declared.node.Node.{Node}
use Rattle.mapf_cbs.specs.FirstConflicts.{IsFirstConflict}
use Rattle.mapf_cbs.specs.Search.{View, AreBlockLists, AreChildrenLater, IsOneTree}
use Rattle.mapf_cbs.specs.Start.{IsRootStart}
use Rattle.mapf_cbs.specs.State.{IsState, IsPopped, IsCauseToStop}

-- there is a list of blocks for each node, and the nodes are one tree, in which children come later than their parents
pub record CanBeDrawn (lists : List (List LabelBlock)) (statuses : List Status) : Type 0 where
  pub same : length statuses ≡ length lists
  pub some : 0 < length statuses
  pub later : AreChildrenLater statuses
  pub one : (count : ℕ) × IsOneTree statuses count

-- no node is open after at most so many splits, and these are the blocks of each node
pub record IsExhausted (problem : Instance) (limit : ℕ) (lists : List (List LabelBlock)) (statuses : List Status)
    : Type 0 where
  pub paths : List (List ℕ)
  pub root : IsRootStart problem paths
  pub nodes : List Node
  pub count : ℕ
  pub state : IsState problem nodes statuses [] count
  pub within : count ≤ limit
  pub blocks : AreBlockLists state.views lists

-- the least open node, which denotes this state and has this sum, is being expanded, after so many splits
pub record IsAtNode (problem : Instance) (limit : ℕ) (lists : List (List LabelBlock)) (statuses : List Status)
    (count total : ℕ) (view : View) : Type 0 where
  pub paths : List (List ℕ)
  pub root : IsRootStart problem paths
  pub nodes : List Node
  pub rest : List (ℕ × ℕ)
  pub k : ℕ
  pub popped : IsPopped problem nodes statuses rest count total k
  pub is : slice_get popped.state.views k ≡ Some view
  pub short : All (λ path. length path ≤ most_path_cells) view.paths
  pub within : count ≤ limit
  pub blocks : AreBlockLists popped.state.views lists

-- the paths of the node that is being expanded have no conflict, and the plan has these paths
pub record IsAtPlan (problem : Instance) (limit : ℕ) (lists : List (List LabelBlock)) (statuses : List Status)
    (plan : List (List ℕ)) : Type 0 where
  pub count : ℕ
  pub total : ℕ
  pub view : View
  pub at_node : IsAtNode problem limit lists statuses count total view
  pub same : plan ≡ view.paths
  pub none : HaveSomeConflict view.paths → ⊥

-- at the node that is being expanded, which has this sum, the search stops for this cause
pub record IsAtCause (problem : Instance) (limit : ℕ) (lists : List (List LabelBlock)) (statuses : List Status)
    (cause : Cause) (bound : ℕ) : Type 0 where
  pub count : ℕ
  pub view : View
  pub at_node : IsAtNode problem limit lists statuses count bound view
  pub conflict : Conflict
  pub first : IsFirstConflict view.paths conflict
  pub met : IsCauseToStop conflict count limit cause
