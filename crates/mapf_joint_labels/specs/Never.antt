-- What is asked of each joint cell of a set that two agents never leave, and why a set isn't closed.
use Rattle.std.specs.Prelude.{◌≢◌, ℕ, ◌<◌, List, AllPairs, Contains, Option, Some, length, slice_index_or}
use Rattle.mapf_lemmas.specs.declared.joint.JointCell.{JointCell}
use Rattle.mapf_lemmas.specs.JointLabels.{AreApart}
use Rattle.mapf_model.specs.declared.problem.Agent.{Agent}
use Rattle.mapf_model.specs.Grid.{GridMap, IsFree, Step}
use Rattle.mapf_joint_labels.specs.declared.never.CellSet.{CellSet}
use Rattle.mapf_joint_labels.specs.declared.never.NeverFault.{NeverFault}
use Rattle.mapf_joint_labels.specs.declared.never.NeverFault.TheVariants.{Starts, Cell}
use Rattle.mapf_joint_labels.specs.Runs.{AreRunsOf, CoverGrid, IsCellBefore}

-- the pair of both starts
abbrev pub starts_of : Agent → Agent → JointCell
starts_of first second = record { first = first.start; second = second.start }

-- the pair of both goals
abbrev pub goals_of : Agent → Agent → JointCell
goals_of first second = record { first = first.goal; second = second.goal }

-- each two moves from the pair without a conflict lead to one of the joint cells
abbrev pub StaysIn : GridMap → List JointCell → JointCell → Type 0
StaysIn grid cells here =
    (w x : ℕ) → Step grid here.first w → Step grid here.second x → AreApart here.first here.second w x →
    Contains cells (record { first = w; second = x })

-- the joint cell is as it should be: its cells are free and different and aren't the two goals, and each two moves
-- without a conflict lead to one of the joint cells
pub record IsClosedAt (grid : GridMap) (goals : JointCell) (cells : List JointCell) (here : JointCell) : Type 0 where
  pub free_first : IsFree grid here.first
  pub free_second : IsFree grid here.second
  pub different : here.first ≢ here.second
  pub goal : here ≢ goals
  pub onward : StaysIn grid cells here

-- why the set isn't closed: the starts aren't in it; or they are, and the joint cell at this index is the first that
-- isn't as it should be
abbrev pub IsNeverFault : GridMap → Agent → Agent → List JointCell → NeverFault → Type 0
IsNeverFault grid first second cells Starts = Contains cells (starts_of first second) → ⊥
IsNeverFault grid first second cells (Cell place) =
    Contains cells (starts_of first second) × (place < length cells)
    × ((k : ℕ) (d : JointCell) → k < place → IsClosedAt grid (goals_of first second) cells (slice_index_or cells k d))
    × ((d : JointCell) → IsClosedAt grid (goals_of first second) cells (slice_index_or cells place d) → ⊥)

-- the joint cells rise, and their runs are known
pub record IsIndexed (set : CellSet) : Type 0 where
  pub cover : CoverGrid set.grid.now set.runs.now
  pub rising : AllPairs IsCellBefore set.cells.now
  pub runs : AreRunsOf set.runs.now set.cells.now

-- the joint cell is as it should be in this set
abbrev pub IsClosedIn : CellSet → JointCell → Type 0
IsClosedIn set here =
    IsClosedAt set.grid.now (record { first = set.first_goal; second = set.second_goal }) set.cells.now here

-- the joint cell at this index is the first that isn't as it should be
pub record IsFirstOpen (set : CellSet) (place : ℕ) : Type 0 where
  pub within : place < length set.cells.now
  pub before : (k : ℕ) (d : JointCell) → k < place → IsClosedIn set (slice_index_or set.cells.now k d)
  pub open_here : (d : JointCell) → IsClosedIn set (slice_index_or set.cells.now place d) → ⊥

-- these two cells are one of the joint cells, unless the second isn't free or the moves to them are a conflict
abbrev pub HasNext : CellSet → JointCell → ℕ → ℕ → Type 0
HasNext set here w x =
    IsFree set.grid.now x → AreApart here.first here.second w x →
    Contains set.cells.now (record { first = w; second = x })

-- the move of the first agent to this cell, if it is free, with each move of the second to a free one of these leads to
-- one of the joint cells or is a conflict
abbrev pub KeepsIn : CellSet → JointCell → ℕ → List (Option ℕ) → Type 0
KeepsIn set here w seconds =
    IsFree set.grid.now w → (x : ℕ) → Contains seconds (Some x) → HasNext set here w x
