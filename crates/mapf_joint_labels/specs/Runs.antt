-- Runs: where the joint cells with the same first cell stand in a sorted list.
use Rattle.std.specs.Prelude.{◌≡◌, ◌⊎◌, ℕ, ◌<◌, ◌≤◌, List, AllPairs, length, slice_index_or}
use Rattle.mapf_lemmas.specs.declared.joint.JointCell.{JointCell}
use Rattle.mapf_model.specs.Grid.{GridMap}
use Rattle.mapf_joint_labels.specs.declared.runs.Run.{Run}

-- by the number of the first cell, and then by that of the second
abbrev pub IsCellBefore : JointCell → JointCell → Type 0
IsCellBefore a b = (a.first < b.first) ⊎ ((a.first ≡ b.first) × (a.second < b.second))

-- the run of the cell, an empty one if it has none
abbrev pub run_of : List Run → ℕ → Run
run_of runs cell = slice_index_or runs cell (record { begin = 0; end = 0 })

-- there is a run for each cell of the grid
abbrev pub CoverGrid : GridMap → List Run → Type 0
CoverGrid grid runs = length grid.free ≤ length runs

-- the index is in the run, and all joint cells of the run have this first cell
pub record IsRunAt (cells : List JointCell) (run : Run) (k first : ℕ) : Type 0 where
  pub from : run.begin ≤ k
  pub below : k < run.end
  pub within : run.end ≤ length cells
  pub same : (j : ℕ) (d : JointCell) → run.begin ≤ j → j < run.end → (slice_index_or cells j d).first ≡ first

-- each joint cell whose first cell has a run is in it, and so are only those with the same first cell
abbrev pub AreRunsOf : List Run → List JointCell → Type 0
AreRunsOf runs cells =
    (k first : ℕ) → k < length cells → first < length runs →
    ((d : JointCell) → (slice_index_or cells k d).first ≡ first) → IsRunAt cells (run_of runs first) k first

-- the pair stands at this index of the list, in this run, and the list rises
pub record IsRunFor (cells : List JointCell) (run : Run) (k : ℕ) (pair : JointCell) : Type 0 where
  pub rising : AllPairs IsCellBefore cells
  pub run_at : IsRunAt cells run k pair.first
  pub is : (d : JointCell) → slice_index_or cells k d ≡ pair
