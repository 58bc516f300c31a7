-- Tables of distances to a goal.
use Rattle.std.specs.Prelude.{◌≡◌, ℕ, ◌+◌, ◌-◌, ◌<◌, ◌≤◌, List, Option, Some, None, length, slice_index}
use Rattle.mapf_model.specs.Distance.{Walk, IsDistance, IsUnreachable}
use Rattle.mapf_model.specs.Grid.{GridMap, IsGridMap, Step, free_cell_count}
use Rattle.mapf_distance.specs.declared.wave.TheConstants.{UNREACHED}
use Rattle.mapf_distance.specs.Marks.{entry_of}
use Rattle.mapf_model.specs.Limits.{most_cells}
use Rattle.mapf_model.specs.Path.{at, IsPath, IsTight}

-- a grid, and the goal to which the distances on it go
pub record GoalMap : Type 0 where
  pub grid : GridMap
  pub goal : ℕ

-- some number of steps leads from the cell to the goal
abbrev pub IsReachable : GridMap → ℕ → ℕ → Type 0
IsReachable grid goal cell = (n : ℕ) × Walk grid cell goal n

-- the least number of steps from the cell to the goal, or none if no steps lead there
abbrev pub IsDistanceOrNone : GridMap → ℕ → ℕ → Option ℕ → Type 0
IsDistanceOrNone grid goal cell (Some distance) = IsDistance grid goal cell distance
IsDistanceOrNone grid goal cell None = IsUnreachable grid goal cell

-- each step of the path goes to the cell of the least number among those that are one step away and nearer to the goal
abbrev pub IsLeastDescent : GridMap → ℕ → List ℕ → Type 0
IsLeastDescent grid goal path =
    (k other : ℕ) → k + 1 < length path → Step grid (slice_index path k) other →
    IsDistance grid goal other (length path - 1 - (k + 1)) → slice_index path (k + 1) ≤ other

-- each entry is the cell's distance, or says that there is none
pub record AreDistances (grid : GridMap) (goal : ℕ) (table : List ℕ) : Type 0 where
  pub shape : IsGridMap grid
  pub exact : (cell : ℕ) → entry_of table cell < UNREACHED → IsDistance grid goal cell (entry_of table cell)
  pub small : (cell : ℕ) → entry_of table cell < UNREACHED → entry_of table cell < free_cell_count grid
  pub bounded : (cell : ℕ) → entry_of table cell < UNREACHED → entry_of table cell < most_cells
  pub none : (cell : ℕ) → UNREACHED ≤ entry_of table cell → IsUnreachable grid goal cell

-- a path of the fewest steps from the start to the goal, of all these the lexicographically least by cell numbers
pub record IsShortestPath (grid : GridMap) (start goal : ℕ) (path : List ℕ) : Type 0 where
  pub is_path : IsPath grid path
  pub from_start : at path 0 ≡ start
  pub to_goal : at path (length path - 1) ≡ goal
  pub tight : IsTight path
  pub few : length path ≤ free_cell_count grid
  pub short : IsDistance grid goal start (length path - 1)
  pub least : IsLeastDescent grid goal path
