-- Breadth-first search from a goal, which enters the distance of each cell that it reaches.
use Rattle.std.specs.Prelude.{◌≡◌, ◌⊎◌, ℕ, ◌+◌, ◌<◌, ◌≤◌, Option, Some, None, List, [], ◌∷◌, ◌++◌, Contains, length}
use Rattle.std.specs.Prelude.{map, slice_index, slice_set, count_by}
use Rattle.mapf_model.specs.Distance.{Walk}
use Rattle.mapf_model.specs.Grid.{GridMap, IsGridMap, Step, free_cell_count}
use Rattle.mapf_distance.specs.declared.wave.TheConstants.{UNREACHED}
use Rattle.mapf_distance.specs.Marks.{entry_of, is_open, is_unreached}

-- the first cell that was reached, from which the search began
abbrev pub source_of : List ℕ → ℕ
source_of reached = slice_index reached 0

-- the entry of the cell at this index of the reached ones
abbrev pub entry_at : List ℕ → List ℕ → ℕ → ℕ
entry_at table reached place = entry_of table (slice_index reached place)

-- the cells were reached in this order, and the first `done` of them were expanded
pub record IsWave (grid : GridMap) (done : ℕ) (table reached : List ℕ) : Type 0 where
  pub shape : IsGridMap grid
  pub free : map is_open table ≡ grid.free
  pub count : length reached + count_by is_unreached table ≡ free_cell_count grid
  pub start : entry_at table reached 0 ≡ 0
  pub walks : (cell : ℕ) → entry_of table cell < UNREACHED → Walk grid cell (source_of reached) (entry_of table cell)
  pub listed : (cell : ℕ) → entry_of table cell < UNREACHED → Contains reached cell
  pub entered : (place : ℕ) → place < length reached → entry_at table reached place ≤ place
  pub rising : (before after : ℕ) → before ≤ after → after < length reached →
      entry_at table reached before ≤ entry_at table reached after
  pub ahead : (place other : ℕ) → done ≤ place → place < length reached → other < length reached →
      entry_at table reached other ≤ entry_at table reached place + 1
  pub taken : (place to : ℕ) → place < done → Step grid (slice_index reached place) to →
      entry_of table to ≤ entry_at table reached place + 1
  pub some : 0 < length reached
  pub bound : done ≤ length reached

-- the cell at this place got the distance if there is one and it wasn't reached, and nothing else changed
abbrev pub IsEntered : Option ℕ → ℕ → List ℕ → List ℕ → List ℕ → List ℕ → Type 0
IsEntered None distance table reached new_table new_reached = (new_table ≡ table) × (new_reached ≡ reached)
IsEntered (Some to) distance table reached new_table new_reached =
    ((entry_of table to ≡ UNREACHED) × (new_table ≡ slice_set table to distance) × (new_reached ≡ reached ++ to ∷ []))
    ⊎ ((entry_of table to ≡ UNREACHED → ⊥) × (new_table ≡ table) × (new_reached ≡ reached))
