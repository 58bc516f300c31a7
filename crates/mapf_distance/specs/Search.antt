-- The search for the distance of one start.
use Rattle.std.specs.Prelude.{◌≡◌, ◌⊎◌, ℕ, ◌+◌, ◌-◌, ◌^◌, ◌<◌, ◌≤◌, Option, Some, None, List, [], ◌∷◌, ◌++◌, Contains}
use Rattle.std.specs.Prelude.{All, length, slice_set, sum}
use Rattle.mapf_model.specs.Distance.{Walk}
use Rattle.mapf_model.specs.Grid.{GridMap, IsGridMap, IsFree, Step, column, row}
use Rattle.mapf_distance.specs.declared.search.Aim.{Aim}
use Rattle.mapf_distance.specs.declared.search.Search.{Search}
use Rattle.mapf_distance.specs.declared.wave.TheConstants.{UNREACHED}
use Rattle.mapf_distance.specs.Marks.{entry_of}

-- how far two numbers are apart: one of the two differences is 0
abbrev pub gap : ℕ → ℕ → ℕ
gap a b = (a - b) + (b - a)

-- the Manhattan distance of two cells
abbrev pub estimate : GridMap → ℕ → ℕ → ℕ
estimate grid from to = gap (column grid from) (column grid to) + gap (row grid from) (row grid to)

-- the f-value of a cell: the steps found from it to the goal, and its Manhattan distance from the start
abbrev pub value_of : GridMap → ℕ → List ℕ → ℕ → ℕ
value_of grid start table cell = entry_of table cell + estimate grid cell start

-- the cell was expanded: all steps from it were taken
abbrev pub IsTaken : GridMap → List ℕ → ℕ → Type 0
IsTaken grid table cell = (to : ℕ) → Step grid cell to → entry_of table to ≤ entry_of table cell + 1

-- the cell was expanded, or it is open, on this level or on the next one
abbrev pub IsSeen : GridMap → ℕ → ℕ → List ℕ → List ℕ → List ℕ → ℕ → Type 0
IsSeen grid start level table due later cell =
    ((value_of grid start table cell ≤ level) × IsTaken grid table cell)
    ⊎ (((value_of grid start table cell ≡ level) × Contains due cell)
    ⊎ ((value_of grid start table cell ≡ level + 2) × Contains later cell))

-- a cell with an entry below `UNREACHED`
abbrev pub IsKnown : List ℕ → ℕ → Type 0
IsKnown table cell = entry_of table cell < UNREACHED

-- for each entry a walk is known, and each cell with an entry is expanded or open, except some cells
pub record IsSearch (grid : GridMap) (start goal : ℕ) (But : ℕ → Type 0) (level : ℕ) (table due later : List ℕ)
    : Type 0 where
  pub shape : IsGridMap grid
  pub free : IsFree grid start
  pub count : length table ≡ length grid.free
  pub top : (cell : ℕ) → cell < length table → entry_of table cell ≤ UNREACHED
  pub source : entry_of table goal ≡ 0
  pub walks : (cell : ℕ) → IsKnown table cell → Walk grid cell goal (entry_of table cell)
  pub due_known : All (IsKnown table) due
  pub later_known : All (IsKnown table) later
  pub low : (cell : ℕ) → Contains later cell → level < 2 ^ 34
  pub seen : (cell : ℕ) → IsKnown table cell → But cell ⊎ IsSeen grid start level table due later cell

-- the open cells of the level
abbrev pub open_of : Search → List ℕ
open_of search = search.due.items ++ search.next_row.items

-- every cell with an entry is expanded or open
abbrev pub IsSearchOn : GridMap → Search → Type 0
IsSearchOn grid search =
    IsSearch grid search.start search.goal (λ cell. ⊥) search.level search.table.items (open_of search)
    search.later.items

-- every cell with an entry is expanded or open except this one, which has an entry
abbrev pub IsSearchAt : GridMap → ℕ → Search → Type 0
IsSearchAt grid cell search =
    IsSearch grid search.start search.goal (λ other. other ≡ cell) search.level search.table.items (open_of search)
    search.later.items × IsKnown search.table.items cell

-- the cell was expanded or is still open, if it isn't of this level
abbrev pub IsPassed : GridMap → ℕ → Search → Type 0
IsPassed grid cell search =
    (value_of grid search.start search.table.items cell ≡ search.level → ⊥) →
    IsSeen grid search.start search.level search.table.items (open_of search) search.later.items cell

-- the start's entry is its distance
abbrev pub IsFound : Search → Type 0
IsFound search =
    (entry_of search.table.items search.start < UNREACHED) × (entry_of search.table.items search.start ≤ search.level)

-- the start's distance is known, or no cell is open
abbrev pub IsEnded : Search → Type 0
IsEnded search = (IsFound search → ⊥) → (open_of search ≡ []) × (search.later.items ≡ [])

-- the neighbourhoods on the grid, and the column and the row of the start
pub record IsAim (grid : GridMap) (start : ℕ) (aim : Aim) : Type 0 where
  pub wide : aim.neighbourhoods ≡ grid.width
  pub column : aim.column ≡ column grid start
  pub row : aim.row ≡ row grid start

-- a number that decreases with each cell that is expanded
abbrev pub effort : Search → ℕ
effort search = sum search.table.items + length (open_of search)

-- the same search on the same level
pub record IsSameSearch (old new : Search) : Type 0 where
  pub start : new.start ≡ old.start
  pub goal : new.goal ≡ old.goal
  pub level : new.level ≡ old.level

-- the new list has the cell somewhere among the elements of the old one
abbrev pub IsInserted : ℕ → List ℕ → List ℕ → Type 0
IsInserted cell old new =
    (front : List ℕ) × (tail : List ℕ) × (old ≡ front ++ tail) × (new ≡ front ++ cell ∷ [] ++ tail)

-- a cell of this f-value is added to the open cells of the level or to those of the next one
abbrev pub IsPut : ℕ → ℕ → Search → Search → Type 0
IsPut cell value old new =
    ((value ≡ old.level) × IsInserted cell (open_of old) (open_of new) × (new.later.items ≡ old.later.items))
    ⊎ ((value ≡ old.level + 2) × (open_of new ≡ open_of old) × (new.later.items ≡ old.later.items ++ cell ∷ []))

-- the step to the cell at this place was relaxed: the cell was reached if it is free and its entry was greater, and
-- nothing else changed
abbrev pub IsRelaxed : GridMap → Option ℕ → ℕ → Search → Search → Type 0
IsRelaxed grid None distance old new = new ≡ old
IsRelaxed grid (Some next) distance old new =
    ((IsFree grid next × (distance < entry_of old.table.items next))
    × (new.table.items ≡ slice_set old.table.items next distance)
    × IsPut next (distance + estimate grid next old.start) old new × IsSameSearch old new)
    ⊎ ((IsFree grid next × (distance < entry_of old.table.items next) → ⊥) × (new ≡ old))

-- all cells up to the search's f-value were expanded, and it is at least this number
pub record IsSettled (grid : GridMap) (bound : ℕ) (search : Search) : Type 0 where
  pub searched : IsSearchOn grid search
  pub swept : open_of search ≡ []
  pub within : bound ≤ search.level
  pub small : bound < UNREACHED
