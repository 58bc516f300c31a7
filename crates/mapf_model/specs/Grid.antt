-- The cells of a grid and the steps between them. (Stern et al. 2019: a four-connected grid)
use Rattle.std.specs.Prelude.{◌≡◌, ◌⊎◌, ℕ, ◌+◌, ◌*◌, ◌≤◌, ◌/◌, ◌%◌, Bool, true, false, List, length, slice_index_or}
use Rattle.std.specs.Prelude.{count_by}
use Rattle.mapf_model.specs.Limits.{greatest_side}

-- a rectangle of cells, row by row, and which of them are free
pub record GridMap : Type 0 where
  pub width : ℕ
  pub height : ℕ
  pub free : List Bool

-- 1 to 2,048 cells wide and high, with a flag for each cell (the sizes: own)
abbrev pub IsGridMap : GridMap → Type 0
IsGridMap grid =
    (1 ≤ grid.width) × (grid.width ≤ greatest_side) × (1 ≤ grid.height) × (grid.height ≤ greatest_side)
    × (length grid.free ≡ grid.width * grid.height)

-- the column of a cell, whose number is row * width + column
abbrev pub column : GridMap → ℕ → ℕ
column grid cell = cell % grid.width

-- the row of a cell, from 0 at the top
abbrev pub row : GridMap → ℕ → ℕ
row grid cell = cell / grid.width

-- the cell is on the grid and free
abbrev pub IsFree : GridMap → ℕ → Type 0
IsFree grid cell = slice_index_or grid.free cell false ≡ true

-- how many cells are free (own)
abbrev pub free_cell_count : GridMap → ℕ
free_cell_count grid = count_by (λ free. free) grid.free

-- the two numbers differ by one
abbrev pub DifferByOne : ℕ → ℕ → Type 0
DifferByOne a b = (a ≡ b + 1) ⊎ (b ≡ a + 1)

-- two free cells that differ by one in exactly one coordinate
pub record AreAdjacent (grid : GridMap) (from to : ℕ) : Type 0 where
  pub from_free : IsFree grid from
  pub to_free : IsFree grid to
  pub apart : ((row grid from ≡ row grid to) × DifferByOne (column grid from) (column grid to))
      ⊎ ((column grid from ≡ column grid to) × DifferByOne (row grid from) (row grid to))

-- in one tick an agent waits in a free cell, or moves to an adjacent one
abbrev pub Step : GridMap → ℕ → ℕ → Type 0
Step grid from to = (IsFree grid from × (from ≡ to)) ⊎ AreAdjacent grid from to
