-- Where an agent may be one tick after it is in a cell.
use Rattle.std.specs.Prelude.{ℕ, ◌+◌, ◌-◌, ◌%◌, Option, None, Some, false, List, [], ◌∷◌, ◌++◌, nat_le, nat_lt}
use Rattle.std.specs.Prelude.{if◌then◌else◌, slice_index_or}
use Rattle.mapf_model.specs.Grid.{GridMap}

-- the cells above and left, the cell itself, and those right and below, in rising order, on a grid of this width; None
-- for a cell that would be outside its row or above the first row
abbrev pub neighbourhood : ℕ → ℕ → List (Option ℕ)
neighbourhood width cell =
    (if nat_le width cell then Some (cell - width) else None) ∷
    (if nat_lt 0 (cell % width) then Some (cell - 1) else None) ∷
    Some cell ∷
    (if nat_lt (cell % width + 1) width then Some (cell + 1) else None) ∷
    Some (cell + width) ∷ []

-- the cell, if there is one and it is free
abbrev pub free_cell : GridMap → Option ℕ → List ℕ
free_cell grid None = []
free_cell grid (Some cell) = if slice_index_or grid.free cell false then cell ∷ [] else []

-- the free cells among these
abbrev pub free_cells : GridMap → List (Option ℕ) → List ℕ
free_cells grid [] = []
free_cells grid (place ∷ places) = free_cell grid place ++ free_cells grid places
