-- Paths of which a few take the places of others, and rows of the agents' cells.
use Rattle.std.specs.Prelude.{◌≡◌, ℕ, List, [], ◌∷◌, Some, length, slice_get, slice_set, take}
use Rattle.mapf_conflicts.specs.Pairs.{cells_at}
use Rattle.mapf_conflicts.specs.declared.patched_paths.Replacement.{Replacement}

-- the paths once the replacements are applied in order, each of which puts its path in the place of its agent's path
abbrev pub with_replacements : List (List ℕ) → List Replacement → List (List ℕ)
with_replacements paths [] = paths
with_replacements paths (one ∷ others) = with_replacements (slice_set paths one.agent one.path.now) others

-- for each tick that has a row, the row begins with the agents' cells at that tick
abbrev pub AreRowsOf : List (List ℕ) → List (List ℕ) → Type 0
AreRowsOf rows paths =
    (tick : ℕ) (row : List ℕ) → slice_get rows tick ≡ Some row → take (length paths) row ≡ cells_at paths tick
