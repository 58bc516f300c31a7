-- What the entries of a table of distances mean.
use Rattle.std.specs.Prelude.{Bool, ℕ, List, nat_lt, nat_eq, slice_index_or, map, if◌then◌else◌}
use Rattle.mapf_model.specs.Grid.{GridMap}
use Rattle.mapf_distance.specs.declared.wave.TheConstants.{BLOCKED, UNREACHED}

-- the entry of a cell. Outside the grid it is that of a blocked cell
abbrev pub entry_of : List ℕ → ℕ → ℕ
entry_of table cell = slice_index_or table cell BLOCKED

-- whether the entry is that of a free cell
abbrev pub is_open : ℕ → Bool
is_open entry = nat_lt entry BLOCKED

-- whether the entry is that of a cell that wasn't reached
abbrev pub is_unreached : ℕ → Bool
is_unreached entry = nat_eq entry UNREACHED

-- the grid whose cells have these entries
abbrev pub grid_of_table : ℕ → ℕ → List ℕ → GridMap
grid_of_table width height table = record { width = width; height = height; free = map is_open table }

-- the entry of a cell before any is reached
abbrev pub first_entry : Bool → ℕ
first_entry free = if free then UNREACHED else BLOCKED
