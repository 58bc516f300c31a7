-- Entries of a table, and what they mean for their cells.
use Rattle.std.proofs.Common.{◌≡◌, ℕ, ◌+◌, ◌*◌, ◌<◌, ◌≤◌, Bool, true, false, cond, List, [], ◌∷◌, length, map, count_by, slice_index_or, slice_set, refl, sym, ◌∙◌, ap, ⊎_elim, arith}
use Rattle.std.proofs.Math.ListN.{get_or-map}
use Rattle.std.proofs.Math.Nat.{mul-le-mul}
use Rattle.std.proofs.lemmas.Bool.{ltb-true, lt-ltb, cases_lt}
use Rattle.std.proofs.lemmas.List.{get_or_past, get_or-set_same, get_or-set_other, length-map}
use Rattle.std.proofs.lemmas.List.Sums.{count_by-le-length, sum_by-cons}
use Rattle.mapf_model.specs.Grid.{GridMap, IsGridMap, IsFree, free_cell_count}
use Rattle.mapf_distance.specs.declared.wave.TheConstants.{BLOCKED, UNREACHED}
use Rattle.mapf_distance.specs.Marks.{entry_of, is_open, is_unreached, first_entry}
use Rattle.mapf_model.specs.Limits.{most_cells}

-- what an entry adds to the number of unreached cells
abbrev pub weight : ℕ → ℕ
weight entry = cond (is_unreached entry) 1 0

pub entry_of-set_same : (table : List ℕ) (cell entry : ℕ) → cell < length table → entry_of (slice_set table cell entry) cell ≡ entry
entry_of-set_same table cell entry within = get_or-set_same table cell entry BLOCKED within

pub entry_of-set_other : (table : List ℕ) (cell other entry : ℕ) → (other ≡ cell → ⊥) → entry_of (slice_set table cell entry) other ≡ entry_of table other
entry_of-set_other table cell other entry apart = get_or-set_other table cell other entry BLOCKED apart

-- a cell with an entry below `BLOCKED` is one of the table
pub within_table : (table : List ℕ) (cell : ℕ) → entry_of table cell < BLOCKED → cell < length table
within_table table cell small = ⊎_elim
    (λ (within : cell < length table). within)
    (λ (past : length table ≤ cell). let e = get_or_past table cell BLOCKED past in absurd (omega arith))
    (cases_lt cell (length table))

module _ (grid : GridMap) (table : List ℕ) (same : map is_open table ≡ grid.free) where
  flag : (cell : ℕ) → slice_index_or grid.free cell false ≡ is_open (entry_of table cell)
  flag cell = ap (λ flags. slice_index_or flags cell false) (sym same) ∙ get_or-map is_open table cell BLOCKED

  pub open_if_free : (cell : ℕ) → IsFree grid cell → entry_of table cell < BLOCKED
  open_if_free cell free = ltb-true (entry_of table cell) BLOCKED (sym (flag cell) ∙ free)

  pub free_if_open : (cell : ℕ) → entry_of table cell < BLOCKED → IsFree grid cell
  free_if_open cell small = flag cell ∙ lt-ltb (entry_of table cell) BLOCKED small

  pub as_long : length table ≡ length grid.free
  as_long = sym (length-map table is_open) ∙ ap length same

pub few_cells : (grid : GridMap) → IsGridMap grid → grid.width * grid.height ≤ most_cells
few_cells grid (_, width, _, height, _) = mul-le-mul width height

pub few_free : (grid : GridMap) → IsGridMap grid → free_cell_count grid ≤ most_cells
few_free grid shape = let cells = few_cells grid shape in let whole = shape.4 in omega (arith, count_by-le-length (λ free. free) grid.free)

-- the entries before any cell is reached
pub first_open : (flags : List Bool) → map is_open (map first_entry flags) ≡ flags
first_open [] = refl
first_open (true ∷ flags) = ap (λ rest. true ∷ rest) (first_open flags)
first_open (false ∷ flags) = ap (λ rest. false ∷ rest) (first_open flags)

pub first_count : (flags : List Bool) → count_by is_unreached (map first_entry flags) ≡ count_by (λ free. free) flags
first_count [] = refl
first_count (true ∷ flags) =
    sum_by-cons weight UNREACHED (map first_entry flags) ∙ ap (λ n. 1 + n) (first_count flags) ∙ sym (sum_by-cons (λ (flag : Bool). cond {A = ℕ} flag 1 0) true flags)
first_count (false ∷ flags) =
    sum_by-cons weight BLOCKED (map first_entry flags) ∙ ap (λ n. 0 + n) (first_count flags) ∙ sym (sum_by-cons (λ (flag : Bool). cond {A = ℕ} flag 1 0) false flags)

-- a cell is unreached if it is free
pub first_unreached : (flags : List Bool) (cell : ℕ) → slice_index_or flags cell false ≡ true → entry_of (map first_entry flags) cell ≡ UNREACHED
first_unreached flags cell free = get_or-map first_entry flags cell false ∙ ap first_entry free

pub first_none : (flags : List Bool) (cell : ℕ) → UNREACHED ≤ entry_of (map first_entry flags) cell
first_none flags cell = at_most (slice_index_or flags cell false) (entry_of (map first_entry flags) cell) (get_or-map first_entry flags cell false)
  where
    at_most : (free : Bool) (entry : ℕ) → entry ≡ first_entry free → UNREACHED ≤ entry
    at_most true entry e = omega arith
    at_most false entry e = omega arith
