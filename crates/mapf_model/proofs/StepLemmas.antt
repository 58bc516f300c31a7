-- The free cells of a neighbourhood are the steps from its cell, in rising number.
use Rattle.std.proofs.Common.{append_assoc, ◌≡◌, ℕ, zero, suc, ◌+◌, ◌-◌, ◌*◌, ◌/◌, ◌%◌, ◌<◌, ◌≤◌, Bool, true, false, cond, Option, Some, None, List, [], ◌∷◌, ◌++◌, Contains, length, get_or, slice_index_or, take, nat_le, nat_lt, refl, sym, ◌∙◌, ap, subst, inl, inr, ⊎_elim, arith}
use Rattle.std.proofs.lemmas.Bool.{ltb-true, lt-ltb, leb-true, le-leb, cases_lt, cond_both}
use Rattle.std.proofs.lemmas.Nat.{div-mul-add, mod-mul-add, div-add-mod', mod_below}
use Rattle.std.proofs.lemmas.Option.{cond_some, same_Some}
use Rattle.std.proofs.lemmas.List.Elements.{Contains-append_cases, Contains-append_left, Contains-append_right}
use Rattle.std.proofs.lemmas.List.{append-nil, get_or_past, length_push, take_more}
use Rattle.std.proofs.Math.ListN.{get_or-append}
use Rattle.std.proofs.Math.Seq.{get_or-append_seam}
use Rattle.std.specs.List.Sorted.{IsStrictlyIncreasing}
use Rattle.mapf_model.specs.Grid.{GridMap, IsGridMap, IsFree, Step}
use Rattle.mapf_model.specs.Printed.{IsOnGrid}
use Rattle.mapf_model.specs.Neighbours.{neighbourhood, free_cell, free_cells}

-- rows and columns on a grid of this width
module _ (w : ℕ) (wide : 0 < w) where
  pub number : (n : ℕ) → n ≡ n / w * w + n % w
  number n = sym (div-add-mod' n w)

  at : (q r n : ℕ) → r < w → n ≡ q * w + r → (n / w ≡ q) × (n % w ≡ r)
  at q r n small e = (rw e (div-mul-add q w r small), rw e (mod-mul-add q w r small))

  -- a row further down
  pub down : (a b : ℕ) → a + w ≡ b → (b / w ≡ a / w + 1) × (a % w ≡ b % w)
  down a b e =
      let whole = number a in
      let place = at (a / w + 1) (a % w) b (mod_below a w wide) (omega arith) in
      (place.0, sym place.1)

  is_down : (a b : ℕ) → b / w ≡ a / w + 1 → a % w ≡ b % w → a + w ≡ b
  is_down a b rows columns =
      let product : b / w * w ≡ (a / w + 1) * w = ap (λ n. n * w) rows in
      let one = number a in
      let two = number b in
      omega arith

  -- a column further right
  pub along : (a b : ℕ) → a + 1 ≡ b → a % w + 1 < w → (a / w ≡ b / w) × (b % w ≡ a % w + 1)
  along a b e small =
      let whole = number a in
      let place = at (a / w) (a % w + 1) b small (omega arith) in
      (sym place.0, place.1)

  pub along_before : (a b : ℕ) → a + 1 ≡ b → 0 < b % w → (a / w ≡ b / w) × (b % w ≡ a % w + 1)
  along_before a b e positive =
      let p : ℕ = b % w - 1 in
      let whole = number b in
      let below = mod_below b w wide in
      let place = at (b / w) p a (omega arith) (omega arith) in
      (place.0, (let c = place.1 in omega arith))

  is_along : (a b : ℕ) → a / w ≡ b / w → b % w ≡ a % w + 1 → a + 1 ≡ b
  is_along a b rows columns =
      let product : a / w * w ≡ b / w * w = ap (λ n. n * w) rows in
      let one = number a in
      let two = number b in
      omega arith

module _ (grid : GridMap) (cell : ℕ) (wide : 0 < grid.width) (free : IsFree grid cell) where
  -- a free cell of the neighbourhood is a step away
  pub neighbour_step : (to : ℕ) → Contains (neighbourhood grid.width cell) (Some to) → IsFree grid to → Step grid cell to
  neighbour_step to (zero, within, is) free_to =
      let found = cond_some (nat_le grid.width cell) (cell - grid.width) to is in
      let high = leb-true grid.width cell found.0 in
      let move = down grid.width wide to cell (let e = found.1 in omega arith) in
      inr (record { from_free = free; to_free = free_to; apart = inr (sym move.1, inl move.0) })
  neighbour_step to (suc zero, within, is) free_to =
      let found = cond_some (nat_lt 0 (cell % grid.width)) (cell - 1) to is in
      let positive = ltb-true 0 (cell % grid.width) found.0 in
      let whole = number grid.width wide cell in
      let move = along_before grid.width wide to cell (let e = found.1 in omega arith) positive in
      inr (record { from_free = free; to_free = free_to; apart = inl (sym move.0, inl move.1) })
  neighbour_step to (suc (suc zero), within, is) free_to = inl (free, same_Some cell to is)
  neighbour_step to (suc (suc (suc zero)), within, is) free_to =
      let found = cond_some (nat_lt (cell % grid.width + 1) grid.width) (cell + 1) to is in
      let move = along grid.width wide cell to found.1 (ltb-true (cell % grid.width + 1) grid.width found.0) in
      inr (record { from_free = free; to_free = free_to; apart = inl (move.0, inr move.1) })
  neighbour_step to (suc (suc (suc (suc zero))), within, is) free_to =
      let move = down grid.width wide cell to (same_Some (cell + grid.width) to is) in
      inr (record { from_free = free; to_free = free_to; apart = inr (move.1, inr move.0) })
  neighbour_step to (suc (suc (suc (suc (suc k)))), within, is) free_to = absurd (omega arith)

  -- each step leads to a cell of the neighbourhood
  pub step_neighbour : (to : ℕ) → Step grid cell to → Contains (neighbourhood grid.width cell) (Some to)
  step_neighbour to (inl wait) = (2, omega arith, ap Some wait.1)
  step_neighbour to (inr move) = ⊎_elim
      (λ in_row. ⊎_elim
      (λ left.
      let e = is_along grid.width wide to cell (sym in_row.0) left in
      (1, omega arith, rw (lt-ltb 0 (cell % grid.width) (omega arith)) (ap Some (omega arith))))
      (λ right.
      let e = is_along grid.width wide cell to in_row.0 right in
      let below = mod_below to grid.width wide in
      (3, omega arith, rw (lt-ltb (cell % grid.width + 1) grid.width (omega arith)) (ap Some e)))
      in_row.1)
      (λ in_column. ⊎_elim
      (λ up.
      let e = is_down grid.width wide to cell up (sym in_column.0) in
      (0, omega arith, rw (le-leb grid.width cell (omega arith)) (ap Some (omega arith))))
      (λ down. (4, omega arith, ap Some (is_down grid.width wide cell to down in_column.0)))
      in_column.1)
      move.apart

-- the cells at the places rise in number, from this one on
abbrev pub AreRising : ℕ → List (Option ℕ) → Type 0
AreRising least [] = Unit {0}
AreRising least (None ∷ places) = AreRising least places
AreRising least (Some cell ∷ places) = (least ≤ cell) × AreRising (cell + 1) places

rising_from : (least next : ℕ) (places : List (Option ℕ)) → least ≤ next → AreRising next places → AreRising least places
rising_from least next [] low rising = tt
rising_from least next (None ∷ places) low rising = rising_from least next places low rising
rising_from least next (Some cell ∷ places) low rising = (omega arith, rising.1)

rising_if : (test : Bool) (least cell next : ℕ) (places : List (Option ℕ)) → least ≤ next → (test ≡ true → (least ≤ cell) × (cell < next)) → AreRising next places →
    AreRising least (cond test (Some cell) None ∷ places)
rising_if true least cell next places low fits rising = let fit = fits refl in (fit.0, rising_from (cell + 1) next places (omega arith) rising)
rising_if false least cell next places low fits rising = rising_from least next places low rising

pub neighbourhood_rises : (w cell : ℕ) → 0 < w → AreRising 0 (neighbourhood w cell)
neighbourhood_rises w cell wide =
    let whole = number w wide cell in
    let small = mod_below cell w wide in
    rising_if (nat_le w cell) 0 (cell - w) (cell + 1 - w) _ (omega arith) (λ e. let high = leb-true w cell e in (omega arith, omega arith))
    (rising_if (nat_lt 0 (cell % w)) (cell + 1 - w) (cell - 1) cell _ (omega arith) (λ e. let positive = ltb-true 0 (cell % w) e in (omega arith, omega arith)) (
      omega arith,
      rising_if (nat_lt (cell % w + 1) w) (cell + 1) (cell + 1) (cell + w) _ (omega arith) (λ e. let fits = ltb-true (cell % w + 1) w e in (omega arith, omega arith))
          (omega arith, tt),
    ))

-- the cell at an earlier place is no greater
pub rising_places : (least : ℕ) (places : List (Option ℕ)) (a b x y : ℕ) → AreRising least places → a ≤ b →
    slice_index_or places a None ≡ Some x → slice_index_or places b None ≡ Some y → (least ≤ x) × (x ≤ y)
rising_places least [] a b x y rising order is_x is_y = absurd cc
rising_places least (None ∷ places) zero b x y rising order is_x is_y = absurd cc
rising_places least (None ∷ places) (suc a) zero x y rising order is_x is_y = absurd (omega arith)
rising_places least (None ∷ places) (suc a) (suc b) x y rising order is_x is_y = rising_places least places a b x y rising (omega arith) is_x is_y
rising_places least (Some cell ∷ places) zero zero x y rising order is_x is_y = let e = same_Some cell x is_x in let f = same_Some cell y is_y in let low = rising.0 in (omega arith, omega arith)
rising_places least (Some cell ∷ places) zero (suc b) x y rising order is_x is_y =
    let e = same_Some cell x is_x in
    let low = rising.0 in
    let after = rising_places (cell + 1) places b b y y rising.1 (omega arith) is_y is_y in
    (omega arith, omega arith)
rising_places least (Some cell ∷ places) (suc a) zero x y rising order is_x is_y = absurd (omega arith)
rising_places least (Some cell ∷ places) (suc a) (suc b) x y rising order is_x is_y =
    let low = rising.0 in
    let after = rising_places (cell + 1) places a b x y rising.1 (omega arith) is_x is_y in
    (omega arith, after.1)

-- the numbers rise, and are below the bound
record Rises (bound : ℕ) (xs : List ℕ) : Type 0 where
  pub strictly : IsStrictlyIncreasing xs
  pub below : (k : ℕ) → k < length xs → get_or xs k 0 < bound

rises_push : (bound : ℕ) (xs : List ℕ) (x : ℕ) → Rises bound xs → bound ≤ x → Rises (x + 1) (xs ++ x ∷ [])
rises_push bound xs x r low = record {
  strictly = λ k within. ⊎_elim
      (λ (inside : k + 1 < length xs). rw (get_or-append xs (x ∷ []) 0 k (omega arith), get_or-append xs (x ∷ []) 0 (k + 1) inside) (r.strictly k inside))
      (λ (past : length xs ≤ k + 1).
      let total = length_push xs x in
      let last : k + 1 ≡ length xs = omega arith in
      let under = r.below k (omega arith) in
      let least : get_or xs k 0 < x = omega arith in
      rw (get_or-append xs (x ∷ []) 0 k (omega arith), last, get_or-append_seam xs x [] 0) least)
      (cases_lt (k + 1) (length xs));
  below = λ k within. ⊎_elim
      (λ (inside : k < length xs). let under = r.below k inside in rw (get_or-append xs (x ∷ []) 0 k inside) (omega arith))
      (λ (past : length xs ≤ k).
      let total = length_push xs x in
      let last : k ≡ length xs = omega arith in
      rw (last, get_or-append_seam xs x [] 0) (omega arith))
      (cases_lt k (length xs));
}

module _ (grid : GridMap) where
  cells_rise : (bound : ℕ) (xs : List ℕ) (places : List (Option ℕ)) → Rises bound xs → AreRising bound places → IsStrictlyIncreasing (xs ++ free_cells grid places)
  cells_rise bound xs [] rises rising = rw append-nil rises.strictly
  cells_rise bound xs (None ∷ places) rises rising = cells_rise bound xs places rises rising
  cells_rise bound xs (Some cell ∷ places) rises rising =
      cond_both (slice_index_or grid.free cell false) (cell ∷ []) [] (λ ys. IsStrictlyIncreasing (xs ++ (ys ++ free_cells grid places)))
      (λ free. subst IsStrictlyIncreasing (append_assoc xs (cell ∷ []) (free_cells grid places)) (cells_rise (cell + 1) (xs ++ cell ∷ []) places (rises_push bound xs cell rises rising.0) rising.1))
      (λ blocked. cells_rise (cell + 1) xs places (record { strictly = rises.strictly; below = λ k within. let under = rises.below k within in let low = rising.0 in omega arith }) rising.1)

  pub free_cells_rise : (cell : ℕ) → 0 < grid.width → IsStrictlyIncreasing (free_cells grid (neighbourhood grid.width cell))
  free_cells_rise cell wide = cells_rise 0 [] (neighbourhood grid.width cell) (record { strictly = λ k within. absurd (omega arith); below = λ k within. absurd (omega arith) }) (neighbourhood_rises grid.width cell wide)

  pub from_free_cells : (places : List (Option ℕ)) (to : ℕ) → Contains (free_cells grid places) to → Contains places (Some to) × IsFree grid to
  from_free_cells [] to (k, within, is) = absurd (omega arith)
  from_free_cells (None ∷ places) to held = let (at, free) = from_free_cells places to held in (Contains-append_right (None ∷ []) places (Some to) at, free)
  from_free_cells (Some cell ∷ places) to held = ⊎_elim
      (λ (here : Contains (free_cell grid (Some cell)) to). let (is, free) = only (slice_index_or grid.free cell false) refl here in ((0, omega arith, is), free))
      (λ (later : Contains (free_cells grid places) to). let (at, free) = from_free_cells places to later in (Contains-append_right (Some cell ∷ []) places (Some to) at, free))
      (Contains-append_cases (free_cell grid (Some cell)) (free_cells grid places) to held)
    where
      only : (test : Bool) → slice_index_or grid.free cell false ≡ test → Contains (cond test (cell ∷ []) []) to → (Some cell ≡ Some to) × IsFree grid to
      only true free (zero, within, is) = (ap Some is, subst (λ c. IsFree grid c) is free)
      only true free (suc k, within, is) = absurd (omega arith)
      only false free (k, within, is) = absurd (omega arith)

  pub to_free_cells : (places : List (Option ℕ)) (to : ℕ) → Contains places (Some to) → IsFree grid to → Contains (free_cells grid places) to
  to_free_cells [] to (k, within, is) free = absurd (omega arith)
  to_free_cells (place ∷ places) to (zero, within, is) free =
      let single : free_cell grid (Some to) ≡ to ∷ [] = rw free in
      Contains-append_left (free_cell grid place) (free_cells grid places) to (rw (is, single) (0, omega arith, refl))
  to_free_cells (place ∷ places) to (suc k, within, is) free = Contains-append_right (free_cell grid place) (free_cells grid places) to (to_free_cells places to (k, omega arith, is) free)

  free_cells_push : (places : List (Option ℕ)) (place : Option ℕ) → free_cells grid (places ++ place ∷ []) ≡ free_cells grid places ++ free_cell grid place
  free_cells_push [] place = append-nil (free_cell grid place)
  free_cells_push (first ∷ places) place = ap (λ cells. free_cell grid first ++ cells) (free_cells_push places place) ∙ sym (append_assoc (free_cell grid first) (free_cells grid places) (free_cell grid place))

  -- the free cells of one place more
  pub free_cells_more : (places : List (Option ℕ)) (index : ℕ) (place default : Option ℕ) (cells : List ℕ) → index < length places → slice_index_or places index default ≡ place →
      cells ≡ free_cells grid (take index places) → cells ++ free_cell grid place ≡ free_cells grid (take (index + 1) places)
  free_cells_more places index place default cells within is before =
      ap (λ cells. cells ++ free_cell grid place) before ∙ ap (λ place. free_cells grid (take index places) ++ free_cell grid place) (sym is)
      ∙ sym (ap (free_cells grid) (take_more places index default within) ∙ free_cells_push (take index places) (slice_index_or places index default))

-- a free cell has a flag, and is on the grid
pub free_within : (grid : GridMap) (cell : ℕ) → IsFree grid cell → cell < length grid.free
free_within grid cell free = ⊎_elim
    (λ (inside : cell < length grid.free). inside)
    (λ (past : length grid.free ≤ cell). let none : true ≡ false = sym free ∙ get_or_past grid.free cell false past in absurd cc)
    (cases_lt cell (length grid.free))

pub free_on_grid : (grid : GridMap) (cell : ℕ) → IsGridMap grid → IsFree grid cell → IsOnGrid grid cell
free_on_grid grid cell shape free = subst (λ n. cell < n) shape.4 (free_within grid cell free)

-- a step begins in a free cell, and ends in one
pub step_start : (grid : GridMap) (from to : ℕ) → Step grid from to → IsFree grid from
step_start grid from to (inl (free, same)) = free
step_start grid from to (inr move) = move.from_free

pub step_end : (grid : GridMap) (from to : ℕ) → Step grid from to → IsFree grid to
step_end grid from to (inl (free, same)) = subst (λ cell. IsFree grid cell) same free
step_end grid from to (inr move) = move.to_free
