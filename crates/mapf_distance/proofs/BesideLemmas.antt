-- The places beside a cell are looked at one after another, until the cell at one has a property.
use Rattle.std.proofs.Common.{◌≡◌, ℕ, ◌+◌, ◌<◌, ◌≤◌, Option, Some, None, List, Contains, length, slice_index_or, sym, ◌∙◌, ap, subst, ⊎_elim, arith}
use Rattle.std.proofs.lemmas.Bool.{cases_lt}
use Rattle.std.proofs.lemmas.List.{get_or_default}
use Rattle.mapf_model.specs.Grid.{GridMap, IsFree, Step}
use Rattle.mapf_model.specs.Neighbours.{neighbourhood}
use Rattle.mapf_model.proofs.StepLemmas.{neighbour_step, step_neighbour, neighbourhood_rises, rising_places}

-- no cell at the first `count` of the places has the property
abbrev pub IsNoneBefore : List (Option ℕ) → (ℕ → Type 0) → ℕ → Type 0
IsNoneBefore places P count = (place next : ℕ) → place < count → slice_index_or places place None ≡ Some next → P next → ⊥

pub none_more : (places : List (Option ℕ)) (P : ℕ → Type 0) (index : ℕ) (default : Option ℕ) → index < length places → IsNoneBefore places P index →
    ((next : ℕ) → slice_index_or places index default ≡ Some next → P next → ⊥) → IsNoneBefore places P (index + 1)
none_more places P index default within before here place next below is there = ⊎_elim
    (λ (earlier : place < index). before place next earlier is there)
    (λ (past : index ≤ place).
    let same : place ≡ index = omega arith in
    here next (get_or_default places index default None within ∙ subst (λ n. slice_index_or places n None ≡ Some next) same is) there)
    (cases_lt place index)

module _ (grid : GridMap) (cell : ℕ) (places : List (Option ℕ)) (beside : places ≡ neighbourhood grid.width cell) (wide : 0 < grid.width) (free : IsFree grid cell) where
  -- a free cell at one of the places is a step away
  pub place_step : (index next : ℕ) (default : Option ℕ) → index < 5 → slice_index_or places index default ≡ Some next → IsFree grid next → Step grid cell next
  place_step index next default few is free_next =
      let five = ap length beside in
      let within : index < length places = omega arith in
      neighbour_step grid cell wide free next (subst (λ list. Contains list (Some next)) beside (index, within, get_or_default places index (Some next) default within ∙ is)) free_next

  place_of : (next : ℕ) → Step grid cell next → (place : ℕ) × (place < 5) × (slice_index_or places place None ≡ Some next)
  place_of next step =
      let (place, within, is) = subst (λ list. Contains list (Some next)) (sym beside) (step_neighbour grid cell wide free next step) in
      (place, (let five = ap length beside in omega arith), get_or_default places place None (Some next) within ∙ is)

  -- a cell with the property was found
  pub none_left : (P : ℕ → Type 0) (count : ℕ) → 5 ≤ count → IsNoneBefore places P count → (next : ℕ) → Step grid cell next → P next → ⊥
  none_left P count all none next step there = let (place, few, is) = place_of next step in none place next (omega arith) is there

  -- an earlier cell with the property would have been taken, and the later cells have greater numbers
  pub first_least : (P : ℕ → Type 0) (index next : ℕ) (default : Option ℕ) → index < 5 → IsNoneBefore places P index → slice_index_or places index default ≡ Some next → (other : ℕ) → Step grid cell other → P other → next ≤ other
  first_least P index next default few none is other step there =
      let (place, low, at) = place_of other step in
      let five = ap length beside in
      ⊎_elim
      (λ (earlier : place < index). absurd (none place other earlier at there))
      (λ (past : index ≤ place).
      (rising_places 0 (neighbourhood grid.width cell) index place next other (neighbourhood_rises grid.width cell wide) past
      (subst (λ places. slice_index_or places index None ≡ Some next) beside (get_or_default places index None default (omega arith) ∙ is))
      (subst (λ places. slice_index_or places place None ≡ Some other) beside at)).1)
      (cases_lt place index)
