-- The steps from one reached cell are taken one after another.
use Rattle.std.proofs.Common.{◌≡◌, ℕ, ◌+◌, ◌<◌, ◌≤◌, Option, Some, None, List, [], ◌∷◌, ◌++◌, Contains, length, slice_index, slice_index_or, slice_set, IfSome, inl, inr, refl, sym, ◌∙◌, ap, subst, ⊎_elim, arith}
use Rattle.std.proofs.lemmas.Bool.{cases_lt, cases_eq}
use Rattle.std.proofs.lemmas.List.{get_or_default}
use Rattle.std.proofs.lemmas.Option.{same_Some, none-some}
use Rattle.mapf_model.specs.Grid.{GridMap, IsFree, free_cell_count}
use Rattle.mapf_model.specs.Neighbours.{neighbourhood}
use Rattle.mapf_model.proofs.StepLemmas.{neighbour_step, step_neighbour, step_end}
use Rattle.mapf_distance.specs.declared.wave.TheConstants.{BLOCKED, UNREACHED}
use Rattle.mapf_distance.specs.Marks.{entry_of}
use Rattle.mapf_distance.specs.Wave.{IsEntered, IsWave, source_of, entry_at}
use Rattle.mapf_distance.proofs.MarkLemmas.{open_if_free, free_if_open, entry_of-set_other}
use Rattle.mapf_distance.proofs.WaveLemmas.{small_entry, reach_next, reach_keeps, reach_enters, known_bound, has_room, close}

-- the free cells at the first `count` of the places have a distance of at most this
abbrev pub AreTaken : ℕ → List (Option ℕ) → ℕ → List ℕ → Type 0
AreTaken distance places count table = (k next : ℕ) → k < count → slice_index_or places k None ≡ Some next → entry_of table next < BLOCKED → entry_of table next ≤ distance

-- the steps to the first `count` of the places beside the cell at `place` were taken
pub record IsExpanding (grid : GridMap) (place distance : ℕ) (old : List ℕ) (places : List (Option ℕ)) (count : ℕ) (table reached : List ℕ) : Type 0 where
  pub beside : places ≡ neighbourhood grid.width (slice_index old place)
  pub wave : IsWave grid place table reached
  pub inside : place < length reached
  pub next : entry_at table reached place + 1 ≡ distance
  pub from : slice_index reached place ≡ slice_index old place
  pub source : source_of reached ≡ source_of old
  pub taken : AreTaken distance places count table

pub expand_start : {grid : GridMap} {place distance width cell : ℕ} {places : List (Option ℕ)} {table reached : List ℕ} → IsWave grid place table reached → place < length reached → cell ≡ slice_index reached place → width ≡ grid.width →
    places ≡ neighbourhood width cell → distance ≡ entry_of table cell + 1 → IsExpanding grid place distance reached places 0 table reached
expand_start {grid} {place} {distance} {width} {cell} {places} {table} {reached} wave inside is wide beside next = record {
  beside = beside ∙ ap (neighbourhood width) is ∙ ap (λ w. neighbourhood w (slice_index reached place)) wide;
  wave = wave;
  inside = inside;
  next = sym (next ∙ ap (λ c. entry_of table c + 1) is);
  from = refl;
  source = refl;
  taken = λ k next none. absurd (omega arith);
}

module _ {grid : GridMap} {place distance : ℕ} {old : List ℕ} {places : List (Option ℕ)} {count : ℕ} {table reached : List ℕ} (e : IsExpanding grid place distance old places count table reached) where
  -- there is room for each cell that wasn't reached
  pub room_for : (len capacity : ℕ) → len ≡ length reached → free_cell_count grid ≤ capacity → (to : Option ℕ) → IfSome to (λ next. entry_of table next ≡ UNREACHED → len < capacity)
  room_for len capacity is enough None = tt
  room_for len capacity is enough (Some to) = λ fresh. (let room = has_room grid place table reached e.wave to fresh in omega arith)

  cell : ℕ
  cell = slice_index reached place

  -- the cell from which the steps are taken is free
  free_cell : IsFree grid cell
  unfolding cell
  free_cell = free_if_open grid table e.wave.free cell (let low = small_entry grid place table reached e.wave place e.inside in omega arith)

  at_cell : places ≡ neighbourhood grid.width cell
  unfolding cell
  at_cell = e.beside ∙ ap (neighbourhood grid.width) (sym e.from)

  wide : 0 < grid.width
  wide = (let positive = e.wave.shape.0 in omega arith)

  taken_next : (after : List ℕ) → AreTaken distance places count after → ((next : ℕ) → slice_index_or places count None ≡ Some next → entry_of after next < BLOCKED → entry_of after next ≤ distance) →
      AreTaken distance places (count + 1) after
  taken_next after before here k next lt is = ⊎_elim
      (λ (earlier : k < count). before k next earlier is)
      (λ (past : count ≤ k). let last : k ≡ count = omega arith in here next (subst (λ n. slice_index_or places n None ≡ Some next) last is))
      (cases_lt k count)

  -- no unreached cell is at this place
  expand_skip : ((next : ℕ) → slice_index_or places count None ≡ Some next → entry_of table next ≡ UNREACHED → ⊥) → IsExpanding grid place distance old places (count + 1) table reached
  expand_skip known =
      let taken = taken_next table e.taken (λ next is small.
      let n = e.next in
      let differs = known next is in
      let b = known_bound grid place table reached e.wave next e.inside (reached_if_known (entry_of table next) small differs) in
      omega arith) in
      assumption
    where
      reached_if_known : (entry : ℕ) → entry < BLOCKED → (entry ≡ UNREACHED → ⊥) → entry < UNREACHED
      reached_if_known entry small differs = omega arith

  expand_reach : (to : ℕ) → count < length places → slice_index_or places count None ≡ Some to → entry_of table to ≡ UNREACHED → IsExpanding grid place distance old places (count + 1) (slice_set table to distance) (reached ++ to ∷ [])
  unfolding cell
  expand_reach to within is fresh =
      let free_to = free_if_open grid table e.wave.free to (omega arith) in
      let held : Contains places (Some to) = (count, within, get_or_default places count (Some to) None within ∙ is) in
      let go = neighbour_step grid cell wide free_cell to (subst (λ list. Contains list (Some to)) at_cell held) free_to in
      let keeps = reach_keeps grid place table reached e.wave to e.inside go fresh in
      let enters = reach_enters grid place table reached e.wave to e.inside go fresh in
      let low = small_entry grid place table reached e.wave place e.inside in
      let n = e.next in
      let after : List ℕ = slice_set table to (entry_at table reached place + 1) in
      subst (λ d. IsExpanding grid place distance old places (count + 1) (slice_set table to d) (reached ++ to ∷ [])) e.next (record {
        beside = e.beside;
        wave = reach_next grid place table reached e.wave to e.inside go fresh;
        inside = (let more = keeps.2 in let before = e.inside in omega arith);
        next = ap (λ entry. entry + 1) (ap (entry_of after) (keeps.1 place e.inside) ∙ keeps.0 (slice_index reached place) (omega arith)) ∙ e.next;
        from = keeps.1 place e.inside ∙ e.from;
        source = keeps.1 0 e.wave.some ∙ e.source;
        taken = taken_next after
            (λ k next before next_is small. ⊎_elim
            (λ (same : next ≡ to). let there = ap (entry_of after) same in omega arith)
            (λ (apart : next ≡ to → ⊥).
            let kept = entry_of-set_other table to next (entry_at table reached place + 1) apart in
            let t = e.taken k next before next_is (omega arith) in omega arith)
            (cases_eq next to))
            (λ next next_is small.
            let same = same_Some next to (sym next_is ∙ is) in
            let there = ap (entry_of after) same in omega arith);
      })

  -- the cell at this place was entered if it is one that wasn't reached
  pub expand_enter : (default : Option ℕ) (new_table new_reached : List ℕ) → count < 5 → IsEntered (slice_index_or places count default) distance table reached new_table new_reached →
      IsExpanding grid place distance old places (count + 1) new_table new_reached
  expand_enter default new_table new_reached few entered = enter (slice_index_or places count default) (get_or_default places count None default within) entered
    where
      within : count < length places
      within = let five = ap length e.beside in omega arith

      enter : (to : Option ℕ) → slice_index_or places count None ≡ to → IsEntered to distance table reached new_table new_reached → IsExpanding grid place distance old places (count + 1) new_table new_reached
      enter None is same = rw (same.0, same.1) (expand_skip (λ next next_is fresh. absurd (none-some next (sym is ∙ next_is))))
      enter (Some to) is (inl fresh) = rw (fresh.1, fresh.2) (expand_reach to within is fresh.0)
      enter (Some to) is (inr known) = rw (known.1, known.2) (expand_skip (λ next next_is fresh. known.0 (ap (entry_of table) (same_Some to next (sym is ∙ next_is)) ∙ fresh)))

  -- the cell itself was reached
  pub expand_self : slice_index_or places count None ≡ Some (slice_index old place) → IsExpanding grid place distance old places (count + 1) table reached
  expand_self is = expand_skip (λ next next_is fresh.
      let same = same_Some (slice_index old place) next (sym is ∙ next_is) in
      let here = ap (entry_of table) (e.from ∙ same) in
      let low = small_entry grid place table reached e.wave place e.inside in
      omega arith)

  pub expand_end : 5 ≤ count → IsWave grid (place + 1) table reached
  unfolding cell
  expand_end all = close grid place table reached e.wave e.inside (λ to go.
      let (k, within, is) = subst (λ list. Contains list (Some to)) (sym at_cell) (step_neighbour grid cell wide free_cell to go) in
      let five = ap length e.beside in
      let t = e.taken k to (omega arith) (get_or_default places k None (Some to) within ∙ is) (open_if_free grid table e.wave.free to (step_end grid cell to go)) in
      let n = e.next in
      omega arith)
