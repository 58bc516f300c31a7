-- The properties of a wave are preserved when a cell is reached, and at its end the entries are the distances.
use Rattle.std.proofs.Common.{◌≡◌, ◌⊎◌, ℕ, zero, suc, ◌+◌, ◌<◌, ◌≤◌, Bool, cond, List, [], ◌∷◌, ◌++◌, Contains, length, slice_index, slice_set, count_by, add-one, sym, ◌∙◌, ap, subst, inl, inr, ⊎_elim, arith}
use Rattle.std.proofs.Math.ListN.{get_or-append}
use Rattle.std.proofs.Math.Seq.{get_or-append_seam, map-set_same}
use Rattle.std.proofs.lemmas.Bool.{cases_lt, cases_eq, lt-ltb, ne_eqb}
use Rattle.std.proofs.lemmas.List.{length_push, get_or_default}
use Rattle.std.proofs.lemmas.List.Elements.{Contains-append_left, Contains-push}
use Rattle.std.proofs.lemmas.List.Sums.{sum_by-set, get_or-le-sum_by}
use Rattle.mapf_model.specs.Distance.{Walk}
use Rattle.mapf_model.specs.Grid.{GridMap, Step, free_cell_count}
use Rattle.mapf_distance.specs.declared.wave.TheConstants.{BLOCKED, UNREACHED}
use Rattle.mapf_distance.specs.Distances.{AreDistances}
use Rattle.mapf_distance.specs.Marks.{entry_of, is_open, is_unreached}
use Rattle.mapf_distance.specs.Wave.{IsWave, source_of, entry_at}
use Rattle.mapf_distance.proofs.MarkLemmas.{entry_of-set_same, entry_of-set_other, within_table, few_free, weight}
use Rattle.mapf_distance.proofs.StepLemmas.{Step-sym}
use Rattle.mapf_model.specs.Limits.{most_cells}

module _ (grid : GridMap) (done : ℕ) (table reached : List ℕ) (wave : IsWave grid done table reached) where
  -- no more cells were reached than are free
  pub few_reached : length reached ≤ most_cells
  few_reached = (let a = wave.count in let b = few_free grid wave.shape in omega arith)

  pub small_entry : (place : ℕ) → place < length reached → entry_at table reached place < most_cells
  small_entry place within = (let a = wave.entered place within in let b = few_reached in omega arith)

  -- a step from the cell that is at `done` leads to a cell that was not reached
  module _ (next : ℕ) (in_list : done < length reached) (step : Step grid (slice_index reached done) next) (fresh : entry_of table next ≡ UNREACHED) where
    distance : ℕ
    distance = entry_at table reached done + 1

    after : List ℕ
    after = slice_set table next distance

    longer : List ℕ
    longer = reached ++ next ∷ []

    within : next < length table
    within = within_table table next (omega arith)

    small : distance ≤ most_cells
    unfolding distance
    small = (let a = small_entry done in_list in omega arith)

    here : entry_of after next ≡ distance
    unfolding after
    here = entry_of-set_same table next distance within

    -- a cell with a distance keeps it
    kept : (cell : ℕ) → entry_of table cell < UNREACHED → entry_of after cell ≡ entry_of table cell
    unfolding after
    kept cell known = entry_of-set_other table next cell distance (λ same. let e = ap (entry_of table) same in absurd (omega arith))

    -- a cell with a distance is the new one or had it before
    cases : (cell : ℕ) → entry_of after cell < UNREACHED → (cell ≡ next) ⊎ (entry_of table cell < UNREACHED)
    unfolding after
    cases cell known = ⊎_elim
        (λ (same : cell ≡ next). inl same)
        (λ (apart : cell ≡ next → ⊥). inr (let e = entry_of-set_other table next cell distance apart in omega arith))
        (cases_eq cell next)

    place_before : (place : ℕ) → place < length reached → slice_index longer place ≡ slice_index reached place
    unfolding longer
    place_before place before = get_or-append reached (next ∷ []) 0 place before

    place_last : slice_index longer (length reached) ≡ next
    unfolding longer
    place_last = get_or-append_seam reached next [] 0

    entry_before : (place : ℕ) → place < length reached → entry_at after longer place ≡ entry_at table reached place
    entry_before place before =
        ap (entry_of after) (place_before place before) ∙ kept (slice_index reached place) (let a = small_entry place before in omega arith)

    entry_last : entry_at after longer (length reached) ≡ distance
    entry_last = ap (entry_of after) place_last ∙ here

    one_longer : length longer ≡ length reached + 1
    unfolding longer
    one_longer = length_push reached next

    -- what holds of the entries at the old places and at the new one holds at all places
    at_each : (P : ℕ → ℕ → Type 0) → ((place : ℕ) → place < length reached → P place (entry_at table reached place)) → P (length reached) distance →
        (place : ℕ) → place < length longer → P place (entry_at after longer place)
    at_each P before last place inside = ⊎_elim
        (λ (earlier : place < length reached). subst (P place) (sym (entry_before place earlier)) (before place earlier))
        (λ (past : length reached ≤ place).
        let total = one_longer in
        let is_last : length reached ≡ place = omega arith in
        subst (λ n. P n (entry_at after longer n)) is_last (subst (P (length reached)) (sym entry_last) last))
        (cases_lt place (length reached))

    source_same : source_of longer ≡ source_of reached
    source_same = place_before 0 wave.some

    new_walk : Walk grid next (source_of longer) (entry_of after next)
    unfolding distance
    new_walk =
        let from : ℕ = slice_index reached done in
        let walk = wave.walks from (let a = small_entry done in_list in omega arith) in
        subst (λ source. Walk grid next source (entry_of after next)) (sym source_same)
        (subst (λ n. Walk grid next (source_of reached) n) (sym (here ∙ add-one (entry_of table from))) (from, Step-sym grid from next step, walk))

    old_walk : (cell : ℕ) → entry_of table cell < UNREACHED → Walk grid cell (source_of longer) (entry_of after cell)
    old_walk cell known =
        subst (λ source. Walk grid cell source (entry_of after cell)) (sym source_same)
        (subst (λ n. Walk grid cell (source_of reached) n) (sym (kept cell known)) (wave.walks cell known))

    rises : (later : ℕ) → later < length longer → (earlier : ℕ) → earlier ≤ later → entry_at after longer earlier ≤ entry_at after longer later
    unfolding distance
    rises = at_each (λ later entry. (earlier : ℕ) → earlier ≤ later → entry_at after longer earlier ≤ entry)
        (λ later inside earlier le. let e = entry_before earlier (omega arith) in let a = wave.rising earlier later le inside in omega arith)
        (λ earlier le. ⊎_elim
        (λ (before : earlier < length reached). let e = entry_before earlier before in let a = wave.ahead done earlier (omega arith) in_list before in omega arith)
        (λ (past : length reached ≤ earlier).
        let is_last : length reached ≡ earlier = omega arith in
        let e = ap (entry_at after longer) (sym is_last) ∙ entry_last in omega arith)
        (cases_lt earlier (length reached)))

    near : (other : ℕ) → other < length longer → (place : ℕ) → place < length longer → done ≤ place → entry_at after longer other ≤ entry_at after longer place + 1
    unfolding distance
    near = at_each (λ other entry. (place : ℕ) → place < length longer → done ≤ place → entry ≤ entry_at after longer place + 1)
        (λ other inside. at_each (λ place entry. done ≤ place → entry_at table reached other ≤ entry + 1)
        (λ place within_list from. wave.ahead place other from within_list inside)
        (λ from. let a = wave.ahead done other (omega arith) in_list inside in omega arith))
        (at_each (λ place entry. done ≤ place → distance ≤ entry + 1)
        (λ place within_list from. let a = wave.rising done place from within_list in omega arith)
        (λ from. omega arith))

    -- cells with a distance keep it, and the places their cells
    pub reach_keeps : ((cell : ℕ) → entry_of table cell < UNREACHED → entry_of (slice_set table next (entry_at table reached done + 1)) cell ≡ entry_of table cell)
        × ((place : ℕ) → place < length reached → slice_index (reached ++ next ∷ []) place ≡ slice_index reached place)
        × (length reached < length (reached ++ next ∷ []))
    unfolding distance after longer
    reach_keeps = (kept, place_before, (let total = one_longer in omega arith))

    pub reach_enters : entry_of (slice_set table next (entry_at table reached done + 1)) next ≡ entry_at table reached done + 1
    unfolding distance after
    reach_enters = here

    fewer : length longer + count_by is_unreached after ≡ free_cell_count grid
    unfolding after
    fewer =
        let changed = sum_by-set weight table next distance BLOCKED within in
        let was : weight (entry_of table next) ≡ 1 = ap weight fresh in
        let bound = small in
        let is : weight distance ≡ 0 = ap (λ (b : Bool). cond {A = ℕ} b 1 0) (ne_eqb distance UNREACHED (λ e. omega arith)) in
        let total = one_longer in
        let before = wave.count in
        omega arith

    pub reach_next : IsWave grid done (slice_set table next (entry_at table reached done + 1)) (reached ++ next ∷ [])
    unfolding distance after longer
    reach_next = record {
      shape = wave.shape;
      free = map-set_same is_open table next distance BLOCKED (lt-ltb distance BLOCKED (let a = small in omega arith) ∙ sym (lt-ltb (entry_of table next) BLOCKED (omega arith))) ∙ wave.free;
      count = fewer;
      start = entry_before 0 wave.some ∙ wave.start;
      walks = λ cell known. ⊎_elim
          (λ (same : cell ≡ next). subst (λ at. Walk grid at (source_of longer) (entry_of after at)) (sym same) new_walk)
          (λ (known_before : entry_of table cell < UNREACHED). old_walk cell known_before)
          (cases cell known);
      listed = λ cell known. ⊎_elim
          (λ (same : cell ≡ next). subst (Contains longer) (sym same) (Contains-push reached next))
          (λ (known_before : entry_of table cell < UNREACHED). Contains-append_left reached (next ∷ []) cell (wave.listed cell known_before))
          (cases cell known);
      entered = at_each (λ place entry. entry ≤ place) wave.entered (let a = wave.entered done in_list in omega arith);
      rising = λ before later le inside. rises later inside before le;
      ahead = λ place other from inside inside_other. near other inside_other place inside from;
      taken = λ place to before step_to.
          let in_reached : place < length reached = omega arith in
          let old = wave.taken place to before (subst (λ cell. Step grid cell to) (place_before place in_reached) step_to) in
          let low = small_entry place in_reached in
          let e = kept to (omega arith) in
          let f = entry_before place in_reached in
          omega arith;
      some = (let total = one_longer in omega arith);
      bound = (let total = one_longer in let a = wave.bound in omega arith);
    }

  -- a cell that is not reached yet has room among the reached ones
  pub has_room : (cell : ℕ) → entry_of table cell ≡ UNREACHED → length reached < free_cell_count grid
  has_room cell fresh =
      let within = within_table table cell (omega arith) in
      let one = get_or-le-sum_by weight table cell BLOCKED within in
      let is : weight (entry_of table cell) ≡ 1 = ap weight fresh in
      let total = wave.count in
      omega arith

  -- the place of a cell with a distance
  pub place_of : (cell : ℕ) → entry_of table cell < UNREACHED → (place : ℕ) × (place < length reached) × (slice_index reached place ≡ cell)
  place_of cell known =
      let (place, within, is) = wave.listed cell known in
      (place, within, get_or_default reached place 0 cell within ∙ is)

  -- no cell that is reached so far is farther from the goal than the cell at `done` by more than one step
  pub known_bound : (cell : ℕ) → done < length reached → entry_of table cell < UNREACHED → entry_of table cell ≤ entry_at table reached done + 1
  known_bound cell in_list known =
      let (place, within, is) = place_of cell known in
      let e = ap (entry_of table) is in
      let a = wave.ahead done place (omega arith) in_list within in
      omega arith

  -- all steps from the cell at `done` were taken
  pub close : done < length reached → ((to : ℕ) → Step grid (slice_index reached done) to → entry_of table to ≤ entry_at table reached done + 1) → IsWave grid (done + 1) table reached
  close in_list all_taken =
      let bound : done + 1 ≤ length reached = omega arith in
      let ahead = λ (place other : ℕ) (from : done + 1 ≤ place). wave.ahead place other (omega arith) in
      let taken = λ (place to : ℕ) (before : place < done + 1) (step : Step grid (slice_index reached place) to). ⊎_elim {C = entry_of table to ≤ entry_at table reached place + 1}
      (λ (earlier : place < done). wave.taken place to earlier step)
      (λ (past : done ≤ place).
      let here : place ≡ done = omega arith in
      let e = ap (entry_at table reached) here in
      let a = all_taken to (subst (λ n. Step grid (slice_index reached n) to) here step) in
      omega arith)
      (cases_lt place done) in
      assumption

-- when all steps were taken, each entry is the cell's distance
module _ (grid : GridMap) (table reached : List ℕ) (wave : IsWave grid (length reached) table reached) where
  walk_bound : (n cell : ℕ) → Walk grid cell (source_of reached) n → (entry_of table cell < UNREACHED) × (entry_of table cell ≤ n)
  walk_bound zero cell (free, same) =
      let e = ap (entry_of table) same in
      let s = wave.start in
      (omega arith, omega arith)
  walk_bound (suc n) cell (next, step, walk) =
      let (known, le) = walk_bound n next walk in
      let (place, within, is) = place_of grid (length reached) table reached wave next known in
      let e = ap (entry_of table) is in
      let low = small_entry grid (length reached) table reached wave place within in
      let a = wave.taken place cell within (subst (λ from. Step grid from cell) (sym is) (Step-sym grid cell next step)) in
      (omega arith, omega arith)

  pub wave_end : AreDistances grid (source_of reached) table
  wave_end = record {
    shape = wave.shape;
    exact = λ cell known. record { walk = wave.walks cell known; least = λ n walk. (walk_bound n cell walk).1 };
    small = λ cell known.
        let (place, within, is) = place_of grid (length reached) table reached wave cell known in
        let e = ap (entry_of table) is in
        let a = wave.entered place within in
        let b = wave.count in
        omega arith;
    bounded = λ cell known.
        let (place, within, is) = place_of grid (length reached) table reached wave cell known in
        let e = ap (entry_of table) is in
        let low = small_entry grid (length reached) table reached wave place within in
        omega arith;
    none = λ cell far n walk. let (known, le) = walk_bound n cell walk in absurd (omega arith);
  }
