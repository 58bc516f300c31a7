-- Visits of paths.
use Rattle.std.proofs.Common.{◌≡◌, ◌≢◌, ◌⊎◌, ℕ, zero, suc, ◌+◌, ◌-◌, min, slice_index, get_or, take, All, ◌<◌, ◌≤◌, List, [], ◌∷◌, ◌++◌, Some, length, slice_get, refl, sym, ap, subst, ◌∙◌, inl, inr, ⊎_elim, arith, length-append}
use Rattle.std.proofs.lemmas.Bool.{cases_lt}
use Rattle.std.proofs.lemmas.Option.{same_Some, slice_get_within, slice_get_past, slice_get-get_or, get_or_from_slice_get}
use Rattle.mapf_model.specs.Limits.{most_path_cells}
use Rattle.mapf_model.proofs.ClaimLemmas.{slice_get_inside}
use Rattle.mapf_model.specs.Path.{at}
use Rattle.mapf_player.specs.declared.visit.Visit.{Visit}
use Rattle.mapf_player.specs.Visits.{IsEntry, AreVisitsOf, AreVisitsOfAll, IsVisit, VisitsAreOne}
use Rattle.mapf_model.proofs.PlaceLemmas.{same_places, slice_get-front, slice_get-here, take-next}

-- a path has a first visit, at tick 0
pub first_visit : (path : List ℕ) (own : List Visit) → AreVisitsOf path own → (visit : Visit) × (slice_get own 0 ≡ Some visit) × (visit.entry ≡ 0)
first_visit path own are =
    let (n, visit, is, entry) = are.all 0 (inl refl) in
    let (first, is_first) = slice_get_inside own 0 (let within = slice_get_within own n visit is in omega arith) in
    (first, is_first, first_entry n visit is entry first is_first)
  where
    first_entry : (n : ℕ) (visit : Visit) → slice_get own n ≡ Some visit → visit.entry ≡ 0 → (first : Visit) → slice_get own 0 ≡ Some first → first.entry ≡ 0
    first_entry zero visit is entry first is_first = ap (λ (v : Visit). v.entry) (same_Some first visit (sym is_first ∙ is)) ∙ entry
    first_entry (suc n) visit is entry first is_first = let before = are.rising 0 (suc n) first visit (omega arith) is_first is in omega arith

-- an agent has one visit of a number
pub one_visit : (visits : List (List Visit)) (agent number : ℕ) (a b : Visit) → IsVisit visits agent number a → IsVisit visits agent number b → a ≡ b
one_visit visits agent number a b (own, is_own, is_a) (other, is_other, is_b) =
    let same : own ≡ other = same_Some own other (sym is_own ∙ is_other) in
    same_Some a b (sym is_a ∙ subst (λ (o : List Visit). slice_get o number ≡ Some b) (sym same) is_b)

-- the path of an agent, and its visits
pub path_of : (plan : List (List ℕ)) (visits : List (List Visit)) → AreVisitsOfAll plan visits → (agent : ℕ) (own : List Visit) → slice_get visits agent ≡ Some own → (path : List ℕ) × (slice_get plan agent ≡ Some path) × AreVisitsOf path own
path_of plan visits all agent own is =
    let (path, is_path) = slice_get_inside plan agent (let within = slice_get_within visits agent own is in let count = all.count in omega arith) in
    (path, is_path, all.each agent path own is_path is)

same_parts : (x y : Visit) → x.cell ≡ y.cell → x.entry ≡ y.entry → x ≡ y
same_parts x y cell entry = ap (λ (c : ℕ). record { cell = c; entry = x.entry }) cell ∙ ap (λ (t : ℕ). record { cell = y.cell; entry = t }) entry

module _ (path : List ℕ) where
  abbrev AgreeBelow : List Visit → List Visit → ℕ → Type 0
  AgreeBelow a b n = (k : ℕ) → k < n → slice_get a k ≡ slice_get b k

  -- where the visits before it agree, the next visit isn't later than in the other list, which has one there too
  next_of : (a b : List Visit) → AreVisitsOf path a → AreVisitsOf path b → (n : ℕ) → AgreeBelow a b n → (x : Visit) → slice_get a n ≡ Some x → (y : Visit) × (slice_get b n ≡ Some y) × (y.entry ≤ x.entry)
  next_of a b of_a of_b n agree x is_x =
      let (m, z, is_z, entry) = of_b.all x.entry (of_a.entered n x is_x).0 in
      let not_below : n ≤ m = ⊎_elim (λ (below : m < n). absurd (let earlier = of_a.rising m n z x below (agree m below ∙ is_z) is_x in omega arith)) (λ (e : n ≤ m). e) (cases_lt m n) in
      let (y, is_y) = slice_get_inside b n (let within = slice_get_within b m z is_z in omega arith) in (
        y,
        is_y,
        ⊎_elim
            (λ (later : n < m). let e = of_b.rising n m y z later is_y is_z in omega arith)
            (λ (here : m ≤ n).
            let same : n ≡ m = omega arith in
            let e = ap (λ (v : Visit). v.entry) (same_Some y z (sym is_y ∙ subst (λ k. slice_get b k ≡ Some z) (sym same) is_z)) in omega arith)
            (cases_lt n m),
      )

  same_visit : (a b : List Visit) → AreVisitsOf path a → AreVisitsOf path b → (n : ℕ) (x y : Visit) → slice_get a n ≡ Some x → slice_get b n ≡ Some y → x.entry ≡ y.entry → x ≡ y
  same_visit a b of_a of_b n x y is_x is_y entry =
      same_parts x y ((of_a.entered n x is_x).1 ∙ ap (at path) entry ∙ sym (of_b.entered n y is_y).1) entry

  agree_at : (a b : List Visit) → AreVisitsOf path a → AreVisitsOf path b → (n : ℕ) → AgreeBelow a b n → slice_get a n ≡ slice_get b n
  agree_at a b of_a of_b n agree = ⊎_elim
      (λ (within : n < length a).
      let (x, is_x) = slice_get_inside a n within in
      let (y, is_y, low) = next_of a b of_a of_b n agree x is_x in
      let (z, is_z, high) = next_of b a of_b of_a n (λ k below. sym (agree k below)) y is_y in
      let back : z ≡ x = same_Some z x (sym is_z ∙ is_x) in
      let same : x.entry ≡ y.entry = omega (arith, ap (λ (v : Visit). v.entry) back) in
      is_x ∙ ap Some (same_visit a b of_a of_b n x y is_x is_y same) ∙ sym is_y)
      (λ (past : length a ≤ n). ⊎_elim
      (λ (within : n < length b).
      let (y, is_y) = slice_get_inside b n within in
      let (x, is_x, low) = next_of b a of_b of_a n (λ k below. sym (agree k below)) y is_y in
      absurd (let inside = slice_get_within a n x is_x in omega arith))
      (λ (beyond : length b ≤ n). slice_get_past a n past ∙ sym (slice_get_past b n beyond))
      (cases_lt n (length b)))
      (cases_lt n (length a))

  agree_below : (a b : List Visit) → AreVisitsOf path a → AreVisitsOf path b → (n : ℕ) → AgreeBelow a b n
  agree_below a b of_a of_b zero k below = absurd (omega arith)
  agree_below a b of_a of_b (suc n) k below = ⊎_elim
      (λ (less : k < n). agree_below a b of_a of_b n k less)
      (λ (rest : n ≤ k).
      let last : k ≡ n = omega arith in
      subst (λ m. slice_get a m ≡ slice_get b m) (sym last) (agree_at a b of_a of_b n (agree_below a b of_a of_b n)))
      (cases_lt k n)

pub visits_are_one : VisitsAreOne
visits_are_one path a b of_a of_b = same_places a b (λ n. agree_at path a b of_a of_b n (agree_below path a b of_a of_b n))

-- the visits that a path begins before a tick
pub record AreVisitsBefore (path : List ℕ) (tick : ℕ) (visits : List Visit) : Type 0 where
  pub entered : (n : ℕ) (visit : Visit) → slice_get visits n ≡ Some visit → IsEntry path visit.entry × (visit.cell ≡ at path visit.entry) × (visit.entry < tick)
  pub all : (entry : ℕ) → entry < tick → IsEntry path entry → (n : ℕ) × (visit : Visit) × (slice_get visits n ≡ Some visit) × (visit.entry ≡ entry)
  pub rising : (m n : ℕ) (a b : Visit) → m < n → slice_get visits m ≡ Some a → slice_get visits n ≡ Some b → a.entry < b.entry
  pub few : length visits ≤ tick

-- at a tick at which the path enters no cell there is no visit more
pub without_entry : (path : List ℕ) (tick : ℕ) (visits : List Visit) → AreVisitsBefore path tick visits → (IsEntry path tick → ⊥) → AreVisitsBefore path (tick + 1) visits
without_entry path tick visits are none = record {
  entered = λ n visit is. let e = are.entered n visit is in let low = e.2 in (e.0, e.1, omega arith);
  all = λ entry low is. ⊎_elim
      (λ (earlier : entry < tick). are.all entry earlier is)
      (λ (late : tick ≤ entry). let here : entry ≡ tick = omega arith in absurd (none (subst (IsEntry path) here is)))
      (cases_lt entry tick);
  rising = are.rising;
  few = let few = are.few in omega arith;
}

module _ (visits : List Visit) (new : Visit) where
  -- a visit of the list with one more is the last one, or was there
  more_visits : (n : ℕ) (visit : Visit) → slice_get (visits ++ new ∷ []) n ≡ Some visit → ((n ≡ length visits) × (visit ≡ new)) ⊎ (slice_get visits n ≡ Some visit)
  more_visits n visit is = ⊎_elim
      (λ (within : n < length visits). inr (sym (slice_get-front visits (new ∷ []) n within) ∙ is))
      (λ (past : length visits ≤ n).
      let inside = slice_get_within (visits ++ new ∷ []) n visit is in
      let count = length-append visits (new ∷ []) in
      let here : n ≡ length visits = omega arith in
      inl (here, same_Some visit new (sym is ∙ ap (slice_get (visits ++ new ∷ [])) here ∙ slice_get-here visits [] new)))
      (cases_lt n (length visits))

-- at a tick at which the path enters a cell there is one visit more
pub with_entry : (path : List ℕ) (tick : ℕ) (visits : List Visit) (new : Visit) → AreVisitsBefore path tick visits → IsEntry path tick → new.cell ≡ at path tick → new.entry ≡ tick → AreVisitsBefore path (tick + 1) (visits ++ new ∷ [])
with_entry path tick visits new are is_entry cell entry_is = record {
  entered = λ n visit is. ⊎_elim
      (λ (last : (n ≡ length visits) × (visit ≡ new)).
      let at_tick : visit.entry ≡ tick = ap (λ (v : Visit). v.entry) last.1 ∙ entry_is in
      (subst (IsEntry path) (sym at_tick) is_entry, ap (λ (v : Visit). v.cell) last.1 ∙ cell ∙ ap (at path) (sym at_tick), let low : visit.entry < tick + 1 = omega arith in low))
      (λ (was : slice_get visits n ≡ Some visit). let e = are.entered n visit was in let low = e.2 in (e.0, e.1, omega arith))
      (more_visits visits new n visit is);
  all = λ entry low is. ⊎_elim
      (λ (earlier : entry < tick).
      let (n, visit, visit_is, same) = are.all entry earlier is in
      (n, visit, slice_get-front visits (new ∷ []) n (slice_get_within visits n visit visit_is) ∙ visit_is, same))
      (λ (late : tick ≤ entry). (length visits, new, slice_get-here visits [] new, let same : new.entry ≡ entry = omega arith in same))
      (cases_lt entry tick);
  rising = λ m n a b less is_a is_b. ⊎_elim
      (λ (last : (n ≡ length visits) × (b ≡ new)). ⊎_elim
      (λ (also : (m ≡ length visits) × (a ≡ new)). absurd (let x = last.0 in let y = also.0 in omega arith))
      (λ (was : slice_get visits m ≡ Some a).
      let low = (are.entered m a was).2 in
      let at_tick : b.entry ≡ tick = ap (λ (v : Visit). v.entry) last.1 ∙ entry_is in
      omega arith)
      (more_visits visits new m a is_a))
      (λ (was : slice_get visits n ≡ Some b).
      let inside = slice_get_within visits n b was in
      are.rising m n a b less (sym (slice_get-front visits (new ∷ []) m (omega arith)) ∙ is_a) was)
      (more_visits visits new n b is_b);
  few = let few = are.few in let count = length-append visits (new ∷ []) in omega arith;
}

-- a path is entered at tick 0, and its end is never entered again
pub entry_within : (path : List ℕ) (tick : ℕ) → 1 ≤ length path → IsEntry path tick → tick < length path
entry_within path tick some entry = ⊎_elim
    (λ (first : tick ≡ 0). omega arith)
    (λ (later : (before : ℕ) × (tick ≡ before + 1) × (at path tick ≢ at path before)). ⊎_elim
    (λ (inside : tick < length path). inside)
    (λ (past : length path ≤ tick).
    let e = later.1 in
    let same : min tick (length path - 1) ≡ min later.0 (length path - 1) = omega arith in
    absurd (later.2 (ap (slice_index path) same)))
    (cases_lt tick (length path)))
    entry

pub all_visits : (path : List ℕ) (visits : List Visit) → 1 ≤ length path → AreVisitsBefore path (length path) visits → AreVisitsOf path visits
all_visits path visits some are = record {
  entered = λ n visit is. let e = are.entered n visit is in (e.0, e.1);
  all = λ tick entry. are.all tick (entry_within path tick some entry) entry;
  rising = are.rising;
}

-- the cell at a tick of the path's cells
pub at_cell : (cells path : List ℕ) → cells ≡ path → (tick cell : ℕ) → tick < length cells → cell ≡ get_or cells tick cell → cell ≡ at path tick
at_cell cells path same tick cell within is =
    let size = ap length same in
    let inside : min tick (length path - 1) ≡ tick = omega arith in
    is ∙ same_place ∙ ap (λ t. get_or path t 0) (sym inside)
  where
    same_place : get_or cells tick cell ≡ get_or path tick 0
    same_place = get_or_from_slice_get cells tick (get_or cells tick 0) cell (slice_get-get_or cells tick 0 within) ∙ ap (λ (p : List ℕ). get_or p tick 0) same

pub entries_within : (path : List ℕ) (tick : ℕ) (visits : List Visit) → AreVisitsBefore path tick visits → tick ≤ most_path_cells → (length visits ≤ most_path_cells) × All (λ visit. visit.entry < most_path_cells) visits
entries_within path tick visits are few = (let count = are.few in omega arith, λ k d within. let e = are.entered k (get_or visits k d) (slice_get-get_or visits k d within) in let low = e.2 in omega arith)

-- one agent more
pub all_more : (plan : List (List ℕ)) (visits : List (List Visit)) (n : ℕ) (path : List ℕ) (own : List Visit) → AreVisitsOfAll (take n plan) visits → slice_get plan n ≡ Some path → AreVisitsOf path own →
    AreVisitsOfAll (take (suc n) plan) (visits ++ own ∷ [])
all_more plan visits n path own all is are = subst (λ paths. AreVisitsOfAll paths (visits ++ own ∷ [])) (sym (take-next plan n path is)) (record {
  count = let a = length-append visits (own ∷ []) in let b = length-append (take n plan) (path ∷ []) in let same = all.count in omega arith;
  each = λ i p o p_is o_is. ⊎_elim
      (λ (within : i < length visits).
      let same = all.count in
      all.each i p o (sym (slice_get-front (take n plan) (path ∷ []) i (omega arith)) ∙ p_is) (sym (slice_get-front visits (own ∷ []) i within) ∙ o_is))
      (λ (past : length visits ≤ i).
      let inside = slice_get_within (visits ++ own ∷ []) i o o_is in
      let size = length-append visits (own ∷ []) in
      let same = all.count in
      let here : i ≡ length visits = omega arith in
      let there : i ≡ length (take n plan) = omega arith in
      let own_is : o ≡ own = same_Some o own (sym o_is ∙ ap (slice_get (visits ++ own ∷ [])) here ∙ slice_get-here visits [] own) in
      let path_is : p ≡ path = same_Some p path (sym p_is ∙ ap (slice_get (take n plan ++ path ∷ [])) there ∙ slice_get-here (take n plan) [] path) in
      subst (λ q. AreVisitsOf q o) (sym path_is) (subst (λ v. AreVisitsOf path v) (sym own_is) are))
      (cases_lt i (length visits));
})
