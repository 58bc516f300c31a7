-- Whether a goal can be reached is decided.
use Rattle.std.proofs.Common.{◌≡◌, ◌⊎◌, ℕ, zero, suc, ◌+◌, ◌<◌, ◌≤◌, Bool, true, false, List, [], ◌∷◌, Contains, length, slice_index_or, refl, sym, subst, inl, inr, ⊎_elim, arith}
use Rattle.std.proofs.lemmas.Bool.{cases_eq, cases_lt}
use Rattle.mapf_model.specs.Distance.{Walk, IsDistance, IsUnreachable}
use Rattle.mapf_model.specs.Grid.{GridMap, IsFree, DifferByOne, AreAdjacent, Step, row, column}
use Rattle.mapf_model.proofs.ContainsLemmas.{Contains-cons_cases}
use Rattle.mapf_model.proofs.StepLemmas.{step_end, free_within}
use Rattle.mapf_laws.proofs.WaitingLemmas.{walk_free}

-- the fact holds, or it doesn't
abbrev pub IsDecided : Type 0 → Type 0
IsDecided P = P ⊎ (P → ⊥)

both : {P Q : Type 0} → IsDecided P → IsDecided Q → IsDecided (P × Q)
both (inl p) (inl q) = inl (p, q)
both (inl p) (inr not_q) = inr (λ h. not_q h.1)
both (inr not_p) q = inr (λ h. not_p h.0)

either : {P Q : Type 0} → IsDecided P → IsDecided Q → IsDecided (P ⊎ Q)
either (inl p) q = inl (inl p)
either (inr not_p) (inl q) = inl (inr q)
either (inr not_p) (inr not_q) = inr (λ h. ⊎_elim not_p not_q h)

-- the least number of which a decided fact holds, or none below the bound
first_below : (P : ℕ → Type 0) → ((k : ℕ) → IsDecided (P k)) → (bound : ℕ) → ((n : ℕ) × P n × ((k : ℕ) → P k → n ≤ k)) ⊎ ((k : ℕ) → k < bound → P k → ⊥)
first_below P decide zero = inr (λ k low p. absurd (omega arith))
first_below P decide (suc bound) = ⊎_elim
    (λ (found : (n : ℕ) × P n × ((k : ℕ) → P k → n ≤ k)). inl found)
    (λ (none : (k : ℕ) → k < bound → P k → ⊥). ⊎_elim
    (λ (here : P bound). inl (
      bound,
      here,
      λ k p. ⊎_elim
          (λ (low : k < bound). absurd (none k low p))
          (λ (high : bound ≤ k). high)
          (cases_lt k bound),
    ))
    (λ (not_here : P bound → ⊥). inr (λ k low p. ⊎_elim
    (λ (same : k ≡ bound). not_here (subst P same p))
    (λ (other : k ≡ bound → ⊥). none k (omega arith) p)
    (cases_eq k bound)))
    (decide bound))
    (first_below P decide bound)

-- the numbers below this one
below : ℕ → List ℕ
below zero = []
below (suc n) = n ∷ below n

below_contains : (n k : ℕ) → k < n → Contains (below n) k
unfolding below
below_contains zero k low = absurd (omega arith)
below_contains (suc n) k low = ⊎_elim
    (λ (same : k ≡ n). (0, omega arith, sym same))
    (λ (other : k ≡ n → ⊥). let (place, within, is) = below_contains n k (omega arith) in (suc place, omega arith, is))
    (cases_eq k n)

module _ (grid : GridMap) where
  free_decided : (cell : ℕ) → IsDecided (IsFree grid cell)
  free_decided cell = by_flag (slice_index_or grid.free cell false) refl
    where
      by_flag : (flag : Bool) → slice_index_or grid.free cell false ≡ flag → IsDecided (IsFree grid cell)
      by_flag true is = inl is
      by_flag false is = inr (λ free. cc)

  beside_decided : (a b : ℕ) → IsDecided (DifferByOne a b)
  beside_decided a b = either (cases_eq a (b + 1)) (cases_eq b (a + 1))

  adjacent_decided : (from to : ℕ) → IsDecided (AreAdjacent grid from to)
  adjacent_decided from to = ⊎_elim
      (λ (is : (IsFree grid from × IsFree grid to) × (((row grid from ≡ row grid to) × DifferByOne (column grid from) (column grid to)) ⊎ ((column grid from ≡ column grid to) × DifferByOne (row grid from) (row grid to)))).
      inl (record { from_free = is.0.0; to_free = is.0.1; apart = is.1 }))
      (λ (is_not : ((IsFree grid from × IsFree grid to) × (((row grid from ≡ row grid to) × DifferByOne (column grid from) (column grid to)) ⊎ ((column grid from ≡ column grid to) × DifferByOne (row grid from) (row grid to)))) → ⊥).
      inr (λ (move : AreAdjacent grid from to). is_not ((move.from_free, move.to_free), move.apart)))
      (both (both (free_decided from) (free_decided to))
      (either
      (both (cases_eq (row grid from) (row grid to)) (beside_decided (column grid from) (column grid to)))
      (both (cases_eq (column grid from) (column grid to)) (beside_decided (row grid from) (row grid to)))))

  step_decided : (from to : ℕ) → IsDecided (Step grid from to)
  step_decided from to = either (both (free_decided from) (cases_eq from to)) (adjacent_decided from to)

  walk_decided : (to n from : ℕ) → IsDecided (Walk grid from to n)
  walk_decided to zero from = both (free_decided from) (cases_eq from to)
  walk_decided to (suc n) from = ⊎_elim
      (λ (found : (next : ℕ) × (Step grid from next × Walk grid next to n) × ((k : ℕ) → (Step grid from k × Walk grid k to n) → next ≤ k)). inl (found.0, found.1.0, found.1.1))
      (λ (none : (k : ℕ) → k < length grid.free → (Step grid from k × Walk grid k to n) → ⊥). inr (λ (next, step, rest). none next (free_within grid next (walk_free grid to n next rest)) (step, rest)))
      (first_below (λ next. Step grid from next × Walk grid next to n) (λ next. both (step_decided from next) (walk_decided to n next)) (length grid.free))

  -- the cell can be reached by way of these cells alone
  abbrev pub Leads : List ℕ → ℕ → ℕ → Type 0
  Leads [] from to = Step grid from to
  Leads (via ∷ vias) from to = Leads vias from to ⊎ (Leads vias from via × Leads vias via to)

  leads_decided : (vias : List ℕ) (from to : ℕ) → IsDecided (Leads vias from to)
  leads_decided [] from to = step_decided from to
  leads_decided (via ∷ vias) from to = either (leads_decided vias from to) (both (leads_decided vias from via) (leads_decided vias via to))

  leads_step : (vias : List ℕ) (from to : ℕ) → Step grid from to → Leads vias from to
  leads_step [] from to step = step
  leads_step (via ∷ vias) from to step = inl (leads_step vias from to step)

  -- by way of one of the cells
  through : (vias : List ℕ) (from at to : ℕ) → Contains vias at → Leads vias from at → Leads vias at to → Leads vias from to
  through [] from at to (k, within, is) first second = absurd (omega arith)
  through (via ∷ vias) from at to held first second = ⊎_elim
      (λ (here : via ≡ at). inr (
        before (subst (λ cell. Leads (via ∷ vias) from cell) (sym here) first),
        after (subst (λ cell. Leads (via ∷ vias) cell to) (sym here) second),
      ))
      (λ (later : Contains vias at). joined (λ start end one two. through vias start at end later one two) first second)
      (Contains-cons_cases via at vias held)
    where
      before : Leads (via ∷ vias) from via → Leads vias from via
      before (inl way) = way
      before (inr ways) = ways.0

      after : Leads (via ∷ vias) via to → Leads vias via to
      after (inl way) = way
      after (inr ways) = ways.1

      joined : ((start end : ℕ) → Leads vias start at → Leads vias at end → Leads vias start end) → Leads (via ∷ vias) from at → Leads (via ∷ vias) at to → Leads (via ∷ vias) from to
      joined on (inl one) (inl two) = inl (on from to one two)
      joined on (inl one) (inr two) = inr (on from via one two.0, two.1)
      joined on (inr one) (inl two) = inr (one.0, on via to one.1 two)
      joined on (inr one) (inr two) = inr (one.0, two.1)

  walk_on : (from at to m n : ℕ) → Walk grid from at m → Walk grid at to n → (k : ℕ) × Walk grid from to k
  walk_on from at to zero n first second = (n, subst (λ cell. Walk grid cell to n) (sym first.1) second)
  walk_on from at to (suc m) n (next, step, rest) second =
      let more = walk_on next at to m n rest second in
      (suc more.0, (next, step, more.1))

  walk_of : (vias : List ℕ) (from to : ℕ) → Leads vias from to → (n : ℕ) × Walk grid from to n
  walk_of [] from to step = (1, (to, step, (step_end grid from to step, refl)))
  walk_of (via ∷ vias) from to (inl way) = walk_of vias from to way
  walk_of (via ∷ vias) from to (inr ways) =
      let one = walk_of vias from via ways.0 in
      let two = walk_of vias via to ways.1 in
      walk_on from via to one.0 two.0 one.1 two.1

  leads_of : (vias : List ℕ) → ((cell : ℕ) → IsFree grid cell → Contains vias cell) → (to n from : ℕ) → Walk grid from to n → Leads vias from to
  leads_of vias all to zero from walk = leads_step vias from to (inl walk)
  leads_of vias all to (suc n) from (next, step, rest) =
      through vias from next to (all next (walk_free grid to n next rest)) (leads_step vias from next step) (leads_of vias all to n next rest)

  -- the distance, or that there is none
  pub distance_or_none : (from to : ℕ) → ((distance : ℕ) × IsDistance grid to from distance) ⊎ IsUnreachable grid to from
  distance_or_none from to = ⊎_elim
      (λ (leads : Leads cells from to).
      let walked = walk_of cells from to leads in
      ⊎_elim
      (λ (found : (n : ℕ) × Walk grid from to n × ((k : ℕ) → Walk grid from to k → n ≤ k)). inl (found.0, record { walk = found.1; least = found.2 }))
      (λ (none : (k : ℕ) → k < suc walked.0 → Walk grid from to k → ⊥). absurd (none walked.0 (omega arith) walked.1))
      (first_below (Walk grid from to) (λ k. walk_decided to k from) (suc walked.0)))
      (λ (leads_not : Leads cells from to → ⊥). inr (λ n walk. leads_not (leads_of cells (λ cell free. below_contains (length grid.free) cell (free_within grid cell free)) to n from walk)))
      (leads_decided cells from to)
    where
      cells : List ℕ
      cells = below (length grid.free)
