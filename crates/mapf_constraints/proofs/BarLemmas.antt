-- A set of constraints with one more, its horizon and its last tick on a cell.
use Rattle.std.proofs.Common.{◌≡◌, ◌⊎◌, ℕ, ◌+◌, ◌<◌, ◌≤◌, max, Option, None, Some, List, [], ◌∷◌, ◌++◌, Contains, ⊎_elim, sym, subst, ap, arith, take, length, slice_index_or}
use Rattle.std.proofs.lemmas.List.{take_more}
use Rattle.std.proofs.lemmas.List.Elements.{Contains-append_left, Contains-push, Contains-push_cases}
use Rattle.std.proofs.lemmas.Bool.{cases_lt}
use Rattle.std.specs.Option.{option_map_or}
use Rattle.mapf_model.specs.declared.bar.Bar.{Bar}
use Rattle.mapf_model.specs.declared.bar.Bar.TheVariants.{Cell}
use Rattle.mapf_model.specs.Laws.{AreSameBars}
use Rattle.mapf_model.specs.Limits.{split_ticks}
use Rattle.mapf_model.proofs.ContainsLemmas.{Contains-cons_cases, Contains-cons_new, Contains-cons_old}
use Rattle.mapf_constraints.specs.BarSets.{bar_tick, IsHorizon, IsLastOn}

-- a list with one more at its end, as a set
pub AreSameBars-push : (bars : List Bar) (bar : Bar) → AreSameBars (bars ++ bar ∷ []) (bar ∷ bars)
AreSameBars-push bars bar other = (
  (λ held. ⊎_elim (λ old. Contains-cons_old bar other bars old) (λ same. subst (Contains (bar ∷ bars)) same (Contains-cons_new bar bars)) (Contains-push_cases bars bar other held)),
  (λ held. ⊎_elim (λ same. subst (Contains (bars ++ bar ∷ [])) same (Contains-push bars bar)) (λ old. Contains-append_left bars (bar ∷ []) other old) (Contains-cons_cases bar other bars held)),
)

-- a prefix of a list with the next constraint, as a set
pub AreSameBars-take : (bars : List Bar) (i : ℕ) (bar : Bar) → i < length bars → bar ≡ slice_index_or bars i bar → AreSameBars (take (i + 1) bars) (bar ∷ take i bars)
AreSameBars-take bars i bar within is = subst (λ b. AreSameBars (take (i + 1) bars) (b ∷ take i bars)) (sym is) (rw (take_more bars i bar within) (AreSameBars-push (take i bars) (slice_index_or bars i bar)))

module _ (before after : List Bar) (bar : Bar) (same : AreSameBars after (bar ∷ before)) where
  kept : (other : Bar) → Contains before other → Contains after other
  kept other held = (same other).1 (Contains-cons_old bar other before held)

  added : Contains after bar
  added = (same bar).1 (Contains-cons_new bar before)

  cases : (other : Bar) → Contains after other → (bar ≡ other) ⊎ Contains before other
  cases other held = Contains-cons_cases bar other before ((same other).0 held)

  pub IsHorizon-with : (horizon : ℕ) → IsHorizon before horizon → IsHorizon after (max horizon (bar_tick bar + 1))
  IsHorizon-with horizon is = record {
    above = λ other held. ⊎_elim (λ new. let e : bar_tick bar ≡ bar_tick other = ap bar_tick new in omega arith) (λ old. omega (arith, is.above other old)) (cases other held);
    least = λ bound bounds. omega (arith, bounds bar added, is.least bound (λ other held. bounds other (kept other held)));
  }

  -- the horizon stays within the ticks that are split
  pub horizon_early : (horizon later : ℕ) → IsHorizon before horizon → horizon ≤ split_ticks → bar_tick bar < split_ticks → IsHorizon after later → later ≤ split_ticks
  horizon_early horizon later is early bar_early is_later = is_later.least split_ticks
      (λ other held. ⊎_elim (λ new. let e : bar_tick bar ≡ bar_tick other = ap bar_tick new in omega (arith, bar_early)) (λ old. omega (arith, is.above other old, early)) (cases other held))

module _ (before after : List Bar) (cell : ℕ) where
  -- a constraint that doesn't forbid the cell
  pub IsLastOn-other : (bar : Bar) → AreSameBars after (bar ∷ before) → ((tick : ℕ) → bar ≡ Cell cell tick → ⊥) → (last : Option ℕ) → IsLastOn before cell last → IsLastOn after cell last
  IsLastOn-other bar same other None is = λ tick held. ⊎_elim (λ new. other tick new) (λ old. is tick old) (cases before after bar same (Cell cell tick) held)
  IsLastOn-other bar same other (Some last) is = (
    kept before after bar same (Cell cell last) is.0,
    λ tick held. ⊎_elim (λ new. absurd (other tick new)) (λ old. is.1 tick old) (cases before after bar same (Cell cell tick) held),
  )

  -- a constraint that forbids the cell
  pub IsLastOn-cell : (tick : ℕ) → AreSameBars after (Cell cell tick ∷ before) → (last : Option ℕ) → IsLastOn before cell last → IsLastOn after cell (Some (option_map_or (λ n. max n tick) last tick))
  IsLastOn-cell tick same None is = (
    added before after (Cell cell tick) same,
    λ t held. ⊎_elim (λ new. let e : tick ≡ t = ap bar_tick new in omega arith) (λ old. absurd (is t old)) (cases before after (Cell cell tick) same (Cell cell t) held),
  )
  IsLastOn-cell tick same (Some last) is = (
    ⊎_elim
        (λ (less : last < tick). let e : tick ≡ max last tick = omega arith in subst (λ t. Contains after (Cell cell t)) e (added before after (Cell cell tick) same))
        (λ (more : tick ≤ last). let e : last ≡ max last tick = omega arith in subst (λ t. Contains after (Cell cell t)) e (kept before after (Cell cell tick) same (Cell cell last) is.0))
        (cases_lt last tick),
    λ t held. ⊎_elim (λ new. let e : tick ≡ t = ap bar_tick new in omega arith) (λ old. omega (arith, is.1 t old)) (cases before after (Cell cell tick) same (Cell cell t) held),
  )
