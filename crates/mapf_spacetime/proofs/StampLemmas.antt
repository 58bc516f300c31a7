-- A stamp that is written for a state that was reached.
use Rattle.std.proofs.Common.{◌≡◌, ⊎_elim, ℕ, ◌+◌, ◌<◌, ◌≤◌, Some, List, length, slice_set, Contains, sym, subst, ◌∙◌, arith}
use Rattle.std.specs.List.{slice_get}
use Rattle.std.proofs.lemmas.Bool.{cases_eq}
use Rattle.std.proofs.lemmas.Option.{same_Some}
use Rattle.mapf_model.proofs.PlaceLemmas.{slice_get-set_same, slice_get-set_other}
use Rattle.mapf_model.specs.declared.state.State.{State}
use Rattle.mapf_spacetime.specs.Task.{state_at}
use Rattle.mapf_spacetime.specs.Frontiers.{AreBelow, AreLast, AreOfBase}

module _ (base : ℕ) (stamps : List ℕ) (cell tick : ℕ) (within : cell < length stamps) where
  -- the stamps afterwards: the new one at the cell, and the old ones elsewhere
  stamped : (P : ℕ → ℕ → Type 0) → P cell (base + tick) → ((at stamp : ℕ) → slice_get stamps at ≡ Some stamp → P at stamp) →
      (at stamp : ℕ) → slice_get (slice_set stamps cell (base + tick)) at ≡ Some stamp → P at stamp
  stamped P new old at stamp is = ⊎_elim
      (λ (here : at ≡ cell).
      let written = slice_get-set_same stamps cell (base + tick) within in
      let there = subst (λ n. slice_get (slice_set stamps cell (base + tick)) n ≡ Some stamp) here is in
      let same = same_Some (base + tick) stamp (sym written ∙ there) in
      subst (λ n. P n stamp) (sym here) (subst (P cell) same new))
      (λ apart. old at stamp (sym (slice_get-set_other stamps cell at (base + tick) apart) ∙ is))
      (cases_eq at cell)

  pub note_last : (reached : List State) → Contains reached (state_at cell tick) → AreLast base stamps reached → AreLast base (slice_set stamps cell (base + tick)) reached
  note_last reached held last at ticks is =
      stamped (λ n stamp. (t : ℕ) → stamp ≡ base + t → Contains reached (state_at n t))
      (λ t e. let same : tick ≡ t = omega arith in subst (λ n. Contains reached (state_at cell n)) same held)
      (λ n stamp old t e. last n t (subst (λ m. slice_get stamps n ≡ Some m) e old))
      at (base + ticks) is ticks (omega arith)

  pub note_of_base : tick ≤ 10000000 → AreOfBase base stamps → AreOfBase base (slice_set stamps cell (base + tick))
  note_of_base small below = stamped (λ n stamp. stamp < base + 16777216) (omega arith) below

-- if each stamp is below the base, none is that of a tick
module _ (base : ℕ) (stamps : List ℕ) (reached : List State) (below : AreBelow base stamps) where
  pub none_last : AreLast base stamps reached
  none_last cell tick is = absurd (let less = below cell (base + tick) is in omega arith)

pub below_of_base : (base : ℕ) (stamps : List ℕ) → AreBelow base stamps → AreOfBase base stamps
below_of_base base stamps below cell stamp is = let less = below cell stamp is in omega arith
