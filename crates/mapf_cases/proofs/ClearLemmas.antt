-- The index of cells that all agents but one keep clear of, while they are looked up, added and removed.
use Rattle.std.proofs.Common.{◌≡◌, ◌≢◌, ◌↔◌, ◌⊎◌, ℕ, ◌+◌, ◌≤◌, true, false, List, ◌∷◌, Option, Some, None, Contains, refl, sym, subst, inl, inr, ⊎_elim, arith}
use Rattle.std.proofs.lemmas.Bool.{cases_eq}
use Rattle.std.proofs.lemmas.Bool.Decides.{nat_tests}
use Rattle.std.specs.declared.cmp.Ordering.{Ordering}
use Rattle.std.specs.BTreeMap.{get, is_at, UpdatesBy}
use Rattle.mapf_model.specs.contracts.cell.CellOrd.TheImpl as cell_order
use Rattle.mapf_model.proofs.ContainsLemmas.{Contains-cons_cases, Contains-cons_new, Contains-cons_old}
use Rattle.mapf_cases.specs.declared.clear_index.Earliest.{Earliest}
use Rattle.mapf_cases.specs.declared.clear_index.ClearIndex.{ClearIndex}
use Rattle.mapf_cases.specs.Clears.{Clearing, IsClear, IsClearFor, IsOrdered, IsEntryOf, Keeps}

abbrev pub cell_cmp : ℕ → ℕ → Ordering
cell_cmp = (cell_order.ghosts).cmp

at_itself : (cell there : ℕ) → there ≡ cell → is_at (cell_cmp cell) there ≡ true
at_itself cell there same = grind (arith, nat_tests)

at_another : (cell there : ℕ) → (there ≡ cell → ⊥) → is_at (cell_cmp cell) there ≡ false
at_another cell there apart = grind (arith, nat_tests)

module _ (clears : List Clearing) (agent cell tick : ℕ) where
  abbrev this : Clearing
  this = record { agent = agent; cell = cell; tick = tick }

  -- with one more, an agent keeps clear of a cell by this one or by those before
  pub IsClear-cons : (there other later : ℕ) → IsClear (this ∷ clears) there other later ↔ (IsClear clears there other later ⊎ ((cell ≡ there) × (agent ≢ other) × (tick ≤ later)))
  IsClear-cons there other later = (
    λ (clearing, held, at, apart, early). ⊎_elim
        (λ (is : this ≡ clearing). inr (subst (λ (c : Clearing). (c.cell ≡ there) × (c.agent ≢ other) × (c.tick ≤ later)) (sym is) (at, apart, early)))
        (λ (old : Contains clears clearing). inl (clearing, old, at, apart, early))
        (Contains-cons_cases this clearing clears held),
    λ either. ⊎_elim
        (λ (old : IsClear clears there other later). (old.0, Contains-cons_old this old.0 clears old.1, old.2, old.3, old.4))
        (λ (new : (cell ≡ there) × (agent ≢ other) × (tick ≤ later)). (this, Contains-cons_new this clears, new.0, new.1, new.2))
        either,
  )

  clear_here : (other later : ℕ) → IsClear (this ∷ clears) cell other later ↔ (IsClear clears cell other later ⊎ ((agent ≢ other) × (tick ≤ later)))
  clear_here other later = (
    λ clear. ⊎_elim (λ (old : IsClear clears cell other later). inl old) (λ (new : (cell ≡ cell) × (agent ≢ other) × (tick ≤ later)). inr (new.1, new.2)) ((IsClear-cons cell other later).0 clear),
    λ either. (IsClear-cons cell other later).1 (⊎_elim (λ (old : IsClear clears cell other later). inl old) (λ (new : (agent ≢ other) × (tick ≤ later)). inr (refl, new.0, new.1)) either),
  )

  clear_elsewhere : (there : ℕ) → (there ≡ cell → ⊥) → (other later : ℕ) → IsClear (this ∷ clears) there other later ↔ IsClear clears there other later
  clear_elsewhere there apart other later = (
    λ clear. ⊎_elim (λ (old : IsClear clears there other later). old) (λ (new : (cell ≡ there) × (agent ≢ other) × (tick ≤ later)). absurd (apart (sym new.0))) ((IsClear-cons there other later).0 clear),
    λ old. (IsClear-cons there other later).1 (inl old),
  )

  module _ (old new : ClearIndex) where
    pub added : (now : Earliest) → Keeps clears old → IsOrdered (Some now) →
        ((other later : ℕ) → IsClearFor (Some now) other later ↔ (IsClearFor (get cell_cmp old.earliest cell) other later ⊎ ((agent ≢ other) × (tick ≤ later)))) →
        UpdatesBy cell_cmp (cell_cmp cell) old.earliest new.earliest (Some now) → Keeps (this ∷ clears) new
    added now keeps ordered clear updates there = ⊎_elim
        (λ (same : there ≡ cell).
        subst (λ k. IsEntryOf (this ∷ clears) k (get cell_cmp new.earliest k)) (sym same) (subst (λ o. IsEntryOf (this ∷ clears) cell o) (sym updates.1) (record {
          ordered = ordered;
          clear = λ other later.
              let before = (keeps cell).clear other later in
              let now_is = clear other later in
              let here = clear_here other later in (
                λ c. here.1 (⊎_elim (λ (x : IsClearFor (get cell_cmp old.earliest cell) other later). inl (before.0 x)) (λ (y : (agent ≢ other) × (tick ≤ later)). inr y) (now_is.0 c)),
                λ c. now_is.1 (⊎_elim (λ (x : IsClear clears cell other later). inl (before.1 x)) (λ (y : (agent ≢ other) × (tick ≤ later)). inr y) (here.0 c)),
              );
        })))
        (λ (apart : there ≡ cell → ⊥).
        subst (λ o. IsEntryOf (this ∷ clears) there o) (sym (updates.2 there (at_another cell there apart))) (record {
          ordered = (keeps there).ordered;
          clear = λ other later. (
            λ c. (clear_elsewhere there apart other later).1 (((keeps there).clear other later).0 c),
            λ c. ((keeps there).clear other later).1 ((clear_elsewhere there apart other later).0 c),
          );
        }))
        (cases_eq there cell)

    pub removed : (before : Option Earliest) → Keeps (this ∷ clears) old → IsEntryOf clears cell before →
        UpdatesBy cell_cmp (cell_cmp cell) old.earliest new.earliest before → Keeps clears new
    removed before keeps entry updates there = ⊎_elim
        (λ (same : there ≡ cell). subst (λ k. IsEntryOf clears k (get cell_cmp new.earliest k)) (sym same) (subst (λ o. IsEntryOf clears cell o) (sym updates.1) entry))
        (λ (apart : there ≡ cell → ⊥).
        subst (λ o. IsEntryOf clears there o) (sym (updates.2 there (at_another cell there apart))) (record {
          ordered = (keeps there).ordered;
          clear = λ other later. (
            λ c. (clear_elsewhere there apart other later).0 (((keeps there).clear other later).0 c),
            λ c. ((keeps there).clear other later).1 ((clear_elsewhere there apart other later).1 c),
          );
        }))
        (cases_eq there cell)

  -- after it was added something is kept of the cell
  pub something_kept : (index : ClearIndex) → Keeps (this ∷ clears) index → get cell_cmp index.earliest cell ≡ None → ⊥
  something_kept index keeps none =
      let is_clear : IsClear (this ∷ clears) cell (agent + 1) tick = (this, Contains-cons_new this clears, refl, (λ same. absurd (omega arith)), omega arith) in
      subst (λ o. IsClearFor o (agent + 1) tick) none (((keeps cell).clear (agent + 1) tick).1 is_clear)
