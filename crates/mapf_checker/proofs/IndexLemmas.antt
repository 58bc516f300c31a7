-- The index of constraints while they are added and removed.
use Rattle.std.proofs.Common.{◌≡◌, ◌↔◌, ◌⊎◌, ℕ, ◌<◌, ◌≤◌, Bool, true, false, not, MatchBool, List, [], ◌∷◌, Equal, Contains, IsTrue, IfSome, slice_get, refl, sym, ◌∙◌, ap, subst, inl, inr, eq-eqb, arith}
use Rattle.std.proofs.lemmas.Bool.{cases_eq, ne_eqb, true≢false}
use Rattle.std.proofs.lemmas.Bool.Decides.{nat_tests}
use Rattle.std.proofs.lemmas.Cmp.{nat_cmp_total, on_total, then_total, tied_itself}
use Rattle.std.proofs.lemmas.List.Elements.{Contains-append_right}
use Rattle.std.proofs.lemmas.Map.Lookups.{CmpEqualImpliesEq}
use Rattle.std.proofs.lemmas.Map.Views.{tells_apart}
use Rattle.std.specs.BTreeMap.{is_at}
use Rattle.std.specs.BTreeMap.Range.{IsLeBy}
use Rattle.std.specs.BTreeSet.{contains, Updates, IsKeyInRange, IsKeyRangeOf}
use Rattle.std.specs.declared.ops.Bound.TheVariants.{Included, Unbounded}
use Rattle.std.specs.Cmp.{IsTotalOrder}
use Rattle.std.specs.Ordering.{is_eq}
use Rattle.mapf_model.specs.declared.bar.Bar.{Bar}
use Rattle.mapf_model.specs.declared.bar.Bar.TheVariants.{Cell, Move}
use Rattle.mapf_checker.specs.declared.index.BarIndex.{BarIndex}
use Rattle.mapf_model.specs.contracts.bar.BarOrd.TheImpl.Laws as bar_laws
use Rattle.mapf_model.specs.Tree.{with_bar}
use Rattle.mapf_model.proofs.ContainsLemmas.{Contains-cons_cases}
use Rattle.mapf_checker.specs.Index.{Indexes, IsBarredFrom, IsOn, key_cmp}

total : IsTotalOrder key_cmp
total = then_total (on_total (λ (k : ℕ × Bar). k.0) nat_cmp_total) (on_total (λ (k : ℕ × Bar). k.1) bar_laws.total-law)

exact : CmpEqualImpliesEq key_cmp
exact (a, Cell c t) (b, Cell d u) e = let same : (a ≡ b) × (c ≡ d) × (t ≡ u) = grind (arith, nat_tests) in λ k. (same.0 k, Cell (same.1 k) (same.2 k))
exact (a, Cell c t) (b, Move d f u) e = absurd (grind (arith, nat_tests))
exact (a, Move c d t) (b, Cell f u) e = absurd (grind (arith, nat_tests))
exact (a, Move c d t) (b, Move f g u) e = let same : (a ≡ b) × (c ≡ f) × (d ≡ g) × (t ≡ u) = grind (arith, nat_tests) in λ k. (same.0 k, Move (same.1 k) (same.2 k) (same.3 k))

-- a key is the one that was added or removed, or it is told apart from it
told : (k q : ℕ × Bar) → (k ≡ q) ⊎ ((k ≡ q → ⊥) × (is_at (key_cmp k) q ≡ false))
told k q = by (is_at (key_cmp k) q) refl
  where
    by : (same : Bool) → is_at (key_cmp k) q ≡ same → (k ≡ q) ⊎ ((k ≡ q → ⊥) × (is_at (key_cmp k) q ≡ false))
    by true e = inl (tells_apart exact k q e)
    by false e = inr ((λ same. true≢false (sym (ap is_eq (tied_itself total k)) ∙ ap (λ x. is_at (key_cmp k) x) same ∙ e)), e)

module _ (bars : ℕ → List Bar) (agent : ℕ) (bar : Bar) where
  stands_here : Contains (with_bar bars agent bar agent) bar
  stands_here = rw (eq-eqb agent agent refl) (0, omega arith, refl)

  -- the other constraints are those from before
  stands_there : (i : ℕ) (other : Bar) → (◌≡◌ {A = ℕ × Bar} (agent, bar) (i, other) → ⊥) → Contains (with_bar bars agent bar i) other ↔ Contains (bars i) other
  stands_there i other differ = elim (cases_eq i agent) [
    | inl same ↦ rw (eq-eqb i agent same) (
      λ there. elim (Contains-cons_cases bar other (bars i) there) [
        | inl head ↦ absurd (differ (λ k. (sym same k, head k)))
        | inr rest ↦ rest
      ],
      Contains-append_right (bar ∷ []) (bars i) other,
    )
    | inr apart ↦ rw (ne_eqb i agent apart) (λ h. h, λ h. h)
  ]

  module _ (old new : BarIndex) where
    pub added : Indexes bars old → Updates key_cmp old.constraints new.constraints (agent, bar) true → Indexes (with_bar bars agent bar) new
    added indexed updates i other = elim (told (agent, bar) (i, other)) [
      | inl same ↦ subst (λ (x : ℕ × Bar). IsTrue (contains key_cmp new.constraints x) ↔ Contains (with_bar bars agent bar x.0) x.1) same (λ _. stands_here, λ _. updates.1)
      | inr (differ, apart) ↦ rw (updates.2 (i, other) apart) (λ h. (stands_there i other differ).1 ((indexed i other).0 h), λ h. (indexed i other).1 ((stands_there i other differ).0 h))
    ]

    pub removed : Indexes (with_bar bars agent bar) old → (Contains (bars agent) bar → ⊥) → Updates key_cmp old.constraints new.constraints (agent, bar) false → Indexes bars new
    removed indexed absent updates i other = elim (told (agent, bar) (i, other)) [
      | inl same ↦ subst (λ (x : ℕ × Bar). IsTrue (contains key_cmp new.constraints x) ↔ Contains (bars x.0) x.1) same (λ h. absurd (true≢false (sym h ∙ updates.1)), λ h. absurd (absent h))
      | inr (differ, apart) ↦ rw (updates.2 (i, other) apart) (λ h. (stands_there i other differ).0 ((indexed i other).0 h), λ h. (indexed i other).1 ((stands_there i other differ).1 h))
    ]

  pub can_undo : (index : BarIndex) → Indexes bars index → (is_new : Bool) → is_new ≡ not (contains key_cmp index.constraints (agent, bar)) → MatchBool is_new (Contains (bars agent) bar → ⊥) (Contains (bars agent) bar)
  can_undo index indexed is_new is = rw is (by (contains key_cmp index.constraints (agent, bar)) refl)
    where
      by : (held : Bool) → contains key_cmp index.constraints (agent, bar) ≡ held → MatchBool (not held) (Contains (bars agent) bar → ⊥) (Contains (bars agent) bar)
      by true e = (indexed agent bar).0 e
      by false e = λ there. true≢false (sym ((indexed agent bar).1 there) ∙ e)

  -- a constraint that was there before stays
  pub again : (index : BarIndex) → Indexes (with_bar bars agent bar) index → Contains (bars agent) bar → Indexes bars index
  again index indexed present i other = elim (told (agent, bar) (i, other)) [
    | inl same ↦ subst (λ (x : ℕ × Bar). IsTrue (contains key_cmp index.constraints x) ↔ Contains (bars x.0) x.1) same (λ _. present, λ _. (indexed agent bar).1 stands_here)
    | inr (differ, apart) ↦ (λ h. (stands_there i other differ).0 ((indexed i other).0 h), λ h. (indexed i other).1 ((stands_there i other differ).1 h))
  ]

module _ (bars : ℕ → List Bar) (index : BarIndex) (indexed : Indexes bars index) (agent cell tick : ℕ) where
  abbrev pub IsFrom : ℕ × Bar → Type 0
  IsFrom = IsLeBy key_cmp (agent, Cell cell tick)

  later_from : (later : ℕ) → tick ≤ later → IsFrom (agent, Cell cell later)
  later_from later le = grind (arith, nat_tests)

  pub none_from : ((k : ℕ × Bar) → IsFrom k → contains key_cmp index.constraints k ≡ false) → IsBarredFrom (bars agent) cell tick → ⊥
  none_from none (later, late, stands) = true≢false (sym ((indexed agent (Cell cell later)).1 stands) ∙ none (agent, Cell cell later) (later_from later late))

  -- the first constraint from the state on
  module _ (keys rest : List (ℕ × Bar)) (next : ℕ × Bar) (is : keys ≡ next ∷ rest) (range : IsKeyRangeOf key_cmp (Included (agent, Cell cell tick)) Unbounded index.constraints keys) where
    first : IsKeyInRange key_cmp (Included (agent, Cell cell tick)) Unbounded index.constraints next
    first = subst (λ keys. IfSome (slice_get keys 0) (IsKeyInRange key_cmp (Included (agent, Cell cell tick)) Unbounded index.constraints)) is range.1

    -- if it forbids the cell to the agent, the cell is forbidden later
    pub barred_from : next.0 ≡ agent → IsOn cell next.1 → IsBarredFrom (bars agent) cell tick
    barred_from of on = by next.1 on first.0.0 ((indexed next.0 next.1).0 first.1)
      where
        by : (bar : Bar) → IsOn cell bar → IsFrom (next.0, bar) → Contains (bars next.0) bar → IsBarredFrom (bars agent) cell tick
        by (Cell c t) on low there = (t, grind (arith, nat_tests), rw (← of, ← on) there)
        by (Move f o t) on low there = absurd on

    -- and only then
    pub first_from : IsBarredFrom (bars agent) cell tick → (next.0 ≡ agent) × IsOn cell next.1
    first_from (later, late, stands) = by next.1 first.0.0
        (subst (λ keys. IfSome (slice_get keys 0) (λ k. IsLeBy key_cmp k (agent, Cell cell later))) is (range.2 (agent, Cell cell later) (later_from later late, tt) ((indexed agent (Cell cell later)).1 stands)))
      where
        by : (bar : Bar) → IsFrom (next.0, bar) → IsLeBy key_cmp (next.0, bar) (agent, Cell cell later) → (next.0 ≡ agent) × IsOn cell bar
        by (Cell c t) low high = (grind (arith, nat_tests), grind (arith, nat_tests))
        by (Move f o t) low high = absurd (grind (arith, nat_tests))
