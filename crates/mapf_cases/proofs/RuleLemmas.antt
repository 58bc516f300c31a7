-- The index of constraints of single agents while they are looked up, added and removed.
use Rattle.std.proofs.Common.{◌≡◌, ◌↔◌, ◌⊎◌, ℕ, ◌≤◌, Bool, true, false, not, List, ◌∷◌, Some, Contains, IsTrue, IfSome, slice_get, refl, sym, ◌∙◌, ap, subst, inl, inr, ⊎_elim, eq-eqb, arith}
use Rattle.std.proofs.lemmas.Bool.{cases_eq, ne_eqb, true≢false}
use Rattle.std.proofs.lemmas.Bool.Decides.{nat_tests}
use Rattle.std.proofs.lemmas.Cmp.{nat_cmp_total, on_total, then_total, tied_itself}
use Rattle.std.proofs.lemmas.Map.Lookups.{CmpEqualImpliesEq}
use Rattle.std.proofs.lemmas.Map.Views.{tells_apart}
use Rattle.std.specs.BTreeMap.{is_at}
use Rattle.std.specs.BTreeMap.Range.{IsLeBy}
use Rattle.std.specs.BTreeSet.{contains, Updates, IsKeyInRange, IsKeyRangeOf}
use Rattle.std.specs.declared.ops.Bound.TheVariants.{Included, Unbounded}
use Rattle.std.specs.Cmp.{IsTotalOrder}
use Rattle.std.specs.Ordering.{is_eq}
use Rattle.mapf_lemmas.specs.declared.constraint.PathConstraint.{PathConstraint}
use Rattle.mapf_lemmas.specs.declared.constraint.PathConstraint.TheVariants as path
use Rattle.mapf_lemmas.specs.Cases.{with_constraint}
use Rattle.mapf_lemmas.specs.Statements.{IsMet, Meets}
use Rattle.mapf_model.proofs.ContainsLemmas.{Contains-cons_cases, Contains-cons_new, Contains-cons_old}
use Rattle.mapf_cases.specs.declared.rule.Rule.{Rule}
use Rattle.mapf_cases.specs.declared.rule.Rule.TheVariants.{NotAt, NotMove, Clear, Most, Least}
use Rattle.mapf_cases.specs.declared.rule_index.RuleIndex.{RuleIndex}
use Rattle.mapf_cases.specs.contracts.rule.RuleOrd.TheImpl.Laws as rule_laws
use Rattle.mapf_cases.specs.Rules.{Indexes, CanRemove, ServesFrom, constraint_of, first_of_kind, first_of_other_kind, key_cmp}

total : IsTotalOrder key_cmp
total = then_total (on_total (λ (k : ℕ × Rule). k.0) nat_cmp_total) (on_total (λ (k : ℕ × Rule). k.1) rule_laws.total-law)

exact : CmpEqualImpliesEq key_cmp
exact (a, NotAt c t) (b, NotAt d u) e = let same : (a ≡ b) × (c ≡ d) × (t ≡ u) = grind (arith, nat_tests) in λ k. (same.0 k, NotAt (same.1 k) (same.2 k))
exact (a, NotMove c d t) (b, NotMove f g u) e = let same : (a ≡ b) × (c ≡ f) × (d ≡ g) × (t ≡ u) = grind (arith, nat_tests) in λ k. (same.0 k, NotMove (same.1 k) (same.2 k) (same.3 k))
exact (a, Clear c t) (b, Clear d u) e = let same : (a ≡ b) × (c ≡ d) × (t ≡ u) = grind (arith, nat_tests) in λ k. (same.0 k, Clear (same.1 k) (same.2 k))
exact (a, Most t) (b, Most u) e = let same : (a ≡ b) × (t ≡ u) = grind (arith, nat_tests) in λ k. (same.0 k, Most (same.1 k))
exact (a, Least t) (b, Least u) e = let same : (a ≡ b) × (t ≡ u) = grind (arith, nat_tests) in λ k. (same.0 k, Least (same.1 k))
exact (a, one) (b, other) e = absurd (grind (arith, nat_tests))

-- a rule is given by its constraint
one_rule : (one other : Rule) → constraint_of one ≡ constraint_of other → one ≡ other
one_rule (NotAt c t) (NotAt d u) e = cc
one_rule (NotMove c d t) (NotMove f g u) e = cc
one_rule (Clear c t) (Clear d u) e = cc
one_rule (Most t) (Most u) e = cc
one_rule (Least t) (Least u) e = cc
one_rule one other e = absurd cc

-- and each constraint is that of a rule
pub rule_for : (constraint : PathConstraint) → (rule : Rule) × (constraint_of rule ≡ constraint)
rule_for (path.NotAt cell tick) = (NotAt cell tick, refl)
rule_for (path.NotMove from to tick) = (NotMove from to tick, refl)
rule_for (path.Clear cell tick) = (Clear cell tick, refl)
rule_for (path.Most ticks) = (Most ticks, refl)
rule_for (path.Least ticks) = (Least ticks, refl)

-- a key is the one that was added or removed, or it is told apart from it
told : (k q : ℕ × Rule) → (k ≡ q) ⊎ ((k ≡ q → ⊥) × (is_at (key_cmp k) q ≡ false))
told k q = by (is_at (key_cmp k) q) refl
  where
    by : (same : Bool) → is_at (key_cmp k) q ≡ same → (k ≡ q) ⊎ ((k ≡ q → ⊥) × (is_at (key_cmp k) q ≡ false))
    by true e = inl (tells_apart exact k q e)
    by false e = inr ((λ same. true≢false (sym (ap is_eq (tied_itself total k)) ∙ ap (λ x. is_at (key_cmp k) x) same ∙ e)), e)

module _ (constraints : ℕ → List PathConstraint) (agent : ℕ) (rule : Rule) where
  abbrev more : ℕ → List PathConstraint
  more = with_constraint constraints agent (constraint_of rule)

  stands_here : Contains (more agent) (constraint_of rule)
  stands_here = rw (eq-eqb agent agent refl) (Contains-cons_new (constraint_of rule) (constraints agent))

  -- the other constraints are those from before
  stands_there : (i : ℕ) (other : Rule) → (◌≡◌ {A = ℕ × Rule} (agent, rule) (i, other) → ⊥) → Contains (more i) (constraint_of other) ↔ Contains (constraints i) (constraint_of other)
  stands_there i other differ = elim (cases_eq i agent) [
    | inl same ↦ rw (eq-eqb i agent same) (
      λ there. elim (Contains-cons_cases (constraint_of rule) (constraint_of other) (constraints i) there) [
        | inl head ↦ absurd (differ (λ k. (sym same k, one_rule rule other head k)))
        | inr rest ↦ rest
      ],
      Contains-cons_old (constraint_of rule) (constraint_of other) (constraints i),
    )
    | inr apart ↦ rw (ne_eqb i agent apart) (λ h. h, λ h. h)
  ]

  module _ (old new : RuleIndex) where
    pub added : Indexes constraints old → Updates key_cmp old.rules new.rules (agent, rule) true → Indexes more new
    added indexed updates i other = elim (told (agent, rule) (i, other)) [
      | inl same ↦ subst (λ (x : ℕ × Rule). IsTrue (contains key_cmp new.rules x) ↔ Contains (more x.0) (constraint_of x.1)) same (λ _. stands_here, λ _. updates.1)
      | inr (differ, apart) ↦ rw (updates.2 (i, other) apart) (λ h. (stands_there i other differ).1 ((indexed i other).0 h), λ h. (indexed i other).1 ((stands_there i other differ).0 h))
    ]

    pub removed : Indexes more old → (Contains (constraints agent) (constraint_of rule) → ⊥) → Updates key_cmp old.rules new.rules (agent, rule) false → Indexes constraints new
    removed indexed absent updates i other = elim (told (agent, rule) (i, other)) [
      | inl same ↦ subst (λ (x : ℕ × Rule). IsTrue (contains key_cmp new.rules x) ↔ Contains (constraints x.0) (constraint_of x.1)) same (λ h. absurd (true≢false (sym h ∙ updates.1)), λ h. absurd (absent h))
      | inr (differ, apart) ↦ rw (updates.2 (i, other) apart) (λ h. (stands_there i other differ).0 ((indexed i other).0 h), λ h. (indexed i other).1 ((stands_there i other differ).1 h))
    ]

  pub can_remove : (index : RuleIndex) → Indexes constraints index → (is_new : Bool) → is_new ≡ not (contains key_cmp index.rules (agent, rule)) → CanRemove constraints agent (constraint_of rule) is_new
  can_remove index indexed is_new is = rw is (by (contains key_cmp index.rules (agent, rule)) refl)
    where
      by : (held : Bool) → contains key_cmp index.rules (agent, rule) ≡ held → CanRemove constraints agent (constraint_of rule) (not held)
      by true e = (indexed agent rule).0 e
      by false e = λ there. true≢false (sym ((indexed agent rule).1 there) ∙ e)

  -- a constraint that was there before stays
  pub again : (index : RuleIndex) → Indexes more index → Contains (constraints agent) (constraint_of rule) → Indexes constraints index
  again index indexed present i other = elim (told (agent, rule) (i, other)) [
    | inl same ↦ subst (λ (x : ℕ × Rule). IsTrue (contains key_cmp index.rules x) ↔ Contains (constraints x.0) (constraint_of x.1)) same (λ _. present, λ _. (indexed agent rule).1 stands_here)
    | inr (differ, apart) ↦ (λ h. (stands_there i other differ).0 ((indexed i other).0 h), λ h. (indexed i other).1 ((stands_there i other differ).1 h))
  ]

-- the first rule from some rule on
module _ (constraints : ℕ → List PathConstraint) (index : RuleIndex) (indexed : Indexes constraints index) (agent : ℕ) (first needed : Rule) where
  pub none_from : ((k : ℕ × Rule) → IsLeBy key_cmp (agent, first) k → contains key_cmp index.rules k ≡ false) → (rule : Rule) → Contains (constraints agent) (constraint_of rule) → ServesFrom agent first needed rule → ⊥
  none_from none rule stands serves = true≢false (sym ((indexed agent rule).1 stands) ∙ none (agent, rule) serves.after)

  module _ (keys rest : List (ℕ × Rule)) (next : ℕ × Rule) (is : keys ≡ next ∷ rest) (range : IsKeyRangeOf key_cmp (Included (agent, first)) Unbounded index.rules keys) where
    next_is : IsKeyInRange key_cmp (Included (agent, first)) Unbounded index.rules next
    next_is = subst (λ keys. IfSome (slice_get keys 0) (IsKeyInRange key_cmp (Included (agent, first)) Unbounded index.rules)) is range.1

    pub next_stands : next.0 ≡ agent → Meets (constraint_of next.1) (constraint_of needed) → IsMet (constraints agent) (constraint_of needed)
    next_stands of serves = (constraint_of next.1, subst (λ a. Contains (constraints a) (constraint_of next.1)) of ((indexed next.0 next.1).0 next_is.1), serves)

    pub next_serves : (rule : Rule) → Contains (constraints agent) (constraint_of rule) → ServesFrom agent first needed rule → (next.0 ≡ agent) × Meets (constraint_of next.1) (constraint_of needed)
    next_serves rule stands serves = serves.between next next_is.0.0
        (subst (λ keys. IfSome (slice_get keys 0) (λ k. IsLeBy key_cmp k (agent, rule))) is (range.2 (agent, rule) (serves.after, tt) ((indexed agent rule).1 stands)))

-- a rule that serves is found from the first of its kind on
module _ (agent : ℕ) where
  serves_not_at : (cell tick : ℕ) (key : ℕ × Rule) → IsLeBy key_cmp (agent, NotAt cell tick) key → IsLeBy key_cmp key (agent, NotAt cell tick) → (key.0 ≡ agent) × Meets (constraint_of key.1) (path.NotAt cell tick)
  serves_not_at cell tick (a, NotAt c t) low high = let same : (a ≡ agent) × (c ≡ cell) × (t ≡ tick) = grind (arith, nat_tests) in (same.0, (same.1, same.2))
  serves_not_at cell tick (a, other) low high = absurd (grind (arith, nat_tests))

  serves_not_move : (from to tick : ℕ) (key : ℕ × Rule) → IsLeBy key_cmp (agent, NotMove from to tick) key → IsLeBy key_cmp key (agent, NotMove from to tick) → (key.0 ≡ agent) × Meets (constraint_of key.1) (path.NotMove from to tick)
  serves_not_move from to tick (a, NotMove c d t) low high =
      let agents : a ≡ agent = grind (arith, nat_tests) in
      let starts : c ≡ from = grind (arith, nat_tests) in
      let ends : d ≡ to = grind (arith, nat_tests) in
      let ticks : t ≡ tick = grind (arith, nat_tests) in
      (agents, (starts, ends, ticks))
  serves_not_move from to tick (a, other) low high = absurd (grind (arith, nat_tests))

  between_clear : (cell from : ℕ) (key : ℕ × Rule) → IsLeBy key_cmp (agent, Clear cell 0) key → IsLeBy key_cmp key (agent, Clear cell from) → (key.0 ≡ agent) × ((tick : ℕ) × (key.1 ≡ Clear cell tick) × (tick ≤ from))
  between_clear cell from (a, Clear c t) low high = let same : (a ≡ agent) × (c ≡ cell) × (t ≤ from) = grind (arith, nat_tests) in (same.0, (t, (λ k. Clear (same.1 k) t), same.2))
  between_clear cell from (a, other) low high = absurd (grind (arith, nat_tests))

  serves_clear : (cell tick from : ℕ) → from ≤ tick → (key : ℕ × Rule) → IsLeBy key_cmp (agent, Clear cell 0) key → IsLeBy key_cmp key (agent, Clear cell from) →
      (key.0 ≡ agent) × (Meets (constraint_of key.1) (path.NotAt cell tick) × Meets (constraint_of key.1) (path.Clear cell tick))
  serves_clear cell tick from early key low high =
      let (of, (then, is, before)) = between_clear cell from key low high in
      (of, rw is ((refl, omega arith), (refl, omega arith)))

  serves_most : (ticks less : ℕ) → less ≤ ticks → (key : ℕ × Rule) → IsLeBy key_cmp (agent, Most 0) key → IsLeBy key_cmp key (agent, Most less) → (key.0 ≡ agent) × Meets (constraint_of key.1) (path.Most ticks)
  serves_most ticks less few (a, Most t) low high = let same : (a ≡ agent) × (t ≤ ticks) = grind (arith, nat_tests) in (same.0, same.1)
  serves_most ticks less few (a, other) low high = absurd (grind (arith, nat_tests))

  serves_least : (ticks more : ℕ) (key : ℕ × Rule) → IsLeBy key_cmp (agent, Least ticks) key → IsLeBy key_cmp key (agent, Least more) → (key.0 ≡ agent) × Meets (constraint_of key.1) (path.Least ticks)
  serves_least ticks more (a, Least t) low high = let same : (a ≡ agent) × (ticks ≤ t) = grind (arith, nat_tests) in (same.0, same.1)
  serves_least ticks more (a, other) low high = absurd (grind (arith, nat_tests))

  pub serves : (needed rule : Rule) → Meets (constraint_of rule) (constraint_of needed) →
      ServesFrom agent (first_of_kind needed) needed rule ⊎ ((first : Rule) × (first_of_other_kind needed ≡ Some first) × ServesFrom agent first needed rule)
  serves (NotAt cell tick) (NotAt c t) stands =
      inl (record { after = grind (arith, nat_tests); between = λ key low high. serves_not_at cell tick key low (subst (λ r. IsLeBy key_cmp key (agent, r)) (λ k. NotAt (stands.0 k) (stands.1 k)) high) })
  serves (NotAt cell tick) (Clear c t) stands =
      inr (Clear cell 0, refl, record { after = grind (arith, nat_tests); between = λ key low high. let both = serves_clear cell tick t stands.1 key low (subst (λ x. IsLeBy key_cmp key (agent, Clear x t)) stands.0 high) in (both.0, both.1.0) })
  serves (NotMove from to tick) (NotMove c d t) stands =
      inl (record { after = grind (arith, nat_tests); between = λ key low high. serves_not_move from to tick key low (subst (λ r. IsLeBy key_cmp key (agent, r)) (λ k. NotMove (stands.0 k) (stands.1 k) (stands.2 k)) high) })
  serves (Clear cell tick) (Clear c t) stands =
      inl (record { after = grind (arith, nat_tests); between = λ key low high. let both = serves_clear cell tick t stands.1 key low (subst (λ x. IsLeBy key_cmp key (agent, Clear x t)) stands.0 high) in (both.0, both.1.1) })
  serves (Most ticks) (Most less) stands = inl (record { after = grind (arith, nat_tests); between = serves_most ticks less stands })
  serves (Least ticks) (Least more) stands = inl (record { after = grind (arith, nat_tests); between = serves_least ticks more })
  serves needed rule stands = absurd stands

-- what a search for the needed rule may find
module _ (constraints : ℕ → List PathConstraint) (agent : ℕ) (needed : Rule) where
  -- the search from this rule on finds each that serves
  abbrev pub Completes : Rule → Bool → Type 0
  Completes first found = (rule : Rule) → Contains (constraints agent) (constraint_of rule) → ServesFrom agent first needed rule → IsTrue found

  -- if no rule of its own kind serves, one of the other kind does
  pub found_other : (own : Bool) → Completes (first_of_kind needed) own → own ≡ false → IsMet (constraints agent) (constraint_of needed) →
      (first : Rule) × (first_of_other_kind needed ≡ Some first) × ((found : Bool) → Completes first found → IsTrue found)
  found_other own completes none (constraint, held, stands) =
      let (rule, is) = rule_for constraint in
      let there : Contains (constraints agent) (constraint_of rule) = subst (λ k. Contains (constraints agent) k) (sym is) held in
      ⊎_elim
      (λ (from : ServesFrom agent (first_of_kind needed) needed rule). absurd (true≢false (sym (completes rule there from) ∙ none)))
      (λ (other : (first : Rule) × (first_of_other_kind needed ≡ Some first) × ServesFrom agent first needed rule). (other.0, other.1, λ found completed. completed rule there other.2))
      (serves agent needed rule (subst (λ k. Meets k (constraint_of needed)) (sym is) stands))
