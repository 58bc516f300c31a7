-- The index of constraints while it grows, and what it finds.
use Rattle.std.proofs.Common.{◌≡◌, ◌↔◌, ◌⊎◌, ℕ, ◌<◌, ◌≤◌, ◌==◌, max, min, cond, Bool, true, false, List, [], ◌∷◌, ◌++◌, Option, Some, None, is_some, Contains, IsTrue, IfSome, slice_get, refl, sym, ◌∙◌, ap, subst, inl, inr, ⊎_elim, arith}
use Rattle.std.proofs.lemmas.Bool.{cases_eq, cases_lt, cond_both, eq-eqb, ne_eqb, true≢false}
use Rattle.std.proofs.lemmas.Bool.Decides.{nat_tests}
use Rattle.std.proofs.lemmas.Cmp.{tied_itself}
use Rattle.std.proofs.lemmas.List.Elements.{Contains-append_left, Contains-push, Contains-push_cases}
use Rattle.std.proofs.lemmas.Map.Lookups.{CmpEqualImpliesEq}
use Rattle.std.proofs.lemmas.Map.Views.{tells_apart}
use Rattle.std.specs.BTreeMap.{is_at, get}
use Rattle.std.specs.BTreeMap as tree
use Rattle.std.specs.BTreeMap.Range.{IsLeBy}
use Rattle.std.specs.BTreeSet.{contains, Updates, IsKeyInRange, IsKeyRangeOf}
use Rattle.std.specs.declared.ops.Bound.TheVariants.{Included, Unbounded}
use Rattle.std.specs.Cmp.{IsTotalOrder}
use Rattle.std.specs.Ordering.{is_eq, nat_cmp}
use Rattle.mapf_lemmas.specs.declared.constraint.PathConstraint.{PathConstraint}
use Rattle.mapf_lemmas.specs.declared.constraint.PathConstraint.TheVariants.{NotAt, Clear, Most, Least}
use Rattle.mapf_lemmas.specs.declared.constraint.AgentConstraint.{AgentConstraint}
use Rattle.mapf_lemmas.specs.Constraints.{demanded_by, demanded_cost}
use Rattle.mapf_lemmas.specs.Statements.{constraints_of}
use Rattle.mapf_model.specs.declared.bar.Bar.{Bar}
use Rattle.mapf_model.specs.declared.bar.Bar.TheVariants.{Cell, Move}
use Rattle.mapf_model.specs.contracts.bar.BarOrd.TheImpl.Laws as bar_laws
use Rattle.mapf_single_labels.specs.declared.constraint_index.ConstraintIndex.{ConstraintIndex}
use Rattle.mapf_single_labels.specs.ConstraintIndex.{Indexes, bar_cmp}
use Rattle.mapf_single_labels.specs.TaskConstraints.{IsBarredFrom, IsFirstClear, IsForbidden, IsForbiddenFrom, IsLeastMost, IsOn, constraint_of, least_of}

total : IsTotalOrder bar_cmp
total = bar_laws.total-law

exact : CmpEqualImpliesEq bar_cmp
exact (Cell c t) (Cell d u) e = let same : (c ≡ d) × (t ≡ u) = grind (arith, nat_tests) in λ k. Cell (same.0 k) (same.1 k)
exact (Cell c t) (Move d f u) e = absurd (grind (arith, nat_tests))
exact (Move c d t) (Cell f u) e = absurd (grind (arith, nat_tests))
exact (Move c d t) (Move f g u) e = let same : (c ≡ f) × (d ≡ g) × (t ≡ u) = grind (arith, nat_tests) in λ k. Move (same.0 k) (same.1 k) (same.2 k)

-- a key is the one that was added, or it is told apart from it
told : (k q : Bar) → (k ≡ q) ⊎ ((k ≡ q → ⊥) × (is_at (bar_cmp k) q ≡ false))
told k q = by (is_at (bar_cmp k) q) refl
  where
    by : (same : Bool) → is_at (bar_cmp k) q ≡ same → (k ≡ q) ⊎ ((k ≡ q → ⊥) × (is_at (bar_cmp k) q ≡ false))
    by true e = inl (tells_apart exact k q e)
    by false e = inr ((λ same. true≢false (sym (ap is_eq (tied_itself total k)) ∙ ap (λ x. is_at (bar_cmp k) x) same ∙ e)), e)

-- as constraints on the path they are different too
apart : (k q : Bar) → constraint_of k ≡ constraint_of q → k ≡ q
apart (Cell c t) (Cell d u) e = cc
apart (Cell c t) (Move d f u) e = absurd cc
apart (Move c d t) (Cell f u) e = absurd cc
apart (Move c d t) (Move f g u) e = cc

module _ (listed : List PathConstraint) (one : PathConstraint) where
  -- a constraint that isn't the new one was listed before
  pub listed_before : (other : PathConstraint) → (one ≡ other → ⊥) → Contains (listed ++ one ∷ []) other → Contains listed other
  listed_before other differ held = elim (Contains-push_cases listed one other held) [
    | inl before ↦ before
    | inr same ↦ absurd (differ same)
  ]

  still : (other : PathConstraint) → Contains listed other → Contains (listed ++ one ∷ []) other
  still other held = Contains-append_left listed (one ∷ []) other held

  -- the parts of which the new constraint says nothing stay
  bars_stay : (index : ConstraintIndex) → ((bar : Bar) → one ≡ constraint_of bar → ⊥) → ((bar : Bar) → IsTrue (contains bar_cmp index.bars bar) ↔ Contains listed (constraint_of bar)) →
      (bar : Bar) → IsTrue (contains bar_cmp index.bars bar) ↔ Contains (listed ++ one ∷ []) (constraint_of bar)
  bars_stay index differ before bar = (λ h. still (constraint_of bar) ((before bar).0 h), λ h. (before bar).1 (listed_before (constraint_of bar) (differ bar) h))

  first_stays : (cell : ℕ) (first : Option ℕ) → ((tick : ℕ) → one ≡ Clear cell tick → ⊥) → IsFirstClear listed cell first → IsFirstClear (listed ++ one ∷ []) cell first
  first_stays cell (Some tick) differ before = (still (Clear cell tick) before.0, λ other h. before.1 other (listed_before (Clear cell other) (differ other) h))
  first_stays cell None differ before = λ other h. before other (listed_before (Clear cell other) (differ other) h)

  most_stays : (most : Option ℕ) → ((ticks : ℕ) → one ≡ Most ticks → ⊥) → IsLeastMost listed most → IsLeastMost (listed ++ one ∷ []) most
  most_stays (Some ticks) differ before = (still (Most ticks) before.0, λ other h. before.1 other (listed_before (Most other) (differ other) h))
  most_stays None differ before = λ other h. before other (listed_before (Most other) (differ other) h)

demanded_more : (listed : List PathConstraint) (one : PathConstraint) → demanded_cost (listed ++ one ∷ []) ≡ max (demanded_cost listed) (demanded_by one)
demanded_more [] one = omega arith
demanded_more (first ∷ listed) one = let rest = demanded_more listed one in omega arith

demanded_stays : (listed : List PathConstraint) (one : PathConstraint) (least : ℕ) → demanded_by one ≡ 0 → least ≡ demanded_cost listed → least ≡ demanded_cost (listed ++ one ∷ [])
demanded_stays listed one least none same = let more = demanded_more listed one in omega arith

module _ (listed : List PathConstraint) (bar : Bar) where
  -- a constraint on one tick is added
  pub bar_added : (old new : ConstraintIndex) → Indexes listed old → Updates bar_cmp old.bars new.bars bar true → new.clears ≡ old.clears → new.most ≡ old.most → new.least ≡ old.least → Indexes (listed ++ constraint_of bar ∷ []) new
  bar_added old new indexed updates clears most least = record {
    bars = λ other. elim (told bar other) [
      | inl same ↦ subst (λ (x : Bar). IsTrue (contains bar_cmp new.bars x) ↔ Contains (listed ++ constraint_of bar ∷ []) (constraint_of x)) same (λ _. Contains-push listed (constraint_of bar), λ _. updates.1)
      | inr (differ, split) ↦ rw (updates.2 other split) (
        λ h. still listed (constraint_of bar) (constraint_of other) ((indexed.bars other).0 h),
        λ h. (indexed.bars other).1 (listed_before listed (constraint_of bar) (constraint_of other) (λ e. differ (apart bar other e)) h),
      )
    ];
    clears = λ cell. first_stays listed (constraint_of bar) cell (get nat_cmp new.clears cell) (no_clear bar cell) (rw clears (indexed.clears cell));
    most = most_stays listed (constraint_of bar) new.most (no_most bar) (rw most indexed.most);
    least = demanded_stays listed (constraint_of bar) new.least (none_demanded bar) (least ∙ indexed.least);
  }
    where
      no_clear : (b : Bar) (cell tick : ℕ) → constraint_of b ≡ Clear cell tick → ⊥
      no_clear (Cell c t) cell tick e = cc
      no_clear (Move c d t) cell tick e = cc

      no_most : (b : Bar) (ticks : ℕ) → constraint_of b ≡ Most ticks → ⊥
      no_most (Cell c t) ticks e = cc
      no_most (Move c d t) ticks e = cc

      none_demanded : (b : Bar) → demanded_by (constraint_of b) ≡ 0
      none_demanded (Cell c t) = refl
      none_demanded (Move c d t) = refl

not_bar_clear : (cell tick : ℕ) (b : Bar) → Clear cell tick ≡ constraint_of b → ⊥
not_bar_clear cell tick (Cell c t) e = cc
not_bar_clear cell tick (Move c d t) e = cc

not_bar_most : (ticks : ℕ) (b : Bar) → Most ticks ≡ constraint_of b → ⊥
not_bar_most ticks (Cell c t) e = cc
not_bar_most ticks (Move c d t) e = cc

not_bar_least : (ticks : ℕ) (b : Bar) → Least ticks ≡ constraint_of b → ⊥
not_bar_least ticks (Cell c t) e = cc
not_bar_least ticks (Move c d t) e = cc

either : (a b : ℕ) → (min a b ≡ a) ⊎ (min a b ≡ b)
either a b = ⊎_elim (λ (less : a < b). inl (omega arith)) (λ (more : b ≤ a). inr (omega arith)) (cases_lt a b)

module _ (listed : List PathConstraint) where
  first_more : (cell tick : ℕ) (first : Option ℕ) → IsFirstClear listed cell first → IsFirstClear (listed ++ Clear cell tick ∷ []) cell (Some (least_of first tick))
  first_more cell tick None none = (
    Contains-push listed (Clear cell tick),
    λ other h. elim (Contains-push_cases listed (Clear cell tick) (Clear cell other) h) [
      | inl before ↦ absurd (none other before)
      | inr same ↦ let e : tick ≡ other = cc in omega arith
    ],
  )
  first_more cell tick (Some old) is = (
    ⊎_elim
        (λ (e : min old tick ≡ old). subst (λ t. Contains (listed ++ Clear cell tick ∷ []) (Clear cell t)) (sym e) (still listed (Clear cell tick) (Clear cell old) is.0))
        (λ (e : min old tick ≡ tick). subst (λ t. Contains (listed ++ Clear cell tick ∷ []) (Clear cell t)) (sym e) (Contains-push listed (Clear cell tick)))
        (either old tick),
    λ other h. elim (Contains-push_cases listed (Clear cell tick) (Clear cell other) h) [
      | inl before ↦ let low = is.1 other before in omega arith
      | inr same ↦ let e : tick ≡ other = cc in omega arith
    ],
  )

  most_more : (ticks : ℕ) (most : Option ℕ) → IsLeastMost listed most → IsLeastMost (listed ++ Most ticks ∷ []) (Some (least_of most ticks))
  most_more ticks None none = (
    Contains-push listed (Most ticks),
    λ other h. elim (Contains-push_cases listed (Most ticks) (Most other) h) [
      | inl before ↦ absurd (none other before)
      | inr same ↦ let e : ticks ≡ other = cc in omega arith
    ],
  )
  most_more ticks (Some old) is = (
    ⊎_elim
        (λ (e : min old ticks ≡ old). subst (λ t. Contains (listed ++ Most ticks ∷ []) (Most t)) (sym e) (still listed (Most ticks) (Most old) is.0))
        (λ (e : min old ticks ≡ ticks). subst (λ t. Contains (listed ++ Most ticks ∷ []) (Most t)) (sym e) (Contains-push listed (Most ticks)))
        (either old ticks),
    λ other h. elim (Contains-push_cases listed (Most ticks) (Most other) h) [
      | inl before ↦ let low = is.1 other before in omega arith
      | inr same ↦ let e : ticks ≡ other = cc in omega arith
    ],
  )

  pub clear_added : (cell tick : ℕ) (first : Option ℕ) (old new : ConstraintIndex) → Indexes listed old → ((l : List PathConstraint) → Indexes l old → IsFirstClear l cell first) → tree.Updates nat_cmp old.clears new.clears cell (Some (least_of first tick)) → new.bars ≡ old.bars → new.most ≡ old.most → new.least ≡ old.least →
      Indexes (listed ++ Clear cell tick ∷ []) new
  clear_added cell tick first old new indexed is updates bars most least = record {
    bars = bars_stay listed (Clear cell tick) new (not_bar_clear cell tick) (rw bars indexed.bars);
    clears = λ other. elim (cases_eq cell other) [
      | inl same ↦ subst (λ c. IsFirstClear (listed ++ Clear cell tick ∷ []) c (get nat_cmp new.clears c)) same (rw updates.1 (first_more cell tick first (is listed indexed)))
      | inr differ ↦ rw (updates.2 other (grind (arith, nat_tests))) (first_stays listed (Clear cell tick) other (get nat_cmp old.clears other) (λ t e. differ cc) (indexed.clears other))
    ];
    most = most_stays listed (Clear cell tick) new.most (λ ticks e. cc) (rw most indexed.most);
    least = demanded_stays listed (Clear cell tick) new.least refl (least ∙ indexed.least);
  }

  pub most_added : (ticks : ℕ) (old new : ConstraintIndex) → Indexes listed old → new.most ≡ Some (least_of old.most ticks) → new.bars ≡ old.bars → new.clears ≡ old.clears → new.least ≡ old.least → Indexes (listed ++ Most ticks ∷ []) new
  most_added ticks old new indexed most bars clears least = record {
    bars = bars_stay listed (Most ticks) new (not_bar_most ticks) (rw bars indexed.bars);
    clears = λ cell. first_stays listed (Most ticks) cell (get nat_cmp new.clears cell) (λ t e. cc) (rw clears (indexed.clears cell));
    most = rw most (most_more ticks old.most indexed.most);
    least = demanded_stays listed (Most ticks) new.least refl (least ∙ indexed.least);
  }

  pub least_added : (ticks : ℕ) (old new : ConstraintIndex) → Indexes listed old → new.least ≡ max old.least ticks → new.bars ≡ old.bars → new.clears ≡ old.clears → new.most ≡ old.most → Indexes (listed ++ Least ticks ∷ []) new
  least_added ticks old new indexed least bars clears most = record {
    bars = bars_stay listed (Least ticks) new (not_bar_least ticks) (rw bars indexed.bars);
    clears = λ cell. first_stays listed (Least ticks) cell (get nat_cmp new.clears cell) (λ t e. cc) (rw clears (indexed.clears cell));
    most = most_stays listed (Least ticks) new.most (λ t e. cc) (rw most indexed.most);
    least = let more = demanded_more listed (Least ticks) in let before = indexed.least in omega arith;
  }

module _ (listed : List PathConstraint) (index : ConstraintIndex) (indexed : Indexes listed index) (cell tick : ℕ) where
  abbrev pub IsFrom : Bar → Type 0
  IsFrom = IsLeBy bar_cmp (Cell cell tick)

  later_from : (later : ℕ) → tick ≤ later → IsFrom (Cell cell later)
  later_from later le = grind (arith, nat_tests)

  pub none_from : ((k : Bar) → IsFrom k → contains bar_cmp index.bars k ≡ false) → IsBarredFrom listed cell tick → ⊥
  none_from none (later, late, stands) = true≢false (sym ((indexed.bars (Cell cell later)).1 stands) ∙ none (Cell cell later) (later_from later late))

  -- the first constraint from the state on
  module _ (keys rest : List Bar) (next : Bar) (is : keys ≡ next ∷ rest) (range : IsKeyRangeOf bar_cmp (Included (Cell cell tick)) Unbounded index.bars keys) where
    first : IsKeyInRange bar_cmp (Included (Cell cell tick)) Unbounded index.bars next
    first = subst (λ keys. IfSome (slice_get keys 0) (IsKeyInRange bar_cmp (Included (Cell cell tick)) Unbounded index.bars)) is range.1

    -- if it forbids the cell, the cell is forbidden later
    pub barred_from : IsOn cell next → IsBarredFrom listed cell tick
    barred_from on = by next on first.0.0 ((indexed.bars next).0 first.1)
      where
        by : (bar : Bar) → IsOn cell bar → IsFrom bar → Contains listed (constraint_of bar) → IsBarredFrom listed cell tick
        by (Cell c t) on low there = (t, grind (arith, nat_tests), rw (← on) there)
        by (Move f o t) on low there = absurd on

    -- and only then
    pub first_from : IsBarredFrom listed cell tick → IsOn cell next
    first_from (later, late, stands) = by next first.0.0
        (subst (λ keys. IfSome (slice_get keys 0) (λ k. IsLeBy bar_cmp k (Cell cell later))) is (range.2 (Cell cell later) (later_from later late, tt) ((indexed.bars (Cell cell later)).1 stands)))
      where
        by : (bar : Bar) → IsFrom bar → IsLeBy bar_cmp bar (Cell cell later) → IsOn cell bar
        by (Cell c t) low high = grind (arith, nat_tests)
        by (Move f o t) low high = absurd (grind (arith, nat_tests))

module _ (listed : List PathConstraint) (cell tick : ℕ) where
  -- a state is forbidden by a constraint on one tick, or by the first tick from which on the cell is to be clear
  pub forbidden_some : (held test : Bool) (first : ℕ) → IsTrue held ↔ Contains listed (NotAt cell tick) → held ≡ false → IsFirstClear listed cell (Some first) → IsTrue test ↔ (first ≤ tick) → IsTrue test ↔ IsForbidden listed cell tick
  forbidden_some held test first bars none is decided = (
    λ yes. inr (first, decided.0 yes, is.0),
    λ there. elim there [
      | inl at ↦ absurd (true≢false (sym (bars.1 at) ∙ none))
      | inr (from, early, at) ↦ decided.1 (let low = is.1 from at in omega arith)
    ],
  )

  pub forbidden_none : (held : Bool) → IsTrue held ↔ Contains listed (NotAt cell tick) → held ≡ false → IsFirstClear listed cell None → IsForbidden listed cell tick → ⊥
  forbidden_none held bars none is (inl at) = true≢false (sym (bars.1 at) ∙ none)
  forbidden_none held bars none is (inr (from, early, at)) = is from at

  pub forbidden_from : (first : Option ℕ) (held : Bool) → is_some first ≡ false → IsFirstClear listed cell first → IsTrue held ↔ IsBarredFrom listed cell tick → IsTrue held ↔ IsForbiddenFrom listed cell tick
  forbidden_from (Some t) held none is decided = absurd cc
  forbidden_from None held none is decided = (
    λ yes. inl (decided.0 yes),
    λ there. elim there [
      | inl at ↦ decided.1 at
      | inr (from, at) ↦ absurd (is from at)
    ],
  )

-- those of an agent, with one constraint more
pub of_agent_more : (constraints : List AgentConstraint) (one : AgentConstraint) (agent : ℕ) → one.agent ≡ agent → constraints_of (constraints ++ one ∷ []) agent ≡ constraints_of constraints agent ++ one.constraint ∷ []
of_agent_more [] one agent same = rw (eq-eqb one.agent agent same) refl
of_agent_more (first ∷ constraints) one agent same =
    cond_both (first.agent == agent) (first.constraint ∷ constraints_of (constraints ++ one ∷ []) agent) (constraints_of (constraints ++ one ∷ []) agent)
    (λ xs. xs ≡ cond (first.agent == agent) (first.constraint ∷ constraints_of constraints agent) (constraints_of constraints agent) ++ one.constraint ∷ [])
    (λ yes. rw yes (ap (λ rest. first.constraint ∷ rest) (of_agent_more constraints one agent same)))
    (λ no. rw no (of_agent_more constraints one agent same))

pub of_agent_same : (constraints : List AgentConstraint) (one : AgentConstraint) (agent : ℕ) → (one.agent ≡ agent → ⊥) → constraints_of (constraints ++ one ∷ []) agent ≡ constraints_of constraints agent
of_agent_same [] one agent differ = rw (ne_eqb one.agent agent differ) refl
of_agent_same (first ∷ constraints) one agent differ =
    cond_both (first.agent == agent) (first.constraint ∷ constraints_of (constraints ++ one ∷ []) agent) (constraints_of (constraints ++ one ∷ []) agent)
    (λ xs. xs ≡ cond (first.agent == agent) (first.constraint ∷ constraints_of constraints agent) (constraints_of constraints agent))
    (λ yes. rw yes (ap (λ rest. first.constraint ∷ rest) (of_agent_same constraints one agent differ)))
    (λ no. rw no (of_agent_same constraints one agent differ))
