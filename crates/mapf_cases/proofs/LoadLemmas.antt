-- Which group of a leaf an agent is in.
use Rattle.std.proofs.Common.{◌≡◌, ◌≢◌, ◌⊎◌, ℕ, ◌+◌, ◌*◌, ◌<◌, ◌≤◌, true, false, cond, List, Contains, length, take, get_or, slice_index, refl, sym, ◌∙◌, ap, subst, inl, inr, ⊎_elim, arith}
use Rattle.std.specs.Prelude.{◌==◌}
use native.Mathlib.Nat.{mul-add}
use Rattle.std.proofs.lemmas.Bool.{cases_eq, cases_lt, eq-eqb, ne_eqb}
use Rattle.std.proofs.lemmas.List.{get_or-set_same, get_or-set_other}
use Rattle.std.proofs.lemmas.List.Sums.{sum_by_more, sum_by-take-le}
use Rattle.std.proofs.lemmas.Nat.{mul-le}
use Rattle.mapf_cases.specs.declared.loads.Loads.{Loads}
use Rattle.mapf_cases.specs.Loads.{AreLoads, IsAdded, IsLoadOf, IsRefused, weight_in}
use Rattle.mapf_lemmas.specs.Groups.{occurrences}

weight_of_group : (group mark weight : ℕ) → mark ≡ group + 1 → weight_in group mark weight ≡ weight
weight_of_group group mark weight is = let same : (mark == (group + 1)) ≡ true = eq-eqb mark (group + 1) is in rw same refl

pub weight_of_none : (group mark weight : ℕ) → (mark ≡ group + 1 → ⊥) → weight_in group mark weight ≡ 0
weight_of_none group mark weight other = let differ : (mark == (group + 1)) ≡ false = ne_eqb mark (group + 1) other in rw differ refl

-- an agent in a list by itself
abbrev pub once : ℕ → ℕ → ℕ
once b a = cond (b == a) 1 0

-- one more of the agents, each with this weight
pub occurrences_more : (present weight a : ℕ) (agents : List ℕ) (i : ℕ) → i < length agents →
    (present + weight * occurrences a (take i agents)) + weight * once (get_or agents i 0) a ≡ present + weight * occurrences a (take (i + 1) agents)
occurrences_more present weight a agents i within =
    let more : occurrences a (take (i + 1) agents) ≡ occurrences a (take i agents) + once (get_or agents i 0) a = sum_by_more (λ other. cond (other == a) 1 0) agents i 0 within in
    let scaled = ap (λ n. weight * n) more ∙ mul-add weight (occurrences a (take i agents)) (once (get_or agents i 0) a) in
    omega (arith, scaled)

pub same_loads : (scope : List ℕ) (earlier : ℕ → ℕ → ℕ) (group : ℕ) (one other : ℕ → ℕ) (divisor : ℕ) (loads : Loads) → ((agent : ℕ) → one agent ≡ other agent) → AreLoads scope earlier group one divisor loads → AreLoads scope earlier group other divisor loads
same_loads scope earlier group one other divisor loads same are agent held =
    subst (λ n. IsLoadOf (λ k. earlier k agent) group n divisor (slice_index loads.marks.items agent) (slice_index loads.weights.items agent)) (same agent) (are agent held)

module _ (scope : List ℕ) (earlier : ℕ → ℕ → ℕ) (group : ℕ) (present : ℕ → ℕ) (divisor : ℕ) (old : Loads) (are : AreLoads scope earlier group present divisor old) where
  module _ (new : Loads) (b weight : ℕ) (added : IsAdded group divisor b weight old new) (some : 1 ≤ weight) (in_marks : b < length old.marks.items) (in_weights : b < length old.weights.items) where
    abbrev before : ℕ
    before = weight_in group (slice_index old.marks.items b) (slice_index old.weights.items b)

    here : Contains scope b → IsLoadOf (λ k. earlier k b) group (present b + weight * once b b) divisor (slice_index new.marks.items b) (slice_index new.weights.items b)
    here held =
        let load = are b held in
        let itself : (b == b) ≡ true = eq-eqb b b refl in
        let counted : weight * once b b ≡ weight = rw itself (omega arith) in
        let mark : slice_index new.marks.items b ≡ group + 1 = rw added.marks (get_or-set_same old.marks.items b (group + 1) 0 in_marks) in
        let sum : slice_index new.weights.items b ≡ before + weight = rw added.weights (get_or-set_same old.weights.items b (before + weight) 0 in_weights) in
        let is = weight_of_group group (slice_index new.marks.items b) (slice_index new.weights.items b) mark in
        let was = load.is_weight in
        let fits = added.fits in
        record {
          is_weight = omega (arith, counted, sum, is, was);
          within = omega (arith, counted, was, fits);
          bounded = omega arith;
          positive = λ e. omega (arith, sum, some);
          is_free = λ free. load.is_free added.is_free;
          is_taken = λ not_none other. absurd (other mark);
        }

    other_agent : (a : ℕ) → (a ≡ b → ⊥) → Contains scope a → IsLoadOf (λ k. earlier k a) group (present a + weight * once b a) divisor (slice_index new.marks.items a) (slice_index new.weights.items a)
    other_agent a other held =
        let differ : (b == a) ≡ false = ne_eqb b a (λ e. other (sym e)) in
        let none : present a ≡ present a + weight * once b a = rw differ (omega arith) in
        let mark : slice_index old.marks.items a ≡ slice_index new.marks.items a = rw added.marks (sym (get_or-set_other old.marks.items b a (group + 1) 0 other)) in
        let sum : slice_index old.weights.items a ≡ slice_index new.weights.items a = rw added.weights (sym (get_or-set_other old.weights.items b a (before + weight) 0 other)) in
        subst (λ n. IsLoadOf (λ k. earlier k a) group n divisor (slice_index new.marks.items a) (slice_index new.weights.items a)) none
        (subst (λ m. IsLoadOf (λ k. earlier k a) group (present a) divisor m (slice_index new.weights.items a)) mark
        (subst (λ w. IsLoadOf (λ k. earlier k a) group (present a) divisor (slice_index old.marks.items a) w) sum (are a held)))

    pub loads_more : AreLoads scope earlier group (λ a. present a + weight * once b a) divisor new
    loads_more a held = ⊎_elim
        (λ (same : a ≡ b). subst (λ k. IsLoadOf (λ g. earlier g k) group (present k + weight * once b k) divisor (slice_index new.marks.items k) (slice_index new.weights.items k)) (sym same) (here (subst (Contains scope) same held)))
        (λ (other : a ≡ b → ⊥). other_agent a other held)
        (cases_eq a b)

  -- an agent to which the weight can't be added
  pub refused : (b weight : ℕ) → Contains scope b → IsRefused group divisor b weight old → ((k : ℕ) × (k < group) × (1 ≤ earlier k b)) ⊎ (divisor < present b + weight)
  refused b weight held = ⊎_elim
      (λ (taken : (slice_index old.marks.items b ≢ 0) × (slice_index old.marks.items b ≢ group + 1)). inl ((are b held).is_taken taken.0 taken.1))
      (λ (over : divisor < weight_in group (slice_index old.marks.items b) (slice_index old.weights.items b) + weight). inr (let was = (are b held).is_weight in omega (arith, was, over)))

  -- after the group, whose weights these are, the next one
  pub next_group : ((agent : ℕ) → earlier group agent ≡ present agent) → AreLoads scope earlier (group + 1) (λ agent. 0) 0 old
  next_group same a held =
      let load = are a held in
      let mark : ℕ = slice_index old.marks.items a in
      let weight : ℕ = slice_index old.weights.items a in
      let bounded : mark ≤ group + 1 = load.bounded in
      let is = same a in
      record {
        is_weight = sym (weight_of_none (group + 1) mark weight (λ e. absurd (omega arith)));
        within = omega arith;
        bounded = omega arith;
        positive = λ e. absurd (omega arith);
        is_free = λ free k before. ⊎_elim
            (λ (none : mark ≡ 0). ⊎_elim
            (λ (less : k < group). load.is_free (inl none) k less)
            (λ (not_less : group ≤ k). let at : k ≡ group = omega arith in
            let zero_weight = weight_of_none group mark weight (λ e. absurd (omega arith)) in
            ap (λ g. earlier g a) at ∙ is ∙ load.is_weight ∙ zero_weight)
            (cases_lt k group))
            (λ (later : mark ≡ group + 1 + 1). absurd (omega arith))
            free;
        is_taken = λ some other. ⊎_elim
            (λ (present_mark : mark ≡ group + 1). let positive = load.positive present_mark in
            let full = weight_of_group group mark weight present_mark in
            let was = load.is_weight in (group, omega arith, omega (arith, positive, full, was, is)))
            (λ (before_it : mark ≡ group + 1 → ⊥). let found = load.is_taken some before_it in let less = found.1 in (found.0, omega (arith, less), found.2))
            (cases_eq mark (group + 1));
      }

-- the weights of the first of the agents are at most those of all
pub weight_within : (present weight a : ℕ) (agents : List ℕ) (i : ℕ) → i < length agents → get_or agents i 0 ≡ a →
    (present + weight * occurrences a (take i agents)) + weight ≤ present + weight * occurrences a agents
weight_within present weight a agents i within is =
    let more = occurrences_more present weight a agents i within in
    let itself : (get_or agents i 0 == a) ≡ true = eq-eqb (get_or agents i 0) a is in
    let one : weight * once (get_or agents i 0) a ≡ weight = rw itself (omega arith) in
    let less = sum_by-take-le (λ other. cond (other == a) 1 0) agents (i + 1) in
    let scaled = mul-le weight (occurrences a (take (i + 1) agents)) weight (occurrences a agents) (omega arith) less in
    omega (arith, more, one, scaled)
