-- Each valid plan has one sum.
use Rattle.std.proofs.Common.{◌≡◌, ℕ, zero, suc, ◌+◌, ◌*◌, ◌<◌, ◌≤◌, ◌⊎◌, List, [], ◌∷◌, ◌++◌, Some, length, length-append, sum, slice_get, refl, sym, ◌∙◌, ap, subst, inl, inr, ⊎_elim, arith}
use Rattle.std.proofs.lemmas.List.Sums.{sum_by-append, sum_by-cons}
use Rattle.std.proofs.lemmas.Bool.{cases_eq, cases_lt}
use Rattle.std.proofs.lemmas.Option.{slice_get_within, same_Some}
use Rattle.mapf_model.specs.declared.problem.Agent.{Agent}
use Rattle.mapf_model.specs.Path.{at, RestsFrom, IsCost}
use Rattle.mapf_model.specs.Plan.{Instance, IsValid, AreCosts, IsSumOfCosts}
use Rattle.mapf_model.proofs.LabelLemmas.{lawful_rests}
use Rattle.mapf_model.proofs.ClaimLemmas.{slice_get_inside}
use Rattle.mapf_model.proofs.DecidedLemmas.{cost_unique, same_list}

-- the least tick from which on a path rests, below one from which it does
cost_below : (goal : ℕ) (path : List ℕ) (n : ℕ) → RestsFrom goal path n → (cost : ℕ) × IsCost goal path cost
cost_below goal path zero rests = (0, record { rests = rests; least = λ from from_rests. omega arith })
cost_below goal path (suc n) rests = ⊎_elim
    (λ (here : at path n ≡ goal). cost_below goal path n (λ tick past. ⊎_elim
    (λ (now : tick ≡ n). rw now here)
    (λ (later : tick ≡ n → ⊥). rests tick (omega arith))
    (cases_eq tick n)))
    (λ (away : at path n ≡ goal → ⊥). (
      suc n,
      record {
        rests = rests;
        least = λ from from_rests. ⊎_elim
            (λ (early : from < suc n). absurd (away (from_rests n (omega arith))))
            (λ (late : suc n ≤ from). late)
            (cases_lt from (suc n));
      },
    ))
    (cases_eq (at path n) goal)

module _ (agent : Agent) (agents : List Agent) (path : List ℕ) (plan : List (List ℕ)) (cost : ℕ) (costs : List ℕ) (is : IsCost agent.goal path cost) (are : AreCosts agents plan costs) where
  each_cons : (i : ℕ) (a : Agent) (p : List ℕ) (k : ℕ) → slice_get (agent ∷ agents) i ≡ Some a → slice_get (path ∷ plan) i ≡ Some p → slice_get (cost ∷ costs) i ≡ Some k → IsCost a.goal p k
  each_cons zero a p k ea ep ek =
      subst (λ x. IsCost x.goal p k) (same_Some agent a ea) (subst (λ x. IsCost agent.goal x k) (same_Some path p ep) (subst (λ x. IsCost agent.goal path x) (same_Some cost k ek) is))
  each_cons (suc i) a p k ea ep ek = are.each i a p k ea ep ek

  AreCosts-cons : AreCosts (agent ∷ agents) (path ∷ plan) (cost ∷ costs)
  AreCosts-cons = record { one_each = ap suc are.one_each; count = ap suc are.count; each = each_cons }

-- a cost for each path, so a list of costs
costs_of : (agents : List Agent) (plan : List (List ℕ)) → length plan ≡ length agents →
    ((i : ℕ) (agent : Agent) (path : List ℕ) → slice_get agents i ≡ Some agent → slice_get plan i ≡ Some path → (cost : ℕ) × IsCost agent.goal path cost) →
    (costs : List ℕ) × AreCosts agents plan costs
costs_of agents [] same each = ([], record { one_each = same; count = refl; each = λ i agent path cost a p k. absurd cc })
costs_of [] (path ∷ plan) same each = absurd (omega arith)
costs_of (agent ∷ agents) (path ∷ plan) same each =
    let first = each 0 agent path refl refl in
    let rest = costs_of agents plan (omega arith) (λ i. each (suc i)) in
    (first.0 ∷ rest.0, AreCosts-cons agent agents path plan first.0 rest.0 first.1 rest.1)

pub some_sum : (problem : Instance) (plan : List (List ℕ)) → IsValid problem plan → (total : ℕ) × IsSumOfCosts problem.agents plan total
some_sum problem plan valid =
    let found = costs_of problem.agents plan valid.count (λ i agent path a p. cost_below agent.goal path (length path) (lawful_rests problem.grid agent path (valid.lawful i agent path a p))) in
    (sum found.0, (found.0, found.1, refl))

pub one_sum : (problem : Instance) (plan : List (List ℕ)) → IsValid problem plan → (a b : ℕ) → IsSumOfCosts problem.agents plan a → IsSumOfCosts problem.agents plan b → a ≡ b
one_sum problem plan valid a b (xs, are_xs, is_a) (ys, are_ys, is_b) =
    let one = are_xs.count in let two = are_ys.count in let three = valid.count in
    let same = same_list xs ys (omega arith) (λ i x y this other.
    let within : i < length xs = slice_get_within xs i x this in
    let agent : (agent : Agent) × (slice_get problem.agents i ≡ Some agent) = slice_get_inside problem.agents i (omega arith) in
    let path : (path : List ℕ) × (slice_get plan i ≡ Some path) = slice_get_inside plan i (omega arith) in
    cost_unique agent.0.goal path.0 x y (are_xs.each i agent.0 path.0 x agent.1 path.1 this) (are_ys.each i agent.0 path.0 y agent.1 path.1 other)) in
    is_a ∙ ap sum same ∙ sym is_b

pub snoc_get : {X : Type 0} (xs : List X) (x : X) (i : ℕ) (y : X) → slice_get (xs ++ x ∷ []) i ≡ Some y → (slice_get xs i ≡ Some y) ⊎ ((i ≡ length xs) × (x ≡ y))
snoc_get [] x zero y e = inr (refl, same_Some x y e)
snoc_get [] x (suc i) y e = absurd cc
snoc_get (z ∷ xs) x zero y e = inl e
snoc_get (z ∷ xs) x (suc i) y e = ⊎_elim (λ (before : slice_get xs i ≡ Some y). inl before) (λ (last : (i ≡ length xs) × (x ≡ y)). inr (ap suc last.0, last.1)) (snoc_get xs x i y e)

-- the costs of the first so many paths, and their sum
pub record AddsUpFirst (agents : List Agent) (plan : List (List ℕ)) (count total : ℕ) : Type 0 where
  pub costs : List ℕ
  pub so_many : length costs ≡ count
  pub is_sum : total ≡ sum costs
  pub small : total ≤ count * 4294967296
  pub each : (i : ℕ) (agent : Agent) (path : List ℕ) (cost : ℕ) → slice_get agents i ≡ Some agent → slice_get plan i ≡ Some path → slice_get costs i ≡ Some cost → IsCost agent.goal path cost

pub AddsUpFirst-more : (agents : List Agent) (plan : List (List ℕ)) (count total : ℕ) (agent : Agent) (path : List ℕ) (cost : ℕ) → AddsUpFirst agents plan count total →
    slice_get agents count ≡ Some agent → slice_get plan count ≡ Some path → IsCost agent.goal path cost → cost < 4294967296 → AddsUpFirst agents plan (count + 1) (total + cost)
AddsUpFirst-more agents plan count total agent path cost first this_agent this_path is small =
    let so_many = first.so_many in
    let is_sum = first.is_sum in
    let before = first.small in
    record {
      costs = first.costs ++ cost ∷ [];
      so_many = omega (arith, length-append first.costs (cost ∷ []));
      is_sum = rw (sum_by-append (λ n. n) first.costs (cost ∷ []), sum_by-cons) (omega arith);
      small = omega arith;
      each = λ i a p k ea ep ek. ⊎_elim
          (λ (old : slice_get first.costs i ≡ Some k). first.each i a p k ea ep old)
          (λ (new : (i ≡ length first.costs) × (cost ≡ k)).
          let here : i ≡ count = new.0 ∙ so_many in
          let same_agent = same_Some agent a (sym this_agent ∙ subst (λ j. slice_get agents j ≡ Some a) here ea) in
          let same_path = same_Some path p (sym this_path ∙ subst (λ j. slice_get plan j ≡ Some p) here ep) in
          subst (λ x. IsCost x.goal p k) same_agent (subst (λ x. IsCost agent.goal x k) same_path (subst (λ x. IsCost agent.goal path x) new.1 is)))
          (snoc_get first.costs cost i k ek);
    }
