-- The paths of a valid plan, and what they pay together.
use Rattle.std.proofs.Common.{◌≡◌, ◌≢◌, ◌⊎◌, ℕ, suc, ◌+◌, ◌*◌, ◌<◌, ◌≤◌, Bool, true, false, List, [], ◌∷◌, Some, All, AllPairs, length, sum_by, slice_get, slice_index, slice_index_or, refl, sym, ◌∙◌, inl, inr, ⊎_elim, arith}
use Rattle.std.specs.Prelude.{◌&&◌, ◌||◌, ◌==◌, if◌then◌else◌}
use native.Mathlib.Nat.{mul-add}
use Rattle.std.proofs.lemmas.Bool.{eqb-true, and_parts, or_cases, cases_eq}
use Rattle.std.proofs.lemmas.List.Sums.{sum_by-cons}
use Rattle.std.proofs.lemmas.Option.{slice_get-get_or, slice_get_within}
use Rattle.mapf_lemmas.specs.declared.price.Price.{Price}
use Rattle.mapf_lemmas.specs.declared.price.Price.TheVariants.{Cell, Edge}
use Rattle.mapf_lemmas.specs.Lemmas.{AreDifferentAgents}
use Rattle.mapf_lemmas.specs.Prices.{PriceList, paid_of, paid, amount_of, total_price}
use Rattle.mapf_lemmas.specs.Statements.{IsCosted, priced_cost_of}
use Rattle.mapf_lemmas.proofs.PriceLemmas.{sum_by-plus}
use Rattle.mapf_model.specs.declared.problem.Agent.{Agent}
use Rattle.mapf_model.specs.Path.{at, IsLawful, IsCost}
use Rattle.mapf_model.specs.Plan.{Instance, ConflictAt}

-- sums whose terms are all 0, or all but one
module _ {X : Type 0} (f : X → ℕ) where
  pub sum_by-none : (xs : List X) → All (λ x. f x ≡ 0) xs → sum_by f xs ≡ 0
  sum_by-none [] none = omega arith
  sum_by-none (x ∷ xs) none = rw (sum_by-cons f x xs) (omega (arith, none 0 x (omega arith), sum_by-none xs (λ k d within. none (suc k) d (omega arith))))

  pub sum_by-one : (most : ℕ) (xs : List X) → ((x : X) → f x ≤ most) → AllPairs (λ x y. (f x ≡ 0) ⊎ (f y ≡ 0)) xs → sum_by f xs ≤ most
  sum_by-one most [] small apart = omega arith
  sum_by-one most (x ∷ xs) small apart = ⊎_elim
      (λ (zero : f x ≡ 0). rw (sum_by-cons f x xs) (omega (arith, zero, sum_by-one most xs small (λ i j d lt within. apart (suc i) (suc j) d (omega arith) (omega arith)))))
      (λ (some : f x ≡ 0 → ⊥). rw (sum_by-cons f x xs) (omega (arith, small x, sum_by-none xs (λ k d within. ⊎_elim (λ (is : f x ≡ 0). absurd (some is)) (λ (is : f (slice_index_or xs k d) ≡ 0). is) (apart 0 (suc k) d (omega arith) (omega arith))))))
      (cases_eq (f x) 0)

  pub sum_by-scale : (k : ℕ) (xs : List X) → sum_by (λ x. k * f x) xs ≡ k * sum_by f xs
  sum_by-scale k [] = omega arith
  sum_by-scale k (x ∷ xs) = rw (sum_by-cons (λ x. k * f x) x xs, sum_by-cons f x xs, sum_by-scale k xs) (sym (mul-add k (f x) (sum_by f xs)))

module _ (problem : Instance) (plan : List (List ℕ)) (costs : List ℕ) (costed : IsCosted problem plan costs) where
  abbrev pub path_of : ℕ → List ℕ
  path_of agent = slice_index_or plan agent []

  pub path_is : (agent : ℕ) → agent < length problem.agents → slice_get plan agent ≡ Some (path_of agent)
  path_is agent within = let count = costed.valid.count in slice_get-get_or plan agent [] (omega arith)

  pub cost_is : (agent : ℕ) → agent < length problem.agents → slice_get costs agent ≡ Some (slice_index costs agent)
  cost_is agent within = let count = costed.valid.count in let so_many = costed.are_costs.count in slice_get-get_or costs agent 0 (omega arith)

  pub lawful_of : (agent : ℕ) (a : Agent) → slice_get problem.agents agent ≡ Some a → IsLawful problem.grid a (path_of agent)
  lawful_of agent a is = costed.valid.lawful agent a (path_of agent) is (path_is agent (slice_get_within problem.agents agent a is))

  pub cost_of : (agent : ℕ) (a : Agent) → slice_get problem.agents agent ≡ Some a → IsCost a.goal (path_of agent) (slice_index costs agent)
  cost_of agent a is =
      let within = slice_get_within problem.agents agent a is in
      costed.are_costs.each agent a (path_of agent) (slice_index costs agent) is (path_is agent within) (cost_is agent within)

  pub apart_of : (i j : ℕ) → i ≢ j → i < length problem.agents → j < length problem.agents → (tick : ℕ) → ConflictAt (path_of i) (path_of j) tick → ⊥
  apart_of i j differ within_i within_j tick = costed.valid.apart i j tick (path_of i) (path_of j) differ (path_is i within_i) (path_is j within_j)

  both_pay : (price : Price) (p q : List ℕ) → ((tick : ℕ) → ConflictAt p q tick → ⊥) → (paid_of p price ≡ 0) ⊎ (paid_of q price ≡ 0)
  both_pay (Cell cell tick amount) p q apart = by (at p tick == cell) (at q tick == cell) refl refl
    where
      by : (a b : Bool) → (at p tick == cell) ≡ a → (at q tick == cell) ≡ b → ((if a then amount else 0) ≡ 0) ⊎ ((if b then amount else 0) ≡ 0)
      by true true here there = absurd (apart tick (inl (eqb-true (at p tick) cell here ∙ sym (eqb-true (at q tick) cell there))))
      by true false here there = inr refl
      by false b here there = inl refl
  both_pay (Edge from to tick amount) p q apart = by _ _ refl refl
    where
      same_way : (u v : ℕ) → ((at p tick == u) && (at p (tick + 1) == v)) ≡ true → ((at q tick == u) && (at q (tick + 1) == v)) ≡ true → ⊥
      same_way u v one other = apart tick (inl (eqb-true (at p tick) u (and_parts _ _ one).0 ∙ sym (eqb-true (at q tick) u (and_parts _ _ other).0)))

      other_way : (u v : ℕ) → ((at p tick == u) && (at p (tick + 1) == v)) ≡ true → ((at q tick == v) && (at q (tick + 1) == u)) ≡ true → ⊥
      other_way u v one other =
          let o = and_parts _ _ one in let t = and_parts _ _ other in
          apart tick (inr (eqb-true (at p tick) u o.0 ∙ sym (eqb-true (at q (tick + 1)) u t.1), eqb-true (at p (tick + 1)) v o.1 ∙ sym (eqb-true (at q tick) v t.0)))

      meet : (((at p tick == from) && (at p (tick + 1) == to)) || ((at p tick == to) && (at p (tick + 1) == from))) ≡ true →
          (((at q tick == from) && (at q (tick + 1) == to)) || ((at q tick == to) && (at q (tick + 1) == from))) ≡ true → ⊥
      meet one other = ⊎_elim
          (λ (there : ((at p tick == from) && (at p (tick + 1) == to)) ≡ true). ⊎_elim (λ (q_there : ((at q tick == from) && (at q (tick + 1) == to)) ≡ true). same_way from to there q_there) (λ (back : ((at q tick == to) && (at q (tick + 1) == from)) ≡ true). other_way from to there back) (or_cases _ _ other))
          (λ (back : ((at p tick == to) && (at p (tick + 1) == from)) ≡ true). ⊎_elim (λ (q_there : ((at q tick == from) && (at q (tick + 1) == to)) ≡ true). other_way to from back q_there) (λ (q_back : ((at q tick == to) && (at q (tick + 1) == from)) ≡ true). same_way to from back q_back) (or_cases _ _ other))
          (or_cases _ _ one)

      by : (a b : Bool) → (((at p tick == from) && (at p (tick + 1) == to)) || ((at p tick == to) && (at p (tick + 1) == from))) ≡ a →
          (((at q tick == from) && (at q (tick + 1) == to)) || ((at q tick == to) && (at q (tick + 1) == from))) ≡ b → ((if a then amount else 0) ≡ 0) ⊎ ((if b then amount else 0) ≡ 0)
      by true true here there = absurd (meet here there)
      by true false here there = inr refl
      by false b here there = inl refl

  pays_at_most : (price : Price) (p : List ℕ) → paid_of p price ≤ amount_of price
  pays_at_most (Cell cell tick amount) p = by (at p tick == cell)
    where
      by : (a : Bool) → (if a then amount else 0) ≤ amount
      by true = omega arith
      by false = omega arith
  pays_at_most (Edge from to tick amount) p = by _
    where
      by : (a : Bool) → (if a then amount else 0) ≤ amount
      by true = omega arith
      by false = omega arith

  module _ (agents : List ℕ) (are : AreDifferentAgents problem agents) where
    all_pay : (prices : List Price) → sum_by (λ agent. paid prices (path_of agent)) agents ≤ total_price prices
    all_pay [] = omega (arith, sum_by-none (λ agent. paid [] (path_of agent)) agents (λ k d within. refl))
    all_pay (price ∷ prices) =
        let all = sum_by-plus (λ agent. paid (price ∷ prices) (path_of agent)) (λ agent. paid_of (path_of agent) price) (λ agent. paid prices (path_of agent))
        (λ agent. sum_by-cons (paid_of (path_of agent)) price prices) agents in
        let one = sum_by-one (λ agent. paid_of (path_of agent) price) (amount_of price) agents (λ agent. pays_at_most price (path_of agent))
        (λ i j d lt within. both_pay price _ _ (apart_of (slice_index_or agents i d) (slice_index_or agents j d) (are.0 i j d lt within) (are.1 i d (omega arith)) (are.1 j d within))) in
        rw (sum_by-cons amount_of price prices) (omega (arith, all, one, all_pay prices))

    pub priced_bound : (list : PriceList) → sum_by (priced_cost_of list plan costs) agents ≤ list.unit * sum_by (slice_index costs) agents + total_price list.prices
    priced_bound list =
        let all = sum_by-plus (priced_cost_of list plan costs) (λ agent. list.unit * slice_index costs agent) (λ agent. paid list.prices (path_of agent)) (λ agent. refl) agents in
        let ticks = sum_by-scale (slice_index costs) list.unit agents in
        omega (arith, all, ticks, all_pay list.prices)
