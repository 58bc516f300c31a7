-- The makespan of the paths so far.
use Rattle.std.proofs.Common.{◌≡◌, ℕ, ◌+◌, ◌<◌, ◌≤◌, max, List, Option, Some, None, IsSome, IfNone, ◌≢◌, ◌-◌, slice_get, length, refl, sym, ◌∙◌, subst, ⊎_elim, arith}
use Rattle.std.proofs.lemmas.Bool.{cases_lt, cases_eq}
use Rattle.std.proofs.lemmas.Option.{same_Some, slice_get_within}
use Rattle.mapf_model.specs.declared.problem.Agent.{Agent}
use Rattle.mapf_model.specs.Path.{at, IsCost}
use Rattle.mapf_model.specs.Plan.{Instance, IsValid}
use Rattle.mapf_player.specs.Play.{IsMakespan}

-- some path costs this
abbrev pub SomeCosts : List Agent → List (List ℕ) → ℕ → Type 0
SomeCosts agents plan cost = (i : ℕ) × (agent : Agent) × (path : List ℕ) × (slice_get agents i ≡ Some agent) × (slice_get plan i ≡ Some path) × IsCost agent.goal path cost

-- of the first so many paths
pub record IsMakespanOf (agents : List Agent) (plan : List (List ℕ)) (count makespan : ℕ) : Type 0 where
  pub none : count ≡ 0 → makespan ≡ 0
  pub some : 0 < count → SomeCosts agents plan makespan
  pub most : (i : ℕ) (agent : Agent) (path : List ℕ) (cost : ℕ) → i < count → slice_get agents i ≡ Some agent → slice_get plan i ≡ Some path → IsCost agent.goal path cost → cost ≤ makespan

pub IsMakespanOf-none : (agents : List Agent) (plan : List (List ℕ)) → IsMakespanOf agents plan 0 0
IsMakespanOf-none agents plan = record { none = λ _. refl; some = λ h. absurd (omega arith); most = λ i agent path cost h a p c. absurd (omega arith) }

module _ (agents : List Agent) (plan : List (List ℕ)) (count makespan : ℕ) (agent : Agent) (path : List ℕ) (cost : ℕ) (far : IsMakespanOf agents plan count makespan) (this_agent : slice_get agents count ≡ Some agent) (this_path : slice_get plan count ≡ Some path) (is : IsCost agent.goal path cost) where
  this : SomeCosts agents plan cost
  this = (count, agent, path, this_agent, this_path, is)

  some_more : SomeCosts agents plan (max makespan cost)
  some_more = ⊎_elim
      (λ (above : makespan < cost). let same : cost ≡ max makespan cost = omega arith in subst (SomeCosts agents plan) same this)
      (λ (below : cost ≤ makespan). ⊎_elim
      (λ (first : count < 1).
      let zero_so_far : makespan ≡ 0 = far.none (omega arith) in
      let same : cost ≡ max makespan cost = omega arith in subst (SomeCosts agents plan) same this)
      (λ (later : 1 ≤ count). let same : makespan ≡ max makespan cost = omega arith in subst (SomeCosts agents plan) same (far.some later))
      (cases_lt count 1))
      (cases_lt makespan cost)

  most_more : (i : ℕ) (a : Agent) (p : List ℕ) (k : ℕ) → i < count + 1 → slice_get agents i ≡ Some a → slice_get plan i ≡ Some p → IsCost a.goal p k → k ≤ max makespan cost
  most_more i a p k within ea ep ek = ⊎_elim
      (λ (here : i ≡ count).
      let same_agent : agent ≡ a = same_Some agent a (sym this_agent ∙ subst (λ j. slice_get agents j ≡ Some a) here ea) in
      let same_path : path ≡ p = same_Some path p (sym this_path ∙ subst (λ j. slice_get plan j ≡ Some p) here ep) in
      let is_here : IsCost a.goal p cost = subst (λ x. IsCost x.goal p cost) same_agent (subst (λ x. IsCost agent.goal x cost) same_path is) in
      let at_most : k ≤ cost = ek.least cost is_here.rests in
      omega arith)
      (λ (before : i ≡ count → ⊥). let at_most : k ≤ makespan = far.most i a p k (omega arith) ea ep ek in omega arith)
      (cases_eq i count)

  pub IsMakespanOf-more : IsMakespanOf agents plan (count + 1) (max makespan cost)
  IsMakespanOf-more = record { none = λ h. absurd (omega arith); some = λ _. some_more; most = most_more }

pub IsMakespanOf-all : (agents : List Agent) (plan : List (List ℕ)) (count makespan : ℕ) → length plan ≡ count → 0 < count → IsMakespanOf agents plan count makespan → IsMakespan agents plan makespan
IsMakespanOf-all agents plan count makespan all nonempty far = record {
  some = far.some nonempty;
  most = λ i agent path cost a p k. far.most i agent path cost (let within = slice_get_within plan i path p in omega arith) a p k;
}

-- a path that ends at its goal has a cost
pub lawful_costs : (problem : Instance) (plan : List (List ℕ)) (i : ℕ) (agent : Agent) (path : List ℕ) (cost : Option ℕ) → IsValid problem plan → slice_get problem.agents i ≡ Some agent → slice_get plan i ≡ Some path →
    IfNone cost (at path (length path - 1) ≢ agent.goal) → IsSome cost
lawful_costs problem plan i agent path None valid a p none = absurd (none (valid.lawful i agent path a p).goal)
lawful_costs problem plan i agent path (Some cost) valid a p none = refl
