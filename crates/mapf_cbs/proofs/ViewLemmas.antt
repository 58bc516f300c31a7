-- What follows of a node whose agents have cheapest paths.
use Rattle.std.proofs.Common.{◌≡◌, ℕ, ◌<◌, ◌≤◌, List, Some, length, sum, slice_get, refl, subst, arith}
use Rattle.std.proofs.lemmas.Option.{slice_get_within}
use Rattle.mapf_model.specs.declared.problem.Agent.{Agent}
use Rattle.mapf_model.specs.Plan.{Instance, IsSumOfCosts, AreCosts}
use Rattle.mapf_cbs.specs.Earned.{AreCheapest}
use Rattle.mapf_model.proofs.ClaimLemmas.{slice_get_inside}
use Rattle.mapf_spacetime.specs.Answer.{IsFirstOfCost}
use Rattle.mapf_spacetime.specs.Task.{task_of}
use Rattle.mapf_cbs.specs.FirstConflicts.{AreFirstPaths}
use Rattle.mapf_cbs.specs.Search.{View, AreCounted, IsLive, IsDead}
use Rattle.mapf_cbs.proofs.SumLemmas.{sum-le}

module _ (problem : Instance) (view : View) where
  -- the agent's path and cost
  pub agent_path_of : AreCounted problem view → (i : ℕ) (agent : Agent) → slice_get problem.agents i ≡ Some agent → (path : List ℕ) × (cost : ℕ) × (slice_get view.paths i ≡ Some path) × (slice_get view.costs i ≡ Some cost)
  agent_path_of counted i agent is =
      let within : i < length problem.agents = slice_get_within problem.agents i agent is in
      let one = counted.paths in let two = counted.costs in
      let path : (path : List ℕ) × (slice_get view.paths i ≡ Some path) = slice_get_inside view.paths i (omega arith) in
      let cost : (cost : ℕ) × (slice_get view.costs i ≡ Some cost) = slice_get_inside view.costs i (omega arith) in
      (path.0, cost.0, path.1, cost.1)

  cost_of_path : AreCounted problem view → (i : ℕ) (path : List ℕ) → slice_get view.paths i ≡ Some path → (cost : ℕ) × (slice_get view.costs i ≡ Some cost)
  cost_of_path counted i path is =
      let within : i < length view.paths = slice_get_within view.paths i path is in
      let one = counted.paths in let two = counted.costs in
      slice_get_inside view.costs i (omega arith)

  pub live_cheapest : IsLive problem view → AreCheapest problem view.context view.paths
  live_cheapest live = record {
    count = live.counted.paths;
    lawful = λ i agent path a p.
        let c = cost_of_path live.counted i path p in
        let agent_path = live.each i agent path c.0 a p c.1 in
        (agent_path.lawful, agent_path.satisfies);
    least = λ i agent path cost a p is other other_cost lawful satisfies other_is.
        let c = cost_of_path live.counted i path p in
        let agent_path = live.each i agent path c.0 a p c.1 in
        let low = is.least c.0 agent_path.is_cost.rests in
        let high = agent_path.least other other_cost lawful satisfies other_is in
        omega arith;
  }

  -- and these are the first of their cost
  pub live_first : IsLive problem view → AreFirstPaths problem view.context view.paths
  live_first live i agent path cost a p is =
      let c = cost_of_path live.counted i path p in
      let agent_path = live.each i agent path c.0 a p c.1 in
      let low = is.least c.0 agent_path.is_cost.rests in
      let high = agent_path.is_cost.least cost is.rests in
      let same : c.0 ≡ cost = omega arith in
      subst (λ n. IsFirstOfCost (task_of problem.grid agent (view.context.bars i)) n path) same agent_path.first

  pub live_costs : IsLive problem view → AreCosts problem.agents view.paths view.costs
  live_costs live = record {
    one_each = live.counted.paths;
    count = let one = live.counted.paths in let two = live.counted.costs in omega arith;
    each = λ i agent path cost a p c. (live.each i agent path cost a p c).is_cost;
  }

  pub live_sum : IsLive problem view → IsSumOfCosts problem.agents view.paths (sum view.costs)
  live_sum live = (view.costs, live_costs live, refl)

  -- cheapest paths have at least this sum of costs
  pub live_least : IsLive problem view → (others : List (List ℕ)) (total : ℕ) → AreCheapest problem view.context others → IsSumOfCosts problem.agents others total → sum view.costs ≤ total
  live_least live others total cheapest (costs, are, is) =
      let one = cheapest.count in let two = are.count in let three = live.counted.costs in
      rw is (sum-le view.costs costs (omega arith) (λ i x y cx cy.
      let within : i < length view.costs = slice_get_within view.costs i x cx in
      let agent : (agent : Agent) × (slice_get problem.agents i ≡ Some agent) = slice_get_inside problem.agents i (omega arith) in
      let other : (path : List ℕ) × (slice_get others i ≡ Some path) = slice_get_inside others i (omega arith) in
      let r = agent_path_of live.counted i agent.0 agent.1 in
      let agent_path = live.each i agent.0 r.0 x agent.1 r.2 cx in
      let obeying = cheapest.lawful i agent.0 other.0 agent.1 other.1 in
      agent_path.least other.0 y obeying.0 obeying.1 (are.each i agent.0 other.0 y agent.1 other.1 cy)))

  -- there are no cheapest paths
  pub dead_none : IsDead problem view → (others : List (List ℕ)) → AreCheapest problem view.context others → ⊥
  dead_none dead others cheapest =
      let one = cheapest.count in
      let within : dead.who < length problem.agents = slice_get_within problem.agents dead.who dead.agent dead.known in
      let other : (path : List ℕ) × (slice_get others dead.who ≡ Some path) = slice_get_inside others dead.who (omega arith) in
      let obeying = cheapest.lawful dead.who dead.agent other.0 dead.known other.1 in
      dead.blocked.none other.0 obeying.0 obeying.1
