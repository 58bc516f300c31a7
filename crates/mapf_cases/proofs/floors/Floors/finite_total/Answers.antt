use Rattle.std.proofs.Common.{◌≤◌, ◌<◌, length, get_or, arith}
use Rattle.mapf_cases.proofs.FloorLemmas.{floor_small, first_sum_small}
use Rattle.mapf_cases.proofs.floors.Floors.finite_total.Goals as goal

pub overflow_add-sum : goal.overflow_add-sum
overflow_add-sum c =
    let amounts = c.args.self.now.amounts.items in
    let agents = c.args.agents.now in
    let i = c.loop-agent.agent-index in
    let lt : i < length agents = c.loop-agent-test.true in
    let few : length agents ≤ 200 = c.requires.few in
    let sum = first_sum_small amounts agents i (omega arith) c.requires.cover c.requires.agents in
    let one = floor_small amounts (get_or agents i 0) c.index.result.now c.requires.cover (c.requires.agents i 0 lt) c.index.ensures in
    let is = c.loop-agent.invariant in
    let units = c.finite_units-sum.ensures in
    omega (arith, sum, one, is, units, few)
