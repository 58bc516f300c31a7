use Rattle.std.proofs.Common.{◌≤◌, ◌<◌, length, get_or, ap, arith}
use Rattle.mapf_lemmas.specs.Groups.{ticks_of}
use Rattle.mapf_cases.proofs.FloorLemmas.{floor_small, first_total_small}
use Rattle.mapf_cases.proofs.TotalLemmas.{sum_fits}
use Rattle.mapf_cases.proofs.floors.Floors.total.Goals as goal

pub plus-sum-requires : goal.plus-sum-requires
plus-sum-requires c =
    let amounts = c.args.self.now.amounts.items in
    let agents = c.args.agents.now in
    let i = c.loop-agent.agent-index in
    let lt : i < length agents = c.loop-agent-test.true in
    let few : length agents ≤ 200 = c.requires.few in
    let sum = first_total_small amounts agents i (omega arith) c.requires.cover c.requires.agents in
    let one = floor_small amounts (get_or agents i 0) c.index.result.now c.requires.cover (c.requires.agents i 0 lt) c.index.ensures in
    let is = ap ticks_of c.loop-agent.invariant in
    sum_fits c.loop-agent.sum c.index.result.now (omega (arith, sum, one, is, few))

pub returns-clause-small : goal.returns-clause-small
returns-clause-small c =
    let amounts = c.args.self.now.amounts.items in
    let agents = c.args.agents.now in
    let i = c.loop-agent.agent-index in
    let sum = first_total_small amounts agents i c.loop-agent.auto.agent-index-end c.requires.cover c.requires.agents in
    let is = ap ticks_of c.loop-agent.invariant in
    let within = c.loop-agent.auto.agent-index-end in
    omega (arith, sum, is, within)
