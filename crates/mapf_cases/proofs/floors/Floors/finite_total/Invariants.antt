use Rattle.std.proofs.Common.{◌≡◌, take, sum_by}
use Rattle.mapf_lemmas.specs.Groups.{ticks_of}
use Rattle.mapf_cases.specs.Floors.{floor_at}
use Rattle.mapf_cases.proofs.floors.Floors.finite_total.Given as goal

abbrev pub invariant-loop-agent : goal.invariant-loop-agent
invariant-loop-agent l = l.sum ≡ sum_by (λ agent. ticks_of (floor_at l.self.amounts.items agent)) (take l.agent-index l.agents)
