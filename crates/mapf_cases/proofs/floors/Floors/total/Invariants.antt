use Rattle.std.proofs.Common.{◌≡◌, take}
use Rattle.mapf_cases.specs.Floors.{floor_at}
use Rattle.mapf_cases.specs.Totals.{label_total}
use Rattle.mapf_cases.proofs.floors.Floors.total.Given as goal

abbrev pub invariant-loop-agent : goal.invariant-loop-agent
invariant-loop-agent l = l.sum ≡ label_total (floor_at l.self.amounts.items) (take l.agent-index l.agents)
