use Rattle.std.proofs.Common.{ℕ, ◌<◌, length, get_or}
use Rattle.mapf_cases.specs.Floors.{CoverAgents}
use Rattle.mapf_cases.proofs.FloorLemmas.{IsDistanceFloor}
use Rattle.mapf_cases.proofs.floors.Floors.begin.Given as goal

abbrev pub invariant-loop-agent : goal.invariant-loop-agent
invariant-loop-agent l = record {
  cover : CoverAgents (length l.distances) l.self;
  floors : (k : ℕ) (d : ℕ) → k < l.agent-index → IsDistanceFloor l.distances l.unit l.self.amounts.items l.self.named.items (get_or l.agents k d);
}
