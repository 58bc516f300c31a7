use Rattle.std.proofs.Common.{◌≡◌, ◌+◌, ◌*◌, ◌≤◌, ◌++◌, ℕ, List, codes, length}
use Rattle.mapf_player.specs.Cycles.{agent_fields}
use Rattle.mapf_player.proofs.CycleLemmas.{AreInCyclesBelow}
use Rattle.mapf_player.proofs.cycles.push_cycles.Given as goal

abbrev pub invariant-loop-agent : goal.invariant-loop-agent
invariant-loop-agent l = record {
  agents : List ℕ;
  are : AreInCyclesBelow l.dispatch l.agent agents;
  text : l.page ≡ l.fn.page ++ (codes "cycle" ++ agent_fields agents);
  short : length l.page ≤ length l.fn.page + (5 + 21 * l.agent);
}
