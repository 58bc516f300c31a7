use Rattle.std.proofs.Common.{◌≤◌, length, drop}
use Rattle.mapf_player.proofs.RowLemmas.{AreMarked}
use Rattle.mapf_player.proofs.row.mark_agents.Given as goal

abbrev pub invariant-loop-agent : goal.invariant-loop-agent
invariant-loop-agent l = record {
  within : l.agent ≤ length l.paths;
  marked : AreMarked l.grid.width l.y l.agent (drop l.agent l.paths) l.tick l.fn.row l.row;
}

abbrev pub decreases-loop-agent : goal.decreases-loop-agent
decreases-loop-agent l = l.agent
