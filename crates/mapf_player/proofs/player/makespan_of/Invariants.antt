use Rattle.mapf_player.proofs.CostLemmas.{IsMakespanOf}
use Rattle.mapf_player.proofs.player.makespan_of.Given as goal

abbrev pub invariant-loop-i : goal.invariant-loop-i
invariant-loop-i l = IsMakespanOf l.problem.agents l.plan l.i l.makespan
