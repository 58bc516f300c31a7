use Rattle.std.proofs.Common.{◌≡◌, length}
use Rattle.mapf_improvement.proofs.improver.Improver.plan.Given as goal

abbrev pub invariant-loop-agent : goal.invariant-loop-agent
invariant-loop-agent l = length l.paths.items ≡ l.agent
