use Rattle.std.proofs.Common.{◌≡◌, length}
use Rattle.mapf_first_plan.proofs.trace.plan_to.Given as goal

abbrev pub invariant-loop-agent : goal.invariant-loop-agent
invariant-loop-agent l = length l.paths.items ≡ l.agent
