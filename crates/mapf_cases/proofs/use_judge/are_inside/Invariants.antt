use Rattle.std.proofs.Common.{All, Contains, take}
use Rattle.mapf_cases.proofs.use_judge.are_inside.Given as goal

abbrev pub invariant-loop-agent : goal.invariant-loop-agent
invariant-loop-agent l = All (Contains l.agents) (take l.agent-index l.named)
