use Rattle.mapf_model.proofs.SumLemmas.{AddsUpFirst}
use Rattle.mapf_model.proofs.plan.Plan.sum.Given as goal

abbrev pub invariant-loop-i : goal.invariant-loop-i
invariant-loop-i l = AddsUpFirst l.problem.agents l.self l.i l.total
