use Rattle.std.proofs.Common.{◌≡◌}
use Rattle.mapf_improvement.proofs.improver.Improver.improve.Given as goal

abbrev pub invariant-loop : goal.invariant-loop
invariant-loop l = l.self ≡ l.fn.self
