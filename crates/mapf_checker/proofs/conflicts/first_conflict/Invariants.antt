use Rattle.mapf_model.specs.Conflicts.{AreConflictFreeBefore}
use Rattle.mapf_checker.proofs.conflicts.first_conflict.Given as goal

abbrev pub invariant-loop-tick : goal.invariant-loop-tick
invariant-loop-tick l = AreConflictFreeBefore l.paths l.tick
