use Rattle.mapf_checker.specs.Defects.{AreLawful}
use Rattle.mapf_checker.proofs.validity.check_paths.Given as goal

abbrev pub invariant-loop-i : goal.invariant-loop-i
invariant-loop-i l = AreLawful l.problem l.paths l.i
