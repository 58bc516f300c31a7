use Rattle.std.proofs.Common.{◌≡◌, ◌≤◌, drop, length, map}
use Rattle.mapf_cases.specs.declared.addition.Addition.TheVariants.{One}
use Rattle.mapf_cases.proofs.case_path.all_standing.Given as goal

abbrev pub invariant-loop-left : goal.invariant-loop-left
invariant-loop-left l = record {
  within : l.left ≤ length l.constraints;
  standing : l.standing ≡ map One (drop l.left l.constraints);
}

abbrev pub decreases-loop-left : goal.decreases-loop-left
decreases-loop-left l = l.left
