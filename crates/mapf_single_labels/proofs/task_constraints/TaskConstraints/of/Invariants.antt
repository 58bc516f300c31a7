use Rattle.std.proofs.Common.{◌≡◌, take}
use Rattle.mapf_single_labels.proofs.task_constraints.TaskConstraints.of.Given as goal

abbrev pub invariant-loop-constraint : goal.invariant-loop-constraint
invariant-loop-constraint l = l.own ≡ take l.constraint-index l.constraints
