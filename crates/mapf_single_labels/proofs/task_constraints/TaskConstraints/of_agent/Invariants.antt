use Rattle.std.proofs.Common.{◌≡◌, take}
use Rattle.mapf_lemmas.specs.Statements.{constraints_of}
use Rattle.mapf_single_labels.proofs.task_constraints.TaskConstraints.of_agent.Given as goal

abbrev pub invariant-loop-one : goal.invariant-loop-one
invariant-loop-one l = l.own ≡ constraints_of (take l.one-index l.constraints) l.agent
