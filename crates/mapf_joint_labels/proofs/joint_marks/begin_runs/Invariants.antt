use Rattle.std.proofs.Common.{◌≡◌, length}
use Rattle.mapf_joint_labels.specs.JointMarks.{AreBegun, AreEnded}
use Rattle.mapf_joint_labels.proofs.joint_marks.begin_runs.Given as goal

abbrev pub invariant-loop-k : goal.invariant-loop-k
invariant-loop-k l = record {
  ended : AreEnded l.entries l.runs l.from l.to;
  begun : AreBegun l.entries l.runs l.k l.to;
  size : length l.runs ≡ length l.initial.runs;
}
