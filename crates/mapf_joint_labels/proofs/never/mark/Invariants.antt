use Rattle.std.proofs.Common.{◌≡◌, length}
use Rattle.mapf_joint_labels.proofs.RunLemmas.{AreRunsTo}
use Rattle.mapf_joint_labels.proofs.never.mark.Given as goal

abbrev pub invariant-loop-k : goal.invariant-loop-k
invariant-loop-k l = record {
  so_far : AreRunsTo l.cells l.runs l.begin l.k;
  size : length l.runs ≡ length l.initial.runs;
}
