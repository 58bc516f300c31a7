use Rattle.std.proofs.Common.{ℕ, ◌+◌, ◌<◌, ◌≤◌, length, slice_index_or}
use Rattle.mapf_lemmas.specs.declared.joint.JointEntry.{JointEntry}
use Rattle.mapf_joint_labels.specs.Pairs.{AreMarks, HaveRoom, IsSoundIn}
use Rattle.mapf_joint_labels.proofs.judge.judge_joint_entries.Given as goal

abbrev pub invariant-loop-k : goal.invariant-loop-k
invariant-loop-k l = record {
  marks : AreMarks l.pair l.marks l.marks.joint.tick;
  room : HaveRoom l.pair l.marks;
  later : (j : ℕ) (d : JointEntry) → l.k ≤ j → j < length l.pair.joint.now → l.marks.joint.tick ≤ (slice_index_or l.pair.joint.now j d).tick + 1;
  sound : (j : ℕ) (d : JointEntry) → j < l.k → IsSoundIn l.pair (slice_index_or l.pair.joint.now j d);
}
