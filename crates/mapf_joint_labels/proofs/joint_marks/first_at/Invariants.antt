use Rattle.std.proofs.Common.{ℕ, ◌-◌, ◌<◌, ◌≤◌, length, slice_index_or}
use Rattle.mapf_lemmas.specs.declared.joint.JointEntry.{JointEntry}
use Rattle.mapf_joint_labels.proofs.joint_marks.first_at.Given as goal

abbrev pub invariant-loop-from : goal.invariant-loop-from
invariant-loop-from l = record {
  order : l.from ≤ l.to;
  within : l.to ≤ length l.entries;
  before : (k : ℕ) (d : JointEntry) → k < l.from → (slice_index_or l.entries k d).tick < l.tick;
  others : (k : ℕ) (d : JointEntry) → l.to ≤ k → k < length l.entries → l.tick ≤ (slice_index_or l.entries k d).tick;
}

abbrev pub decreases-loop-from : goal.decreases-loop-from
decreases-loop-from l = l.to - l.from
