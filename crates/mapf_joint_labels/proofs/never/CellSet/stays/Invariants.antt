use Rattle.std.proofs.Common.{◌≡◌, ◌<◌, ℕ, Some, None, slice_index_or}
use Rattle.mapf_joint_labels.specs.Never.{KeepsIn}
use Rattle.mapf_joint_labels.proofs.never.CellSet.stays.Given as goal

abbrev pub invariant-loop-place : goal.invariant-loop-place
invariant-loop-place l = (k w : ℕ) → k < l.place-index → slice_index_or l.place-items k None ≡ Some w → KeepsIn l.self l.here w l.seconds
