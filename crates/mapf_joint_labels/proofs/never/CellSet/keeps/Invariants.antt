use Rattle.std.proofs.Common.{◌≡◌, ◌<◌, ℕ, Some, None, slice_index_or}
use Rattle.mapf_joint_labels.specs.Never.{HasNext}
use Rattle.mapf_joint_labels.proofs.never.CellSet.keeps.Given as goal

abbrev pub invariant-loop-place : goal.invariant-loop-place
invariant-loop-place l = (k x : ℕ) → k < l.place-index → slice_index_or l.seconds k None ≡ Some x → HasNext l.self l.here l.first x
