use Rattle.std.proofs.Common.{◌≡◌, ◌<◌, ℕ, Some, None, slice_index_or}
use Rattle.mapf_joint_labels.specs.Pairs.{HoldsFor}
use Rattle.mapf_joint_labels.proofs.together.keeps.Given as goal

abbrev pub invariant-loop-place : goal.invariant-loop-place
invariant-loop-place l = (k x : ℕ) → k < l.place-index → slice_index_or l.place-items k None ≡ Some x → HoldsFor l.pair l.entry l.first x
