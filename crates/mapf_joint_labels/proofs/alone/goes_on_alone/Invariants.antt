use Rattle.std.proofs.Common.{◌≡◌, ◌<◌, ℕ, Some, None, slice_index_or}
use Rattle.mapf_joint_labels.specs.Pairs.{HoldsAlone}
use Rattle.mapf_joint_labels.proofs.alone.goes_on_alone.Given as goal

abbrev pub invariant-loop-place : goal.invariant-loop-place
invariant-loop-place l = (k x : ℕ) → k < l.place-index → slice_index_or l.place-items k None ≡ Some x → HoldsAlone l.pair l.side l.entry x
