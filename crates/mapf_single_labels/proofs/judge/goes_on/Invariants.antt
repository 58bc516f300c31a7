use Rattle.std.proofs.Common.{◌≡◌, ◌<◌, ℕ, Some, None, slice_index_or}
use Rattle.mapf_single_labels.specs.Tasks.{IsConsistentStep}
use Rattle.mapf_single_labels.proofs.judge.goes_on.Given as goal

abbrev pub invariant-loop-k : goal.invariant-loop-k
invariant-loop-k l = (place next : ℕ) → place < l.k → slice_index_or l.places place None ≡ Some next → IsConsistentStep l.task l.entries l.entry next
