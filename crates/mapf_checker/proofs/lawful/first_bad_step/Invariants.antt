use Rattle.std.proofs.Common.{ℕ, ◌+◌, ◌<◌, slice_index}
use Rattle.mapf_model.specs.Grid.{Step}
use Rattle.mapf_checker.proofs.lawful.first_bad_step.Given as goal

abbrev pub invariant-loop-k : goal.invariant-loop-k
invariant-loop-k l = (j : ℕ) → j + 1 < l.k → Step l.grid (slice_index l.cells j) (slice_index l.cells (j + 1))
