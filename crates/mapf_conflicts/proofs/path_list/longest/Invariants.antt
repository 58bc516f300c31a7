use Rattle.std.proofs.Common.{ℕ, List, ◌<◌, ◌≤◌, map, slice_index_or, length}
use Rattle.mapf_model.specs.Limits.{most_path_cells}
use Rattle.mapf_conflicts.proofs.path_list.longest.Given as goal

abbrev pub invariant-loop-path : goal.invariant-loop-path
invariant-loop-path g l = record {
  longest : (k : ℕ) (d : List ℕ) → k < l.path-index → length (slice_index_or (map g.P.AsPath.cells l.paths) k d) ≤ l.longest;
  positive : 1 ≤ l.longest;
  bounded : l.longest ≤ most_path_cells;
}
