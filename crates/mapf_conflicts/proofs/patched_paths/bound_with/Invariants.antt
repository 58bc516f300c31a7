use Rattle.std.proofs.Common.{All, ◌≤◌, length, take}
use Rattle.mapf_model.specs.Limits.{most_path_cells}
use Rattle.mapf_conflicts.specs.Replacements.{with_replacements}
use Rattle.mapf_conflicts.proofs.patched_paths.bound_with.Given as goal

abbrev pub invariant-loop-replacement : goal.invariant-loop-replacement
invariant-loop-replacement l = record {
  longest : All (λ path. length path ≤ l.longest) (with_replacements l.base (take l.replacement-index l.replacements));
  positive : 1 ≤ l.longest;
  bounded : l.longest ≤ most_path_cells;
}
