use Rattle.std.proofs.Common.{◌≡◌, take}
use Rattle.mapf_conflicts.specs.Pairs.{cells_at}
use Rattle.mapf_conflicts.specs.Replacements.{with_replacements}
use Rattle.mapf_conflicts.proofs.patched_paths.write_cells.Given as goal

abbrev pub invariant-loop-replacement : goal.invariant-loop-replacement
invariant-loop-replacement l = l.cells ≡ cells_at (with_replacements l.base (take l.replacement-index l.replacements)) l.tick
