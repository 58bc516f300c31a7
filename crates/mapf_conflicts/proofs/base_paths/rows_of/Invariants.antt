use Rattle.std.proofs.Common.{◌≡◌, length}
use Rattle.mapf_conflicts.specs.Replacements.{AreRowsOf}
use Rattle.mapf_conflicts.proofs.base_paths.rows_of.Given as goal

abbrev pub invariant-loop-tick : goal.invariant-loop-tick
invariant-loop-tick l = record {
  count : length l.rows.items ≡ l.tick;
  rows : AreRowsOf l.rows.items l.paths;
}
