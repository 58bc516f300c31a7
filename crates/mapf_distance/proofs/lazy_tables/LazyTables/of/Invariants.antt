use Rattle.std.proofs.Common.{◌≡◌, None, replicate}
use Rattle.mapf_distance.proofs.lazy_tables.LazyTables.of.Given as goal

abbrev pub invariant-loop : goal.invariant-loop
invariant-loop l = l.tables.items ≡ replicate l.index None
