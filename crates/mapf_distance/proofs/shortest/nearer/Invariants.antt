use Rattle.std.proofs.Common.{◌≡◌}
use Rattle.mapf_distance.specs.Marks.{entry_of}
use Rattle.mapf_distance.proofs.BesideLemmas.{IsNoneBefore}
use Rattle.mapf_distance.proofs.shortest.nearer.Given as goal

abbrev pub invariant-loop-beside : goal.invariant-loop-beside
invariant-loop-beside l = IsNoneBefore l.beside-items (λ next. entry_of l.search.table.items next ≡ l.distance) l.beside-index
