use Rattle.std.proofs.Common.{◌-◌}
use Rattle.mapf_spacetime.specs.CellSets.{AreEmptyOutside, IsShort}
use Rattle.mapf_spacetime.proofs.number_set.NumberSet.least.Given as goal
use Rattle.std.proofs.Common.{◌≡◌}

abbrev pub invariant-loop-self : goal.invariant-loop-self
invariant-loop-self l = record {
  empty : AreEmptyOutside l.self-inside.words.items l.self-inside.first l.self-inside.end;
  short : IsShort l.self-inside.words.items;
  same : l.self-inside.words.items ≡ l.initial.self-inside.words.items;
}

abbrev pub decreases-loop-self : goal.decreases-loop-self
decreases-loop-self l = l.self-inside.end - l.self-inside.first
