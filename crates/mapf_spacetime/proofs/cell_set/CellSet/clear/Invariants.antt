use Rattle.std.proofs.Common.{ℕ, ◌*◌, ◌-◌, ◌≤◌, length}
use Rattle.mapf_spacetime.specs.CellSets.{AreFilled, HasNumber, IsShort}
use Rattle.mapf_spacetime.proofs.cell_set.CellSet.clear.Given as goal

abbrev pub invariant-loop-place : goal.invariant-loop-place
invariant-loop-place l = record {
  filled : AreFilled l.self-inside.words.items l.self-inside.filled;
  short : IsShort l.self-inside.words.items;
  later : (place : ℕ) → HasNumber l.self-inside.filled place → l.from ≤ place;
}

abbrev pub decreases-loop-place : goal.decreases-loop-place
decreases-loop-place l = 64 * length l.self-inside.filled - l.from
