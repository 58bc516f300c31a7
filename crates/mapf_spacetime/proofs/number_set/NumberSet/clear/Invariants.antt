use Rattle.std.proofs.Common.{◌≡◌, ℕ, ◌<◌, ◌≤◌, length, slice_index}
use Rattle.mapf_spacetime.specs.CellSets.{IsShort}
use Rattle.mapf_spacetime.proofs.number_set.NumberSet.clear.Given as goal

abbrev pub invariant-loop-place : goal.invariant-loop-place
invariant-loop-place l = record {
  zero : (k : ℕ) → (k < l.place-end → k < l.place) → slice_index l.self-inside.words.items k ≡ 0;
  end : l.self-inside.end ≡ l.place-end;
  within : l.place-end ≤ length l.self-inside.words.items;
  short : IsShort l.self-inside.words.items;
}
