use Rattle.std.proofs.Common.{ℕ, ◌<◌, length}
use Rattle.mapf_conflicts.specs.Pairs.{ShareCell, ExchangeCells}
use Rattle.mapf_conflicts.proofs.pairs.may_conflict.Given as goal

abbrev pub invariant-loop-i : goal.invariant-loop-i
invariant-loop-i l = record {
  share : (a b : ℕ) → a < l.i → a < b → b < length l.here → ShareCell l.here a b → ⊥;
  exchange : (a b : ℕ) → a < l.i → a < b → b < length l.here → ExchangeCells l.here l.next a b → ⊥;
}
