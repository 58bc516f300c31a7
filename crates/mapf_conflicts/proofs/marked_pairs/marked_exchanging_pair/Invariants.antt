use Rattle.std.proofs.Common.{ℕ, ◌<◌, length}
use Rattle.mapf_conflicts.specs.Pairs.{ExchangeCells}
use Rattle.mapf_conflicts.proofs.marked_pairs.marked_exchanging_pair.Given as goal

abbrev pub invariant-loop-i : goal.invariant-loop-i
invariant-loop-i l = (a b : ℕ) → a < l.i → a < b → b < length l.here → ExchangeCells l.here l.next a b → ⊥
