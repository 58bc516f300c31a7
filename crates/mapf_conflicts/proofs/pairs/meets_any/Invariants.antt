use Rattle.std.proofs.Common.{◌≡◌, false, true, ℕ, ◌<◌, ◌≤◌}
use Rattle.mapf_conflicts.specs.Pairs.{ShareCell, ExchangeCells, ShareOrExchangeCells}
use Rattle.mapf_conflicts.proofs.pairs.meets_any.Given as goal

abbrev pub invariant-loop-j : goal.invariant-loop-j
invariant-loop-j l = record {
  share : l.found ≡ false → (k : ℕ) → l.first ≤ k → k < l.j → ShareCell l.here l.agent k → ⊥;
  some : l.found ≡ true → (k : ℕ) × (l.first ≤ k) × (k < l.j) × ShareOrExchangeCells l.here l.next l.agent k;
  exchange : l.found ≡ false → (k : ℕ) → l.first ≤ k → k < l.j → ExchangeCells l.here l.next l.agent k → ⊥;
}
