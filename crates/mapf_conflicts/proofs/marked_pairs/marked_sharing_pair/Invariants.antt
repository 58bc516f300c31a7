use Rattle.std.proofs.Common.{◌≡◌, ◌≤◌, ℕ, ◌<◌, length, slice_index, IfNone, IfSome}
use Rattle.mapf_conflicts.specs.Pairs.{ShareCell}
use Rattle.mapf_conflicts.proofs.marked_pairs.marked_sharing_pair.Given as goal

abbrev pub invariant-loop-i : goal.invariant-loop-i
invariant-loop-i l = record {
  inside : l.i ≤ length l.here;
  from : (k : ℕ) → l.i ≤ k → k < length l.here → l.i ≤ slice_index l.marks (slice_index l.here k);
  to : (k : ℕ) → l.i ≤ k → k < length l.here → slice_index l.marks (slice_index l.here k) ≤ k;
  there : (k : ℕ) → l.i ≤ k → k < length l.here
      → slice_index l.here (slice_index l.marks (slice_index l.here k)) ≡ slice_index l.here k;
  some : IfSome l.first (λ pair. (l.i ≤ pair.0) × (pair.0 < pair.1) × (pair.1 < length l.here)
      × ShareCell l.here pair.0 pair.1
      × ((a b : ℕ) → l.i ≤ a → a < pair.0 → a < b → b < length l.here → ShareCell l.here a b → ⊥)
      × ((b : ℕ) → pair.0 < b → b < pair.1 → ShareCell l.here pair.0 b → ⊥));
  none : IfNone l.first ((a b : ℕ) → l.i ≤ a → a < b → b < length l.here → ShareCell l.here a b → ⊥);
}

abbrev pub decreases-loop-i : goal.decreases-loop-i
decreases-loop-i l = l.i
