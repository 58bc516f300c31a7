use Rattle.std.proofs.Common.{◌≡◌, ℕ, ◌≤◌, drop, length}
use Rattle.mapf_model.specs.Labels.{Entries}
use Rattle.mapf_checker.specs.Starts.{AreKept, with_changes}
use Rattle.mapf_checker.proofs.starts.Starts.change.Given as goal

abbrev pub invariant-loop-k : goal.invariant-loop-k
invariant-loop-k l = record {
  within : l.k ≤ length l.changes;
  count : length l.self.entries.items ≡ length l.fn.self.entries.items;
  kept : (entries : ℕ → Entries) → AreKept entries l.fn.self.entries.items → AreKept (with_changes (drop l.k l.changes) entries) l.self.entries.items;
}

abbrev pub decreases-loop-k : goal.decreases-loop-k
decreases-loop-k l = l.k
