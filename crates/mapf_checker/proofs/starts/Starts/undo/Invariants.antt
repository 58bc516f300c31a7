use Rattle.std.proofs.Common.{◌≡◌, ℕ, drop, length}
use Rattle.mapf_model.specs.Labels.{Entries}
use Rattle.mapf_checker.specs.Starts.{AreKept, KnowEntries, with_changes}
use Rattle.mapf_checker.proofs.ChangeLemmas.{AreBetween}
use Rattle.mapf_checker.proofs.starts.Starts.undo.Given as goal

abbrev pub invariant-loop-change : goal.invariant-loop-change
invariant-loop-change l = record {
  count : length l.self.entries.items ≡ length l.fn.self.entries.items;
  between : (entries : ℕ → Entries) → AreKept (with_changes l.changes entries) l.fn.self.entries.items → KnowEntries entries l.changes → AreBetween (drop l.change-index l.changes) entries l.self.entries.items;
}
