use Rattle.std.proofs.Common.{◌≡◌, ℕ, ◌+◌, ◌<◌, ◌≤◌, length, slice_index_or}
use Rattle.mapf_model.specs.declared.label.Entry.{Entry}
use Rattle.mapf_single_labels.specs.Tasks.{IsSoundAmong}
use Rattle.mapf_single_labels.specs.Marks.{IsMarking}
use Rattle.mapf_single_labels.proofs.judge.judge_entries.Given as goal

abbrev pub invariant-loop-k : goal.invariant-loop-k
invariant-loop-k l = record {
  sound : (k : ℕ) (d : Entry) → k < l.k → IsSoundAmong l.task l.entries (slice_index_or l.entries k d);
  marking : IsMarking l.entries l.marks;
  later : (k : ℕ) (d : Entry) → l.k ≤ k → k < length l.entries → l.marks.tick ≤ (slice_index_or l.entries k d).tick + 1;
  size : length l.marks.offsets ≡ length l.fn.marks.offsets;
}
