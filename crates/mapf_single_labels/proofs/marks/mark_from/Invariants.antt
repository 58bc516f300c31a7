use Rattle.std.proofs.Common.{◌≡◌, ℕ, ◌+◌, ◌-◌, ◌<◌, ◌≤◌, length, slice_index, slice_index_or}
use Rattle.mapf_model.specs.declared.label.Entry.{Entry}
use Rattle.mapf_single_labels.proofs.marks.mark_from.Given as goal

abbrev pub invariant-loop-cell : goal.invariant-loop-cell
invariant-loop-cell l = record {
  low : l.first ≤ l.place;
  high : l.place ≤ length l.entries;
  same : (k : ℕ) (d : Entry) → l.first ≤ k → k < l.place → (slice_index_or l.entries k d).tick ≡ l.tick;
  near : (d : Entry) → l.place < length l.entries → (slice_index_or l.entries l.place d).tick ≡ l.tick
      → l.place ≤ l.first + (slice_index_or l.entries l.place d).cell;
  marked : (k : ℕ) (d : Entry) → l.first ≤ k → k < l.place → k ≡ l.first + slice_index l.offsets (slice_index_or l.entries k d).cell;
}

abbrev pub decreases-loop-cell : goal.decreases-loop-cell
decreases-loop-cell l = length l.entries - l.place
