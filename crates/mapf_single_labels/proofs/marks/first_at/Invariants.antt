use Rattle.std.proofs.Common.{◌≤◌, ◌-◌, length}
use Rattle.mapf_single_labels.specs.Marks.{AreEarlier}
use Rattle.mapf_single_labels.proofs.marks.first_at.Given as goal

abbrev pub invariant-loop-place : goal.invariant-loop-place
invariant-loop-place l = record {
  within : l.place ≤ length l.entries;
  earlier : AreEarlier l.entries l.place l.tick;
}

abbrev pub decreases-loop-place : goal.decreases-loop-place
decreases-loop-place l = length l.entries - l.place
