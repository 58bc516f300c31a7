use Rattle.std.proofs.Common.{ℕ, ◌+◌, ◌<◌, ◌≤◌, length}
use Rattle.mapf_joint_labels.specs.Runs.{IsRunFor}
use Rattle.mapf_joint_labels.proofs.never.place_in.Given as goal

abbrev pub invariant-loop-size : goal.invariant-loop-size
invariant-loop-size l = record {
  low : l.fn.run.begin ≤ l.place;
  high : l.place + l.size ≤ l.fn.run.end;
  within : l.fn.run.end ≤ length l.cells;
  positive : 1 ≤ l.size;
  around : (k first : ℕ) → IsRunFor l.cells l.fn.run k (record { first = first; second = l.second }) → (l.place ≤ k) × (k < l.place + l.size);
}

abbrev pub decreases-loop-size : goal.decreases-loop-size
decreases-loop-size l = l.size
