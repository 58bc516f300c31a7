use Rattle.std.proofs.Common.{ℕ, ◌+◌, ◌<◌, ◌≤◌, length}
use Rattle.mapf_joint_labels.specs.JointOrder.{IsPlaceOf}
use Rattle.mapf_joint_labels.proofs.order.place_in.Given as goal

abbrev pub invariant-loop-size : goal.invariant-loop-size
invariant-loop-size l = record {
  high : l.place + l.size ≤ l.fn.run.end;
  within : l.fn.run.end ≤ length l.entries;
  positive : 1 ≤ l.size;
  around : (k : ℕ) → IsPlaceOf l.entries l.fn.run l.state l.tick k → (l.place ≤ k) × (k < l.place + l.size);
}

abbrev pub decreases-loop-size : goal.decreases-loop-size
decreases-loop-size l = l.size
