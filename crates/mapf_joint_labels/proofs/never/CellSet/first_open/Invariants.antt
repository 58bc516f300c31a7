use Rattle.std.proofs.Common.{◌<◌, ℕ, slice_index_or}
use Rattle.mapf_lemmas.specs.declared.joint.JointCell.{JointCell}
use Rattle.mapf_joint_labels.specs.Never.{IsClosedIn}
use Rattle.mapf_joint_labels.proofs.never.CellSet.first_open.Given as goal

abbrev pub invariant-loop-k : goal.invariant-loop-k
invariant-loop-k l = (j : ℕ) (d : JointCell) → j < l.k → IsClosedIn l.self (slice_index_or l.self.cells.now j d)
