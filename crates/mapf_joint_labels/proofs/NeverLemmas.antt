-- A set of joint cells is closed exactly if each of them is as it should be.
use Rattle.std.proofs.Common.{ℕ, ◌<◌, List, Contains, length, slice_index_or, subst}
use Rattle.std.proofs.lemmas.List.{get_or_default}
use Rattle.mapf_lemmas.specs.declared.joint.JointCell.{JointCell}
use Rattle.mapf_lemmas.specs.JointCells.{IsClosed}
use Rattle.mapf_model.specs.declared.problem.Agent.{Agent}
use Rattle.mapf_model.specs.Grid.{GridMap}
use Rattle.mapf_joint_labels.specs.Never.{IsClosedAt, goals_of}

module _ (grid : GridMap) (first second : Agent) (cells : List JointCell) where
  pub closed_at : IsClosed grid first second cells → (here : JointCell) → Contains cells here → IsClosedAt grid (goals_of first second) cells here
  closed_at closed here held = record {
    free_first = (closed.free here held).0;
    free_second = (closed.free here held).1;
    different = closed.different here held;
    goal = λ same. closed.goal (subst (Contains cells) same held);
    onward = λ w x step_w step_x apart. closed.onward here.first here.second w x held step_w step_x apart;
  }

  -- a joint cell at an index is one of the list
  pub closed_in : IsClosed grid first second cells → (k : ℕ) (d : JointCell) → k < length cells → IsClosedAt grid (goals_of first second) cells (slice_index_or cells k d)
  closed_in closed k d within = closed_at closed (slice_index_or cells k d) (k, within, get_or_default cells k (slice_index_or cells k d) d within)
