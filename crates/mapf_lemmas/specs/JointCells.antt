-- Sets of joint cells that two agents never leave without a conflict. (Own)
use Rattle.std.specs.Prelude.{◌≢◌, ℕ, List, Contains}
use Rattle.mapf_lemmas.specs.declared.joint.JointCell.{JointCell}
use Rattle.mapf_lemmas.specs.JointLabels.{AreApart}
use Rattle.mapf_model.specs.declared.problem.Agent.{Agent}
use Rattle.mapf_model.specs.Grid.{GridMap, IsFree, Step}

-- the set contains both starts and not both goals, and with each joint cell all to which two moves without a conflict
-- lead; the two cells are free and different
pub record IsClosed (grid : GridMap) (first second : Agent) (cells : List JointCell) : Type 0 where
  pub free : (cell : JointCell) → Contains cells cell → IsFree grid cell.first × IsFree grid cell.second
  pub different : (cell : JointCell) → Contains cells cell → cell.first ≢ cell.second
  pub start : Contains cells (record { first = first.start; second = second.start })
  pub goal : Contains cells (record { first = first.goal; second = second.goal }) → ⊥
  pub onward : (u v w x : ℕ) → Contains cells (record { first = u; second = v }) → Step grid u w → Step grid v x →
      AreApart u v w x → Contains cells (record { first = w; second = x })
