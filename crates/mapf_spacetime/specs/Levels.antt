-- An arrival at the cost of a frontier.
use Rattle.std.specs.Prelude.{ℕ, List}
use Rattle.mapf_spacetime.specs.Frontiers.{States, IsAtGoal}
use Rattle.mapf_spacetime.specs.PathSearch.{IsWholeWalk}
use Rattle.mapf_spacetime.specs.Sweeps.{HasArrived}
use Rattle.mapf_spacetime.specs.Task.{Task}

-- the agent arrives at the cost and not earlier, and the cells are the least walk of the cost
pub record IsWalkTo (task : Task) (states : States) (cells : List ℕ) : Type 0 where
  pub at_goal : IsAtGoal task states
  pub walk : IsWholeWalk task states.cost cells

-- the same, and the states are those below the cost
pub record IsArrivalAt (task : Task) (states : States) (cells : List ℕ) : Type 0 where
  pub arrived : HasArrived task states.cost states.reached
  pub walk : IsWholeWalk task states.cost cells
