-- What can be reached from states, and a bound on the costs of a search.
use Rattle.std.specs.Prelude.{Bool, ◌==◌, ◌&&◌, ℕ, ◌+◌, ◌<◌, List, Contains}
use Rattle.mapf_model.specs.Grid.{free_cell_count}
use Rattle.mapf_constraints.specs.BarSets.{AreBefore}
use Rattle.mapf_model.specs.declared.state.State.{State}
use Rattle.mapf_spacetime.specs.Task.{Task, Goes}

-- the agent can go to the state from a reached one
abbrev pub IsEntered : Task → List State → State → Type 0
IsEntered task reached state = (from : State) × Contains reached from × Goes task from state

-- less than the number of free cells plus any tick from which on there are no constraints
abbrev pub IsBelowLimit : Task → ℕ → Type 0
IsBelowLimit task cost = (bound : ℕ) → AreBefore bound task.bars → cost < bound + free_cell_count task.grid

-- the two states are equal
abbrev pub same_state : State → State → Bool
same_state a b = (a.tick == b.tick) && (a.cell == b.cell)
