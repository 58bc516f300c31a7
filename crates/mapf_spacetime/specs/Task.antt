-- One agent's task, and the states that it may go through.
use Rattle.std.specs.Prelude.{◌≡◌, ℕ, ◌+◌, ◌<◌, ◌≤◌, List, Contains}
use Rattle.mapf_model.specs.declared.bar.Bar.{Bar}
use Rattle.mapf_model.specs.declared.bar.Bar.TheVariants.{Cell, Move}
use Rattle.mapf_model.specs.declared.problem.Agent.{Agent}
use Rattle.mapf_model.specs.Distance.{IsDistance}
use Rattle.mapf_model.specs.Grid.{GridMap, free_cell_count}
use Rattle.mapf_model.specs.Labels.{MayGo}
use Rattle.mapf_model.specs.declared.state.State.{State}
use Rattle.mapf_model.specs.Limits.{most_cells, split_ticks}

-- a grid, an agent's start and goal on it, and its constraints
pub record Task : Type 0 where
  pub grid : GridMap
  pub start : ℕ
  pub goal : ℕ
  pub bars : List Bar

-- the task of an agent under these constraints
abbrev pub task_of : GridMap → Agent → List Bar → Task
task_of grid agent bars = record { grid = grid; start = agent.start; goal = agent.goal; bars = bars }

-- the agent of the task
abbrev pub agent_of : Task → Agent
agent_of task = record { start = task.start; goal = task.goal }

-- the cell at the tick
abbrev pub state_at : ℕ → ℕ → State
state_at cell tick = record { tick = tick; cell = cell }

-- the start at tick 0
abbrev pub start_of : Task → State
start_of task = state_at task.start 0

-- the agent may go from one state to the other
pub record Goes (task : Task) (from to : State) : Type 0 where
  pub may : MayGo task.grid task.bars from.cell to.cell from.tick
  pub tick : to.tick ≡ from.tick + 1

-- the f-value of a state: its tick plus the distance of its cell. No step lowers it
pub record IsValue (task : Task) (state : State) (value : ℕ) : Type 0 where
  pub distance : ℕ
  pub is : IsDistance task.grid task.goal state.cell distance
  pub sum : state.tick + distance ≡ value
  pub few : distance < free_cell_count task.grid
  pub small : distance < most_cells

-- greater than each cost that a search tries: after its last constraint an agent needs fewer ticks than a grid has
-- cells
abbrev pub cost_bound : ℕ
cost_bound = split_ticks + most_cells

-- the state has an f-value, and it is at most this
abbrev pub IsWithin : Task → ℕ → State → Type 0
IsWithin task cost state = (value : ℕ) × IsValue task state value × (value ≤ cost)

-- the state has an f-value, and it is less than this
abbrev pub IsBelow : Task → ℕ → State → Type 0
IsBelow task cost state = (value : ℕ) × IsValue task state value × (value < cost)

-- the state has an f-value, and it is more than this
abbrev pub IsPast : Task → ℕ → State → Type 0
IsPast task cost state = (value : ℕ) × IsValue task state value × (cost < value)

-- no constraint forbids the state
abbrev pub IsOpen : Task → State → Type 0
IsOpen task state = Contains task.bars (Cell state.cell state.tick) → ⊥

-- some constraint forbids the goal at this tick or later
abbrev pub IsBarredLater : Task → ℕ → Type 0
IsBarredLater task tick = (later : ℕ) × (tick ≤ later) × Contains task.bars (Cell task.goal later)

-- no constraint forbids the goal at this tick or later, nor waiting there
pub record MayRestFrom (task : Task) (tick : ℕ) : Type 0 where
  pub stay : (later : ℕ) → tick ≤ later → Contains task.bars (Cell task.goal later) → ⊥
  pub wait : (later : ℕ) → tick ≤ later → Contains task.bars (Move task.goal task.goal later) → ⊥
