-- What a sweep over the ticks reaches.
use Rattle.std.specs.Prelude.{Bool, true, ◌≡◌, ◌⊎◌, ℕ, ◌+◌, ◌*◌, ◌<◌, ◌≤◌, List, length, slice_index_or, Contains}
use Rattle.std.specs.Prelude.{AllPairs}
use Rattle.mapf_model.specs.Distance.{IsUnreachable}
use Rattle.mapf_model.specs.Labels.{MayGo}
use Rattle.mapf_model.specs.States.{IsEarlier}
use Rattle.mapf_spacetime.specs.CellSets.{HasNumber, HasNone}
use Rattle.mapf_spacetime.specs.PathSearch.{CanArrive}
use Rattle.mapf_spacetime.specs.States.{IsEntered}
use Rattle.mapf_spacetime.specs.Task.{Task, IsValue, IsWithin, IsBelow, IsPast, IsBarredLater, MayRestFrom, state_at}
use Rattle.mapf_spacetime.specs.Task.{start_of}
use Rattle.mapf_model.specs.declared.state.State.{State}

-- the states that were reached, those of them that are below a cost, the cells that can be reached at the next tick,
-- the greatest f-value, whether a state of a greater one was left out, the index of the first state whose steps weren't
-- followed yet, and the tick of those states
pub record Sweeping : Type 0 where
  pub states : List State
  pub low : List State
  pub next_cells : List ℕ
  pub bound : ℕ
  pub is_cut : Bool
  pub first : ℕ
  pub tick : ℕ

-- the state has an f-value, and it is at least this
abbrev pub IsFrom : Task → ℕ → State → Type 0
IsFrom task cost state = (value : ℕ) × IsValue task state value × (cost ≤ value)

-- the state is the start, or the agent can go to it from one of these
abbrev pub IsStartOrEntered : Task → List State → State → Type 0
IsStartOrEntered task states state = (state ≡ start_of task) ⊎ IsEntered task states state

-- a state whose f-value is above the bound, in a sweep that left out some state
abbrev pub IsLeftOut : Task → ℕ → Bool → State → Type 0
IsLeftOut task bound is_cut state = (is_cut ≡ true) × IsPast task bound state

-- some state that can be reached from these has an f-value above the bound
abbrev pub SomeIsPast : Task → ℕ → List State → Type 0
SomeIsPast task bound states = (state : State) × IsEntered task states state × IsPast task bound state

-- states that the agent can reach with an f-value of at most the bound, the start among them
pub record AreReached (task : Task) (bound : ℕ) (states : List State) : Type 0 where
  pub start : Contains states (start_of task)
  pub within : (s : State) → Contains states s → IsWithin task bound s
  pub entered : (s : State) → Contains states s → IsStartOrEntered task states s
  pub rising : AllPairs IsEarlier states

-- the agent arrives at none of these states before this tick
abbrev pub AreQuietBefore : Task → ℕ → List State → Type 0
AreQuietBefore task cost states =
    (tick : ℕ) → tick < cost → Contains states (state_at task.goal tick) → IsBarredLater task tick

-- the agent arrives at none of these states
abbrev pub AreQuiet : Task → List State → Type 0
AreQuiet task states = (tick : ℕ) → Contains states (state_at task.goal tick) → IsBarredLater task tick

-- if the agent may go from the state to the cell, it was reached there or left out, or the goal can't be reached from
-- it
abbrev pub IsFollowed : Task → Sweeping → State → ℕ → Type 0
IsFollowed task sweep from to = MayGo task.grid task.bars from.cell to from.tick →
    Contains sweep.states (state_at to (from.tick + 1))
    ⊎ (IsLeftOut task sweep.bound sweep.is_cut (state_at to (from.tick + 1)) ⊎ IsUnreachable task.grid task.goal to)

-- a sweep that has reached the states up to this tick: those from this index on are at the tick, and each step from
-- those before was followed
pub record IsSweep (task : Task) (tick first : ℕ) (sweep : Sweeping) : Type 0 where
  pub reached : AreReached task sweep.bound sweep.states
  pub before : (k : ℕ) → k < first → (slice_index_or sweep.states k (start_of task)).tick < tick
  pub here : (k : ℕ) → first ≤ k → k < length sweep.states → (slice_index_or sweep.states k (start_of task)).tick ≡ tick
  pub split : first ≤ length sweep.states
  pub quiet : AreQuiet task sweep.states
  pub followed : (s : State) → Contains sweep.states s → s.tick < tick → (to : ℕ) → IsFollowed task sweep s to
  pub cut : sweep.is_cut ≡ true → SomeIsPast task sweep.bound sweep.states

-- a sweep that has reached the states up to its tick, with room for the cells of the next
pub record IsUnderWay (task : Task) (sweep : Sweeping) : Type 0 where
  pub reached : IsSweep task sweep.tick sweep.first sweep
  pub none : HasNone sweep.next_cells
  pub room : task.grid.width * task.grid.height ≤ 64 * length sweep.next_cells

-- the next cells can be reached from states at this tick
pub record AreNext (task : Task) (tick : ℕ) (sweep : Sweeping) : Type 0 where
  pub entered : (cell : ℕ) → HasNumber sweep.next_cells cell → IsEntered task sweep.states (state_at cell (tick + 1))
  pub within : (cell : ℕ) → HasNumber sweep.next_cells cell → IsWithin task sweep.bound (state_at cell (tick + 1))
  pub cut : sweep.is_cut ≡ true → SomeIsPast task sweep.bound sweep.states

-- if the agent may go from the state to the cell, it is one of the next cells, or its state was left out, or the goal
-- can't be reached from it
abbrev pub IsNoted : Task → Sweeping → State → ℕ → Type 0
IsNoted task sweep from to = MayGo task.grid task.bars from.cell to from.tick →
    HasNumber sweep.next_cells to ⊎ (IsLeftOut task sweep.bound sweep.is_cut (state_at to (from.tick + 1))
    ⊎ IsUnreachable task.grid task.goal to)

-- nothing changed but that more cells may be reached next, and more states may be left out
pub record IsExtended (old new : Sweeping) : Type 0 where
  pub states : new.states ≡ old.states
  pub bound : new.bound ≡ old.bound
  pub next_cells : (cell : ℕ) → HasNumber old.next_cells cell → HasNumber new.next_cells cell
  pub cut : old.is_cut ≡ true → new.is_cut ≡ true
  pub room : length new.next_cells ≡ length old.next_cells
  pub first : new.first ≡ old.first
  pub tick : new.tick ≡ old.tick

-- these are the states at the tick of these cells, in rising order
pub record AreStatesAt (tick : ℕ) (cells : List ℕ) (states : List State) : Type 0 where
  pub each : (s : State) → Contains states s → (s.tick ≡ tick) × HasNumber cells s.cell
  pub all : (cell : ℕ) → HasNumber cells cell → Contains states (state_at cell tick)
  pub rising : AllPairs IsEarlier states

-- a sweep that has followed each step of each state
pub record IsWhole (task : Task) (sweep : Sweeping) : Type 0 where
  pub reached : AreReached task sweep.bound sweep.states
  pub quiet : AreQuiet task sweep.states
  pub followed : (s : State) → Contains sweep.states s → (to : ℕ) → IsFollowed task sweep s to
  pub cut : sweep.is_cut ≡ true → SomeIsPast task sweep.bound sweep.states

-- the agent arrives at this tick, from one of the states of a sweep, and not earlier. Each step from a state of a
-- lesser f-value leads to one of the states, or to a state of an f-value of at least this tick, or to a cell from which
-- the goal can't be reached
pub record MeetsGoal (task : Task) (cost : ℕ) (sweep : Sweeping) : Type 0 where
  pub reached : AreReached task sweep.bound sweep.states
  pub quiet : AreQuietBefore task cost sweep.states
  pub followed : (s : State) → Contains sweep.states s → IsBelow task cost s → (to : ℕ) →
      MayGo task.grid task.bars s.cell to s.tick →
      Contains sweep.states (state_at to (s.tick + 1))
      ⊎ (IsFrom task cost (state_at to (s.tick + 1)) ⊎ IsUnreachable task.grid task.goal to)
  pub arrival : IsStartOrEntered task sweep.states (state_at task.goal cost)
  pub is_value : IsValue task (state_at task.goal cost) cost
  pub rest : MayRestFrom task cost
  pub within : cost ≤ sweep.bound

-- the states that the agent can reach with an f-value below the cost, and at none of which it arrives
pub record AreSwept (task : Task) (cost : ℕ) (states : List State) : Type 0 where
  pub start : Contains states (start_of task) ⊎ IsFrom task cost (start_of task)
  pub below : (s : State) → Contains states s → IsBelow task cost s
  pub entered : (s : State) → Contains states s → IsStartOrEntered task states s
  pub followed : (s : State) → Contains states s → (to : ℕ) → MayGo task.grid task.bars s.cell to s.tick →
      Contains states (state_at to (s.tick + 1))
      ⊎ (IsFrom task cost (state_at to (s.tick + 1)) ⊎ IsUnreachable task.grid task.goal to)
  pub quiet : AreQuiet task states
  pub rising : AllPairs IsEarlier states

-- the agent arrives at the cost and not earlier, and these are the states below the cost
pub record HasArrived (task : Task) (cost : ℕ) (states : List State) : Type 0 where
  pub swept : AreSwept task cost states
  pub leads : CanArrive task cost (start_of task)
  pub within : IsWithin task cost (start_of task)
  pub rest : MayRestFrom task cost

-- all states that can be reached were, and none is an arrival
pub record AreAll (task : Task) (bound : ℕ) (states : List State) : Type 0 where
  pub reached : AreReached task bound states
  pub quiet : AreQuiet task states
  pub followed : (s : State) → Contains states s → (to : ℕ) → MayGo task.grid task.bars s.cell to s.tick →
      Contains states (state_at to (s.tick + 1)) ⊎ IsUnreachable task.grid task.goal to
