-- What a search by rising f-values has reached, and what it has yet to reach.
use Rattle.std.specs.Prelude.{◌≡◌, ◌⊎◌, ℕ, ◌+◌, ◌-◌, ◌*◌, ◌^◌, ◌<◌, ◌≤◌, min, List, [], ◌∷◌, ◌++◌, length, take, Some}
use Rattle.std.specs.Prelude.{slice_get, Contains}
use Rattle.mapf_model.specs.Distance.{IsUnreachable}
use Rattle.mapf_model.specs.Labels.{MayGo}
use Rattle.mapf_model.specs.declared.state.State.{State}
use Rattle.mapf_spacetime.specs.PathSearch.{CanArrive}
use Rattle.mapf_spacetime.specs.States.{IsEntered}
use Rattle.mapf_spacetime.specs.Task.{Task, IsValue, IsBelow, IsBarredLater, MayRestFrom, state_at, start_of}

-- the states that were reached, the first `below` of them with an f-value below the cost that is tried; the open ones
-- at that cost; and those that wait for the next cost, and for the one after that
pub record States : Type 0 where
  pub reached : List State
  pub open_states : List State
  pub next_states : List State
  pub later_states : List State
  pub cost : ℕ
  pub below : ℕ

-- more than the ticks of any path
abbrev pub stamp_ticks : ℕ
stamp_ticks = 16777216

-- a base to which the ticks of paths can be added
abbrev pub IsBase : ℕ → Type 0
IsBase base = (0 < base) × (base + stamp_ticks ≤ 4294967295)

-- for each cell a stamp: if it is the sum of the base and a tick, the cell was reached at that tick
abbrev pub AreLast : ℕ → List ℕ → List State → Type 0
AreLast base stamps reached =
    (cell tick : ℕ) → slice_get stamps cell ≡ Some (base + tick) → Contains reached (state_at cell tick)

-- each stamp is below the next base
abbrev pub AreOfBase : ℕ → List ℕ → Type 0
AreOfBase base stamps = (cell stamp : ℕ) → slice_get stamps cell ≡ Some stamp → stamp < base + stamp_ticks

-- each stamp is below this
abbrev pub AreBelow : ℕ → List ℕ → Type 0
AreBelow base stamps = (cell stamp : ℕ) → slice_get stamps cell ≡ Some stamp → stamp < base

-- these states were reached, all below the cost, and no other is known
abbrev pub first_states : List State → ℕ → States
first_states reached cost =
    record {
      reached = reached;
      open_states = [];
      next_states = [];
      later_states = [];
      cost = cost;
      below = length reached;
    }

-- one more state is reached
abbrev pub with_reached : States → State → States
with_reached states state = record states { reached = states.reached ++ state ∷ [] }

-- one more state is open
abbrev pub with_open : States → State → States
with_open states state = record states { open_states = states.open_states ++ state ∷ [] }

-- one more state waits for the next cost
abbrev pub with_next : States → State → States
with_next states state = record states { next_states = states.next_states ++ state ∷ [] }

-- one more state waits for the cost after the next one
abbrev pub with_later : States → State → States
with_later states state = record states { later_states = states.later_states ++ state ∷ [] }

-- the next cost: all that was reached is below it, and what waited for it is open
abbrev pub raised : States → States
raised states =
    record {
      reached = states.reached;
      open_states = states.next_states;
      next_states = states.later_states;
      later_states = [];
      cost = states.cost + 1;
      below = length states.reached;
    }

-- the states that were reached below the cost
abbrev pub low_states : States → List State
low_states states = take states.below states.reached

-- the state waits for a greater cost
abbrev pub IsWaiting : States → State → Type 0
IsWaiting states state = Contains states.next_states state ⊎ Contains states.later_states state

-- no state waits
abbrev pub NoneWait : States → Type 0
NoneWait states = (states.next_states ≡ []) × (states.later_states ≡ [])

-- the state was reached, is open or waits
abbrev pub IsKnown : States → State → Type 0
IsKnown states state = Contains states.reached state ⊎ (Contains states.open_states state ⊎ IsWaiting states state)

-- if the agent may go to this state, it is known, or the goal can't be reached from it
abbrev pub IsTaken : Task → States → State → ℕ → Type 0
IsTaken task states from to =
    MayGo task.grid task.bars from.cell to from.tick → IsKnown states (state_at to (from.tick + 1))
    ⊎ IsUnreachable task.grid task.goal to

-- each step from the state was taken
abbrev pub IsClosed : Task → States → State → Type 0
IsClosed task states from = (to : ℕ) → IsTaken task states from to

-- each state below the cost to which the agent may go from this one was reached
abbrev pub AreLowReached : Task → State → States → Type 0
AreLowReached task from states = (to : ℕ) → MayGo task.grid task.bars from.cell to from.tick →
    IsBelow task states.cost (state_at to (from.tick + 1)) → Contains states.reached (state_at to (from.tick + 1))

-- what holds of the states of a search while the steps from these states are still to be taken
pub record IsFrontier (task : Task) (busy : List State) (states : States) : Type 0 where
  pub start : Contains states.reached (start_of task) ⊎ Contains states.open_states (start_of task)
  pub low : (s : State) → Contains (low_states states) s → IsBelow task states.cost s
  pub top : (s : State) → Contains states.reached s → Contains (low_states states) s ⊎ IsValue task s states.cost
  pub bound : states.below ≤ length states.reached
  pub level : (s : State) → Contains states.open_states s → IsValue task s states.cost
  pub next : (s : State) → Contains states.next_states s → IsValue task s (states.cost + 1)
  pub later : (s : State) → Contains states.later_states s → IsValue task s (states.cost + 2)
  pub entered : (s : State) → IsKnown states s → (s ≡ start_of task) ⊎ IsEntered task states.reached s
  pub closed : (s : State) → Contains states.reached s → Contains busy s ⊎ IsClosed task states s
  pub quiet : (tick : ℕ) → Contains states.reached (state_at task.goal tick) → IsBarredLater task tick

-- no known state is forgotten, and none is reached
pub record Keeps (old new : States) : Type 0 where
  pub reached : new.reached ≡ old.reached
  pub cost : new.cost ≡ old.cost
  pub below : new.below ≡ old.below
  pub known : (s : State) → IsKnown old s → IsKnown new s

-- one step was taken
pub record Takes (task : Task) (from : State) (to : ℕ) (old new : States) : Type 0 where
  pub frontier : (busy : List State) → IsFrontier task busy old → IsFrontier task busy new
  pub keeps : Keeps old new
  pub taken : IsTaken task new from to

-- the agent can arrive at the cost, and not earlier; `all` are the open states and those that were taken last
pub record IsAtGoal (task : Task) (states : States) : Type 0 where
  pub all : List State
  pub frontier : IsFrontier task [] (record states { open_states = all })
  pub leads : CanArrive task states.cost (start_of task)
  pub rest : MayRestFrom task states.cost

-- all states up to the cost were reached, and none is an arrival
pub record IsLevelDone (task : Task) (states : States) : Type 0 where
  pub frontier : IsFrontier task [] states
  pub none_open : states.open_states ≡ []

-- all states that can be reached were, and none is an arrival
pub record IsExhausted (task : Task) (states : States) : Type 0 where
  pub done : IsLevelDone task states
  pub none_waits : NoneWait states

-- at most so many open states of the cost are yet to be taken: each that is new opens less than 2^64
abbrev pub takes_left : States → ℕ
takes_left states = (2 ^ 64 - length states.reached) * (2 ^ 64 + 1) + min (length states.open_states) (2 ^ 64)
