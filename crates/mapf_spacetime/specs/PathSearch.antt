-- Walks of one agent to its goal, at a cost.
use Rattle.std.specs.Prelude.{◌≡◌, ℕ, zero, suc, ◌+◌, ◌-◌, ◌*◌, ◌^◌, ◌<◌, ◌≤◌, List, [], ◌∷◌, ◌++◌, length, take}
use Rattle.std.specs.Prelude.{slice_index, Contains}
use Rattle.mapf_model.specs.Labels.{MayGo}
use Rattle.mapf_model.specs.declared.state.State.{State}
use Rattle.mapf_spacetime.specs.Task.{Task, Goes, IsWithin, state_at}

-- the cells of a walk, one for each tick, and the states from which the search backtracked
pub record Walked : Type 0 where
  pub cells : List ℕ
  pub failed : List State

-- a walk that is at its start
abbrev pub first_walk : ℕ → Walked
first_walk start = record { cells = start ∷ []; failed = [] }

-- the walk with one more step
abbrev pub with_step : Walked → ℕ → Walked
with_step way to = record { cells = way.cells ++ to ∷ []; failed = way.failed }

-- the walk without its last cell, whose state is added to those that failed
abbrev pub with_failure : Walked → State → Walked
with_failure way state = record { cells = take (length way.cells - 1) way.cells; failed = way.failed ++ state ∷ [] }

-- so many steps that the constraints allow lead to the goal at this tick
abbrev pub CanArriveIn : Task → ℕ → ℕ → State → Type 0
CanArriveIn task cost zero state = state ≡ state_at task.goal cost
CanArriveIn task cost (suc n) state = (next : State) × Goes task state next × CanArriveIn task cost n next

-- if the agent is in the state it can be at the goal at this tick
abbrev pub CanArrive : Task → ℕ → State → Type 0
CanArrive task cost state = (n : ℕ) × CanArriveIn task cost n state

-- if the agent may go from the state to the cell and can arrive from there, then the state there is one of those that
-- failed
abbrev pub IsNoWayOn : Task → ℕ → List State → State → ℕ → Type 0
IsNoWayOn task cost failed from to = MayGo task.grid task.bars from.cell to from.tick →
    CanArrive task cost (state_at to (from.tick + 1)) → Contains failed (state_at to (from.tick + 1))

-- the same of each smaller cell
abbrev pub AreNoWaysBelow : Task → ℕ → List State → State → ℕ → Type 0
AreNoWaysBelow task cost failed from to = (other : ℕ) → other < to → IsNoWayOn task cost failed from other

-- the state of the walk at the tick
abbrev pub state_of : List ℕ → ℕ → State
state_of cells tick = state_at (slice_index cells tick) tick

-- the cells are a walk from the start, through states of at most this f-value
pub record IsWalkFrom (task : Task) (cost : ℕ) (cells : List ℕ) : Type 0 where
  pub some : 1 ≤ length cells
  pub start : slice_index cells 0 ≡ task.start
  pub within : (k : ℕ) → k < length cells → IsWithin task cost (state_of cells k)
  pub goes : (k : ℕ) → k + 1 < length cells → Goes task (state_of cells k) (state_of cells (k + 1))

-- at each step of the walk, the agent can't arrive from a smaller cell than the one that the walk goes to
abbrev pub IsLeastWalk : Task → ℕ → List ℕ → Type 0
IsLeastWalk task cost cells = (k to : ℕ) → k + 1 < length cells → to < slice_index cells (k + 1) →
    MayGo task.grid task.bars (slice_index cells k) to k → CanArrive task cost (state_at to (k + 1)) → ⊥

-- the cells are the least walk, and it ends at the cost
pub record IsWholeWalk (task : Task) (cost : ℕ) (cells : List ℕ) : Type 0 where
  pub way : IsWalkFrom task cost cells
  pub count : length cells ≡ cost + 1
  pub least : IsLeastWalk task cost cells

-- a search that has backtracked only from states from which the agent can't arrive
pub record IsSearching (task : Task) (cost : ℕ) (way : Walked) : Type 0 where
  pub from : IsWalkFrom task cost way.cells
  pub short : length way.cells ≤ cost + 1
  pub fresh : (k : ℕ) → k < length way.cells → Contains way.failed (state_of way.cells k) → ⊥
  pub stuck : (s : State) → Contains way.failed s → CanArrive task cost s → ⊥
  pub least : IsLeastWalk task cost way.cells

-- at most so many steps and backtracks are left: each state fails at most once
abbrev pub turns_left : Walked → ℕ
turns_left way = (2 ^ 64 - length way.failed) * 2 ^ 64 + (2 ^ 64 - length way.cells)
