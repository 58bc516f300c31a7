-- Which states the labels of a search are of.
use Rattle.std.specs.Prelude.{◌≡◌, ℕ, zero, suc, Option, Some, None, List, Contains}
use Rattle.mapf_model.specs.declared.label.Entry.{Entry}
use Rattle.mapf_model.specs.Path.{IsCost}
use Rattle.mapf_spacetime.specs.declared.found.Found.{Found}
use Rattle.mapf_spacetime.specs.declared.found.Found.TheVariants.{Arrives, Dead}
use Rattle.mapf_model.specs.declared.state.State.{State}
use Rattle.mapf_spacetime.specs.Listed.{entry_for, label_of}
use Rattle.mapf_spacetime.specs.Task.{Task, Goes, IsBelow, IsOpen, IsValue, start_of, state_at}

-- so many steps that the constraints allow lead from the start to the state, through states of this kind
abbrev pub IsReachedIn : Task → (State → Type 0) → ℕ → State → Type 0
IsReachedIn task Kind zero state = (state ≡ start_of task) × Kind state
IsReachedIn task Kind (suc n) state =
    ((from : State) × IsReachedIn task Kind n from × IsOpen task from × Goes task from state) × Kind state

-- steps that the constraints allow lead from the start to the state, through states of this kind
abbrev pub IsReached : Task → (State → Type 0) → State → Type 0
IsReached task Kind state = (n : ℕ) × IsReachedIn task Kind n state

-- the state has an f-value: steps lead from its cell to the goal, constraints aside
abbrev pub HasValue : Task → State → Type 0
HasValue task state = (value : ℕ) × IsValue task state value

-- the entries are those of the states that can be reached through states of this kind, and no others. No step lowers
-- the f-value, so of the states with an f-value, and of those below a cost, these are all that can be reached
pub record AreReachedEntries (task : Task) (Kind : State → Type 0) (cost : Option ℕ) (entries : List Entry)
    : Type 0 where
  pub each : (e : Entry) → Contains entries e → IsReached task Kind (state_at e.cell e.tick)
      × (e.label ≡ label_of cost e.tick)
  pub all : (s : State) → IsReached task Kind s → Contains entries (entry_for cost s)

-- of a path the entries are those of the states below its cost, and of a dead agent those of all states with an
-- f-value. A start that is forbidden at tick 0 counts as reached, and no step leads on from it
abbrev pub ListsReached : Task → Found (List Entry) → Type 0
ListsReached task (Arrives path entries) =
    (cost : ℕ) × IsCost task.goal path cost × AreReachedEntries task (IsBelow task cost) (Some cost) entries
ListsReached task (Dead entries) = AreReachedEntries task (HasValue task) None entries
