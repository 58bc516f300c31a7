-- Entries for the states of a search.
use Rattle.std.specs.Prelude.{◌≡◌, ℕ, ◌-◌, Option, Some, None, List, AllPairs, Contains}
use Rattle.mapf_model.specs.declared.label.Entry.{Entry}
use Rattle.mapf_model.specs.declared.label.Label.{Label}
use Rattle.mapf_model.specs.declared.label.Label.TheVariants.{Ticks, Never}
use Rattle.mapf_model.specs.Printed.{IsBefore}
use Rattle.mapf_model.specs.declared.state.State.{State}
use Rattle.mapf_spacetime.specs.Task.{state_at}

-- the ticks that are left of the cost, or `Never` if there is no cost
abbrev pub label_of : Option ℕ → ℕ → Label
label_of (Some cost) tick = Ticks (cost - tick)
label_of None tick = Never

-- the entry of a state
abbrev pub entry_for : Option ℕ → State → Entry
entry_for cost state = record { cell = state.cell; tick = state.tick; label = label_of cost state.tick }

-- the entries of the states, and no other, in rising order
pub record AreEntriesOf (states : List State) (cost : Option ℕ) (entries : List Entry) : Type 0 where
  pub each : (e : Entry) → Contains entries e → Contains states (state_at e.cell e.tick)
      × (e.label ≡ label_of cost e.tick)
  pub all : (s : State) → Contains states s → Contains entries (entry_for cost s)
  pub rising : AllPairs IsBefore entries
