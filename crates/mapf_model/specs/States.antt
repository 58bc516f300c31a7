-- States, that is, cells at ticks, and their order. (Own)
use Rattle.std.specs.Prelude.{◌≡◌, ◌⊎◌, ◌<◌}
use Rattle.mapf_model.specs.declared.label.Entry.{Entry}
use Rattle.mapf_model.specs.declared.state.State.{State}

-- the first precedes the second, by tick and then by the cell's number
abbrev pub IsEarlier : State → State → Type 0
IsEarlier a b = (a.tick < b.tick) ⊎ ((a.tick ≡ b.tick) × (a.cell < b.cell))

-- the state of an entry
abbrev pub state_of : Entry → State
state_of entry = record { tick = entry.tick; cell = entry.cell }
