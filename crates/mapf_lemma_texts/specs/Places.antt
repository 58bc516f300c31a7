-- The places of prices, entries and joint cells in their lists, which rise.
use Rattle.std.specs.Prelude.{◌≡◌, ◌⊎◌, ◌<◌, ℕ}
use Rattle.mapf_lemmas.specs.declared.joint.JointCell.{JointCell}
use Rattle.mapf_lemmas.specs.declared.joint.JointEntry.{JointEntry}
use Rattle.mapf_lemmas.specs.declared.joint.JointState.{JointState}
use Rattle.mapf_lemmas.specs.declared.joint.JointState.TheVariants.{Both, FirstAlone, SecondAlone}
use Rattle.mapf_lemmas.specs.declared.leaf.Use.{Use}
use Rattle.mapf_lemmas.specs.declared.price.Price.{Price}
use Rattle.mapf_lemmas.specs.declared.price.Price.TheVariants.{Cell, Edge}
use Rattle.mapf_lemma_texts.specs.declared.place.Place.{Place}
use Rattle.mapf_model.specs.declared.label.Entry.{Entry}

-- the first place comes before the second: by tick, then by rank, then by the numbers of the first cells, then by those
-- of the second
abbrev pub IsBefore : Place → Place → Type 0
IsBefore a b =
    (a.tick < b.tick) ⊎ ((a.tick ≡ b.tick) × ((a.rank < b.rank) ⊎ ((a.rank ≡ b.rank) × ((a.first < b.first)
    ⊎ ((a.first ≡ b.first) × (a.second < b.second))))))

-- the place of a price: at one tick cells come before edges
abbrev pub price_place : Price → Place
price_place (Cell cell tick amount) = record { tick = tick; rank = 0; first = cell; second = 0 }
price_place (Edge from to tick amount) = record { tick = tick; rank = 1; first = from; second = to }

-- the place of an entry of one agent
abbrev pub entry_place : Entry → Place
entry_place entry = record { tick = entry.tick; rank = 0; first = entry.cell; second = 0 }

-- the place of a joint state at a tick: those of both agents come first, then those in which the first agent has
-- arrived, then those in which the second has
abbrev pub state_place : JointState → ℕ → Place
state_place (Both u v) tick = record { tick = tick; rank = 0; first = u; second = v }
state_place (SecondAlone v) tick = record { tick = tick; rank = 1; first = v; second = 0 }
state_place (FirstAlone u) tick = record { tick = tick; rank = 2; first = u; second = 0 }

-- the place of a joint entry
abbrev pub joint_place : JointEntry → Place
joint_place entry = state_place entry.state entry.tick

-- the place of a joint cell
abbrev pub cells_place : JointCell → Place
cells_place cell = record { tick = 0; rank = 0; first = cell.first; second = cell.second }

-- the first use is of a lemma with a smaller number
abbrev pub IsBeforeUse : Use → Use → Type 0
IsBeforeUse a b = a.lemma < b.lemma
