-- Labels: claimed lower bounds on the ticks left until an agent's last arrival at its goal. Sound labels are a
-- consistent heuristic on the time-expanded graph, whose states are cells at ticks. (Own)
use Rattle.std.specs.Prelude.{◌≡◌, ℕ, ◌+◌, ◌≤◌, ⊤, ◌&&◌, ◌==◌, List, [], ◌∷◌, Option, Some, None, Contains, find}
use Rattle.std.specs.Prelude.{option_map}
use Rattle.mapf_model.specs.declared.bar.Bar.{Bar}
use Rattle.mapf_model.specs.declared.bar.Bar.TheVariants.{Cell, Move}
use Rattle.mapf_model.specs.declared.label.Entry.{Entry}
use Rattle.mapf_model.specs.declared.label.Label.{Label}
use Rattle.mapf_model.specs.declared.label.Label.TheVariants.{Ticks, Never}
use Rattle.mapf_model.specs.Grid.{GridMap, Step}
use Rattle.mapf_model.specs.Distance.{IsDistance, IsUnreachable}

-- the order of labels: `Never` is greater than every number
abbrev pub IsAtMost : Label → Label → Type 0
IsAtMost label Never = ⊤
IsAtMost (Ticks m) (Ticks n) = m ≤ n
IsAtMost Never (Ticks n) = ⊥

-- one tick more
abbrev pub one_more : Label → Label
one_more (Ticks n) = Ticks (n + 1)
one_more Never = Never

-- the sum of two labels
abbrev pub label_plus : Label → Label → Label
label_plus (Ticks m) (Ticks n) = Ticks (m + n)
label_plus (Ticks m) Never = Never
label_plus Never other = Never

-- the sum of labels, infinite if one is
abbrev pub label_sum : List Label → Label
label_sum [] = Ticks 0
label_sum (label ∷ labels) = label_plus label (label_sum labels)

-- the distance from the cell to the goal, as a label
abbrev pub IsDistanceLabel : GridMap → ℕ → ℕ → Label → Type 0
IsDistanceLabel grid goal cell (Ticks n) = IsDistance grid goal cell n
IsDistanceLabel grid goal cell Never = IsUnreachable grid goal cell

-- a label for some of the states, that is, of the cells at ticks
abbrev pub Entries : Type 0
Entries = ℕ → ℕ → Option Label

-- the entries of a list: the label that it first lists for the state
abbrev pub entries_of : List Entry → Entries
entries_of entries cell tick =
    option_map (λ entry. entry.label) (find (λ entry. (entry.cell == cell) && (entry.tick == tick)) entries)

-- the listed label if there is one, else the distance
abbrev pub IsEntryOrDistance : GridMap → ℕ → ℕ → Option Label → Label → Type 0
IsEntryOrDistance grid goal cell (Some listed) label = label ≡ listed
IsEntryOrDistance grid goal cell None label = IsDistanceLabel grid goal cell label

-- the label of a state
abbrev pub IsLabel : GridMap → ℕ → Entries → ℕ → ℕ → Label → Type 0
IsLabel grid goal entries cell tick label = IsEntryOrDistance grid goal cell (entries cell tick) label

-- the agent may go from the cell to the next at this tick
pub record MayGo (grid : GridMap) (bars : List Bar) (from to tick : ℕ) : Type 0 where
  pub step : Step grid from to
  pub arrival : Contains bars (Cell to (tick + 1)) → ⊥
  pub move : Contains bars (Move from to tick) → ⊥

-- this label is at most one more than the state's label
abbrev pub IsWithinOne : GridMap → ℕ → Entries → Label → ℕ → ℕ → Type 0
IsWithinOne grid goal entries label cell tick =
    (after : Label) × IsLabel grid goal entries cell tick after × IsAtMost label (one_more after)

-- a sound entry: it is greater than the distance; and unless a constraint forbids the state, the goal is forbidden at
-- this tick or later if the state is at the goal, and on each allowed step the label falls by one at most
pub record IsSoundEntry (grid : GridMap) (goal : ℕ) (bars : List Bar) (entries : Entries) (cell tick : ℕ)
    (label : Label) : Type 0 where
  pub raised : (distance : ℕ) × IsDistance grid goal cell distance × IsAtMost (Ticks (distance + 1)) label
  pub at_goal : (Contains bars (Cell cell tick) → ⊥) → cell ≡ goal → (later : ℕ) × (tick ≤ later)
      × Contains bars (Cell goal later)
  pub onward : (Contains bars (Cell cell tick) → ⊥) → (next : ℕ) → MayGo grid bars cell next tick →
      IsWithinOne grid goal entries label next (tick + 1)

-- each entry is sound
abbrev pub AreSound : GridMap → ℕ → List Bar → Entries → Type 0
AreSound grid goal bars entries =
    (cell tick : ℕ) (label : Label) → entries cell tick ≡ Some label →
    IsSoundEntry grid goal bars entries cell tick label
