-- Labels of one agent under constraints on its path and with prices: lower bounds on what is left of its priced cost
-- from a state, that is, from a cell at a tick, until its last arrival and for resting after it. They count units of
-- the price list, which without a list are ticks. (Own)
use Rattle.std.specs.Prelude.{◌≡◌, ℕ, ◌+◌, ◌-◌, ◌*◌, ◌<◌, ◌≤◌, max, List, Option, Some, None, Contains}
use Rattle.mapf_lemmas.specs.declared.constraint.PathConstraint.{PathConstraint}
use Rattle.mapf_lemmas.specs.declared.constraint.PathConstraint.TheVariants.{NotAt, NotMove, Clear, Most, Least}
use Rattle.mapf_lemmas.specs.Constraints.{demanded_cost}
use Rattle.mapf_lemmas.specs.Prices.{PriceList, cell_price, edge_price, rest_price}
use Rattle.mapf_model.specs.declared.label.Label.{Label}
use Rattle.mapf_model.specs.declared.problem.Agent.{Agent}
use Rattle.mapf_model.specs.declared.label.Label.TheVariants.{Ticks, Never}
use Rattle.mapf_model.specs.Grid.{GridMap, Step}
use Rattle.mapf_model.specs.Distance.{Walk, IsDistance, IsUnreachable}
use Rattle.mapf_model.specs.Labels.{Entries, IsAtMost, label_plus}

-- the task of one agent: to reach its goal on the grid under the constraints, where moves and cells have prices
pub record Task : Type 0 where
  pub grid : GridMap
  pub list : PriceList
  pub agent : Agent
  pub constraints : List PathConstraint

-- the constraint excludes the state, for an agent that hasn't arrived for good at an earlier tick
abbrev pub Excludes : Task → ℕ → ℕ → PathConstraint → Type 0
Excludes task cell tick (NotAt there then) = (there ≡ cell) × (then ≡ tick)
Excludes task cell tick (Clear there then) = (there ≡ cell) × (then ≤ tick)
Excludes task cell tick (Most ticks) = (steps : ℕ) → Walk task.grid cell task.agent.goal steps → ticks < tick + steps
Excludes task cell tick other = ⊥

-- some constraint excludes the state
abbrev pub IsBarred : Task → ℕ → ℕ → Type 0
IsBarred task cell tick =
    (constraint : PathConstraint) × Contains task.constraints constraint × Excludes task cell tick constraint

-- the agent may go from the one cell to the next at this tick
pub record MayStep (task : Task) (from to tick : ℕ) : Type 0 where
  pub step : Step task.grid from to
  pub arrival : IsBarred task to (tick + 1) → ⊥
  pub move : Contains task.constraints (NotMove from to tick) → ⊥

-- the constraint forbids the agent, which isn't barred, to arrive for good at this tick
abbrev pub ForbidsRest : Task → ℕ → PathConstraint → Type 0
ForbidsRest task tick (NotAt cell later) = (cell ≡ task.agent.goal) × (tick ≤ later)
ForbidsRest task tick (Clear cell from) = cell ≡ task.agent.goal
ForbidsRest task tick (Least ticks) = tick < ticks
ForbidsRest task tick other = ⊥

-- the agent may arrive for good in this cell at this tick, if the state isn't barred
pub record MayRest (task : Task) (cell tick : ℕ) : Type 0 where
  pub at_goal : cell ≡ task.agent.goal
  pub allowed : (constraint : PathConstraint) → Contains task.constraints constraint →
      ForbidsRest task tick constraint → ⊥

-- the label of a state without an entry: the unit times the greater of the distance and of the ticks that are left
-- until the greatest cost that a constraint demands at least; infinite if the goal can't be reached
abbrev pub IsDefault : Task → ℕ → ℕ → Label → Type 0
IsDefault task cell tick (Ticks n) =
    (distance : ℕ) × IsDistance task.grid task.agent.goal cell distance
    × (n ≡ task.list.unit * max distance (demanded_cost task.constraints - tick))
IsDefault task cell tick Never = IsUnreachable task.grid task.agent.goal cell

-- the listed label if there is one, else one that the property allows
abbrev pub IsListedOr : Option Label → (Label → Type 0) → Label → Type 0
IsListedOr (Some listed) IsOther label = label ≡ listed
IsListedOr None IsOther label = IsOther label

-- the label of a state
abbrev pub IsSingleLabel : Task → Entries → ℕ → ℕ → Label → Type 0
IsSingleLabel task entries cell tick label = IsListedOr (entries cell tick) (IsDefault task cell tick) label

-- what it costs to go from the one cell to the next at this tick: the tick, the edge and the next cell
abbrev pub step_price : PriceList → ℕ → ℕ → ℕ → ℕ
step_price list from to tick =
    list.unit + edge_price list.prices from to tick + cell_price list.prices to (tick + 1)

-- the label is at most the sum of this number and a label with the property
abbrev pub IsAtMostAfter : (Label → Type 0) → Label → ℕ → Type 0
IsAtMostAfter IsAfter label price = (after : Label) × IsAfter after × IsAtMost label (label_plus (Ticks price) after)

-- a sound entry: it exceeds the default; and unless the state is barred, it is at most what rest costs if the agent may
-- arrive for good, and for each step that the agent may make at most the sum of what the step costs and the label after
-- it
pub record IsSoundEntry (task : Task) (entries : Entries) (cell tick : ℕ) (label : Label) : Type 0 where
  pub raised : (default : ℕ) × IsDefault task cell tick (Ticks default) × IsAtMost (Ticks (default + 1)) label
  pub at_rest : (IsBarred task cell tick → ⊥) → MayRest task cell tick →
      IsAtMost label (Ticks (rest_price task.list.prices cell tick))
  pub onward : (IsBarred task cell tick → ⊥) → (next : ℕ) → MayStep task cell next tick →
      IsAtMostAfter (IsSingleLabel task entries next (tick + 1)) label (step_price task.list cell next tick)

-- each entry is sound
abbrev pub AreSound : Task → Entries → Type 0
AreSound task entries =
    (cell tick : ℕ) (label : Label) → entries cell tick ≡ Some label → IsSoundEntry task entries cell tick label
