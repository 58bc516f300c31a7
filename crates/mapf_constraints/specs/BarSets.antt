-- What a set of constraints says of a cell and of all ticks.
use Rattle.std.specs.Prelude.{ℕ, ◌+◌, ◌<◌, ◌≤◌, List, Contains, Option, None, Some}
use Rattle.mapf_model.specs.declared.bar.Bar.{Bar}
use Rattle.mapf_model.specs.declared.bar.Bar.TheVariants.{Cell, Move}

-- the tick of the constraint
abbrev pub bar_tick : Bar → ℕ
bar_tick (Cell cell tick) = tick
bar_tick (Move from to tick) = tick

-- the cell and the tick of the arrival that a constraint forbids: a vertex constraint forbids to be there then, an edge
-- constraint to get there by its move
abbrev pub arrival : Bar → ℕ × ℕ
arrival (Cell cell tick) = (cell, tick)
arrival (Move from to tick) = (to, tick + 1)

-- each constraint's tick is below this one
abbrev pub AreBefore : ℕ → List Bar → Type 0
AreBefore bound bars = (bar : Bar) → Contains bars bar → bar_tick bar < bound

-- the least tick greater than the ticks of all constraints
pub record IsHorizon (bars : List Bar) (horizon : ℕ) : Type 0 where
  pub above : AreBefore horizon bars
  pub least : (bound : ℕ) → AreBefore bound bars → horizon ≤ bound

-- the greatest tick at which the cell is forbidden, None if it never is
abbrev pub IsLastOn : List Bar → ℕ → Option ℕ → Type 0
IsLastOn bars cell None = (tick : ℕ) → Contains bars (Cell cell tick) → ⊥
IsLastOn bars cell (Some last) =
    Contains bars (Cell cell last) × ((tick : ℕ) → Contains bars (Cell cell tick) → tick ≤ last)
