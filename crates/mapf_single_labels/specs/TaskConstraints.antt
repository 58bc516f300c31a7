-- How the constraints of one agent are looked up.
use Rattle.std.specs.Prelude.{◌≡◌, ◌⊎◌, ℕ, ◌≤◌, min, List, Option, Some, None, Contains}
use Rattle.mapf_lemmas.specs.declared.constraint.PathConstraint.{PathConstraint}
use Rattle.mapf_model.specs.declared.bar.Bar.{Bar}
use Rattle.mapf_model.specs.declared.bar.Bar.TheVariants.{Cell, Move}
use Rattle.mapf_lemmas.specs.declared.constraint.PathConstraint.TheVariants.{NotAt, NotMove, Clear, Most}

-- some constraint forbids the agent to be in the cell at the tick
abbrev pub IsForbidden : List PathConstraint → ℕ → ℕ → Type 0
IsForbidden constraints cell tick =
    Contains constraints (NotAt cell tick) ⊎ ((from : ℕ) × (from ≤ tick) × Contains constraints (Clear cell from))

-- some constraint on one tick forbids the agent to be in the cell at the tick or later
abbrev pub IsBarredFrom : List PathConstraint → ℕ → ℕ → Type 0
IsBarredFrom constraints cell tick = (later : ℕ) × (tick ≤ later) × Contains constraints (NotAt cell later)

-- some constraint forbids the agent to be in the cell at the tick or later
abbrev pub IsForbiddenFrom : List PathConstraint → ℕ → ℕ → Type 0
IsForbiddenFrom constraints cell tick =
    IsBarredFrom constraints cell tick ⊎ ((from : ℕ) × Contains constraints (Clear cell from))

-- the tick is the first from which on the cell is to be clear, or there is none
abbrev pub IsFirstClear : List PathConstraint → ℕ → Option ℕ → Type 0
IsFirstClear constraints cell (Some tick) =
    Contains constraints (Clear cell tick) × ((other : ℕ) → Contains constraints (Clear cell other) → tick ≤ other)
IsFirstClear constraints cell None = (other : ℕ) → Contains constraints (Clear cell other) → ⊥

-- the least cost that some constraint allows at most, none if no constraint does
abbrev pub IsLeastMost : List PathConstraint → Option ℕ → Type 0
IsLeastMost constraints (Some ticks) =
    Contains constraints (Most ticks) × ((other : ℕ) → Contains constraints (Most other) → ticks ≤ other)
IsLeastMost constraints None = (other : ℕ) → Contains constraints (Most other) → ⊥

-- a constraint on one tick, as a constraint on the path
abbrev pub constraint_of : Bar → PathConstraint
constraint_of (Cell cell tick) = NotAt cell tick
constraint_of (Move from to tick) = NotMove from to tick

-- it is a constraint on the cell
abbrev pub IsOn : ℕ → Bar → Type 0
IsOn cell (Cell at tick) = at ≡ cell
IsOn cell (Move from to tick) = ⊥

-- the lesser of the two numbers, or the second if there is no first
abbrev pub least_of : Option ℕ → ℕ → ℕ
least_of (Some old) new = min old new
least_of None new = new
