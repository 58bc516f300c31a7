-- Constraints of one agent, without naming the agent. (Sharon et al. 2015)
use Rattle.std.specs.Prelude.{◌≡◌, ◌≢◌, ⊤, ℕ, ◌+◌, List, Contains}
use Rattle.mapf_model.specs.declared.bar.Bar.{Bar}
use Rattle.mapf_model.specs.declared.bar.Bar.TheVariants.{Cell, Move}
use Rattle.mapf_model.specs.Path.{at}

-- the path does what the constraint forbids: a vertex constraint forbids a cell at a tick, an edge constraint a move
-- that begins at a tick
abbrev pub Violates : Bar → List ℕ → Type 0
Violates (Cell cell tick) path = at path tick ≡ cell
Violates (Move from to tick) path = (at path tick ≡ from) × (at path (tick + 1) ≡ to)

-- the path violates none of the constraints
abbrev pub Satisfies : List Bar → List ℕ → Type 0
Satisfies bars path = (bar : Bar) → Contains bars bar → Violates bar path → ⊥

-- an edge constraint names two different cells, so none forbids a wait as such
abbrev pub IsBar : Bar → Type 0
IsBar (Cell cell tick) = ⊤
IsBar (Move from to tick) = from ≢ to

-- each of the constraints is such a constraint
abbrev pub AreBars : List Bar → Type 0
AreBars bars = (bar : Bar) → Contains bars bar → IsBar bar
