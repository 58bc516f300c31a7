-- Constraints, found by agent and constraint.
use Rattle.std.specs.Prelude.{◌≡◌, ◌↔◌, ◌≤◌, ℕ, List, Contains, IsTrue, MatchBool}
use Rattle.std.specs.BTreeSet.{contains}
use Rattle.std.specs.declared.cmp.Ordering.{Ordering}
use Rattle.std.specs.Ordering.{nat_cmp, ordering_then}
use Rattle.mapf_model.specs.contracts.bar.BarOrd.TheImpl as bar_order
use Rattle.mapf_model.specs.declared.bar.Bar.{Bar}
use Rattle.mapf_model.specs.declared.bar.Bar.TheVariants.{Cell, Move}
use Rattle.mapf_model.specs.declared.constraint.Constraint.{Constraint}
use Rattle.mapf_checker.specs.declared.index.BarIndex.{BarIndex}
use Rattle.mapf_checker.specs.declared.index.Undo.{Undo}

-- a vertex constraint forbids the cell at this tick or later
abbrev pub IsBarredFrom : List Bar → ℕ → ℕ → Type 0
IsBarredFrom bars cell tick = (later : ℕ) × (tick ≤ later) × Contains bars (Cell cell later)

-- a vertex constraint on the cell
abbrev pub IsOn : ℕ → Bar → Type 0
IsOn cell (Cell at tick) = at ≡ cell
IsOn cell (Move from to tick) = ⊥

-- by agent, and then by constraint: vertex constraints first, these by cell and then by tick
abbrev pub key_cmp : ℕ × Bar → ℕ × Bar → Ordering
key_cmp a b = ordering_then (nat_cmp a.0 b.0) ((bar_order.ghosts).cmp a.1 b.1)

-- the index has the constraints of each agent
abbrev pub Indexes : (ℕ → List Bar) → BarIndex → Type 0
Indexes bars index =
    (agent : ℕ) (bar : Bar) → IsTrue (contains key_cmp index.constraints (agent, bar)) ↔ Contains (bars agent) bar

-- the undo says whether these constraints lacked the one that was added
abbrev pub CanUndo : (ℕ → List Bar) → Constraint → Undo → Type 0
CanUndo bars constraint undo =
    MatchBool undo.is_new (Contains (bars constraint.agent) constraint.bar → ⊥)
    (Contains (bars constraint.agent) constraint.bar)
