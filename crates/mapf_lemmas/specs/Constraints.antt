-- Constraints on the path of one agent. (Sharon et al. 2015; on its cost, and on a cell from a tick on: Li et al.
-- 2021a)
use Rattle.std.specs.Prelude.{◌≡◌, ◌≢◌, ⊤, ℕ, ◌+◌, ◌≤◌, List, [], ◌∷◌, Contains, max}
use Rattle.mapf_lemmas.specs.declared.constraint.PathConstraint.{PathConstraint}
use Rattle.mapf_lemmas.specs.declared.constraint.PathConstraint.TheVariants.{NotAt, NotMove, Clear, Most, Least}
use Rattle.mapf_model.specs.Grid.{GridMap, IsFree, AreAdjacent}
use Rattle.mapf_model.specs.Path.{at}

-- a path of this cost satisfies the constraint
abbrev pub Satisfies : List ℕ → ℕ → PathConstraint → Type 0
Satisfies path cost (NotAt cell tick) = at path tick ≢ cell
Satisfies path cost (NotMove from to tick) = (at path tick ≡ from) × (at path (tick + 1) ≡ to) → ⊥
Satisfies path cost (Clear cell tick) = (later : ℕ) → tick ≤ later → at path later ≢ cell
Satisfies path cost (Most ticks) = cost ≤ ticks
Satisfies path cost (Least ticks) = ticks ≤ cost

-- it satisfies all of them
abbrev pub SatisfiesAll : List ℕ → ℕ → List PathConstraint → Type 0
SatisfiesAll path cost constraints =
    (constraint : PathConstraint) → Contains constraints constraint → Satisfies path cost constraint

-- the cost that the constraint demands at least
abbrev pub demanded_by : PathConstraint → ℕ
demanded_by (Least ticks) = ticks
demanded_by other = 0

-- the greatest cost that some constraint demands at least
abbrev pub demanded_cost : List PathConstraint → ℕ
demanded_cost [] = 0
demanded_cost (constraint ∷ constraints) = max (demanded_by constraint) (demanded_cost constraints)

-- its cells are free, and adjacent if there are two
abbrev pub IsConstraintOn : GridMap → PathConstraint → Type 0
IsConstraintOn grid (NotAt cell tick) = IsFree grid cell
IsConstraintOn grid (NotMove from to tick) = AreAdjacent grid from to
IsConstraintOn grid (Clear cell tick) = IsFree grid cell
IsConstraintOn grid (Most ticks) = ⊤
IsConstraintOn grid (Least ticks) = ⊤
