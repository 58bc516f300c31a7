-- Which constraints stand after what was added.
use Rattle.std.specs.Prelude.{ℕ, List, [], ◌∷◌, ◌==◌, if◌then◌else◌}
use Rattle.mapf_lemmas.specs.declared.constraint.PathConstraint.{PathConstraint}
use Rattle.mapf_lemmas.specs.declared.constraint.PathConstraint.TheVariants.{Clear}
use Rattle.mapf_lemmas.specs.Cases.{with_constraint}
use Rattle.mapf_cases.specs.declared.addition.Addition.{Addition}
use Rattle.mapf_cases.specs.declared.addition.Addition.TheVariants.{One, Others}
use Rattle.mapf_cases.specs.Clears.{Clearing}

-- the constraints of each agent, with one more for all agents but this one: from this tick on they are not in the cell
abbrev pub with_clearing : (ℕ → List PathConstraint) → ℕ → ℕ → ℕ → ℕ → List PathConstraint
with_clearing constraints i cell tick agent =
    if agent == i then constraints agent else Clear cell tick ∷ constraints agent

-- the constraints of each agent, with what the addition adds
abbrev pub with_addition : Addition → (ℕ → List PathConstraint) → ℕ → List PathConstraint
with_addition (One own) constraints = with_constraint constraints own.agent own.constraint
with_addition (Others agent cell tick) constraints = with_clearing constraints agent cell tick

-- the constraints of each agent after these additions, of which the last one comes first
abbrev pub constraints_after : List Addition → ℕ → List PathConstraint
constraints_after [] = λ agent. []
constraints_after (addition ∷ before) = with_addition addition (constraints_after before)

-- those of single agents
abbrev pub singles_after : List Addition → ℕ → List PathConstraint
singles_after [] = λ agent. []
singles_after (One own ∷ before) = with_constraint (singles_after before) own.agent own.constraint
singles_after (Others agent cell tick ∷ before) = singles_after before

-- those of all agents but one
abbrev pub clearings_of : List Addition → List Clearing
clearings_of [] = []
clearings_of (One own ∷ before) = clearings_of before
clearings_of (Others agent cell tick ∷ before) =
    record { agent = agent; cell = cell; tick = tick } ∷ clearings_of before
