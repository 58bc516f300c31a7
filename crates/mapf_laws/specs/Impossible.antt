-- Which problems a tree of version 1 or 2 can show to be impossible.
use Rattle.std.specs.Prelude.{◌≡◌, ◌≢◌, ◌⊎◌, ℕ, Some, slice_get}
use Rattle.mapf_model.specs.declared.item.Claim.TheVariants.{Impossible}
use Rattle.mapf_model.specs.declared.problem.Agent.{Agent}
use Rattle.mapf_model.specs.Distance.{IsUnreachable}
use Rattle.mapf_model.specs.Plan.{Instance}
use Rattle.mapf_model.specs.Tree.{ConstraintTree, ShareGoal, Shows}

-- two different agents have the same start
abbrev pub ShareStart : Instance → ℕ → ℕ → Type 0
ShareStart problem i j =
    (i ≢ j) × (a : Agent) × (b : Agent) × (slice_get problem.agents i ≡ Some a) × (slice_get problem.agents j ≡ Some b)
    × (a.start ≡ b.start)

-- the agent's goal can't be reached from its start
abbrev pub HasUnreachableGoal : Instance → ℕ → Type 0
HasUnreachableGoal problem i =
    (agent : Agent) × (slice_get problem.agents i ≡ Some agent) × IsUnreachable problem.grid agent.goal agent.start

-- no search is needed to see that no plan is valid: two agents share a start, two agents share a goal, or an agent's
-- goal can't be reached from its start
abbrev pub IsTriviallyImpossible : Instance → Type 0
IsTriviallyImpossible problem =
    ((i : ℕ) × (j : ℕ) × ShareStart problem i j) ⊎ ((i : ℕ) × (j : ℕ) × ShareGoal problem i j)
    ⊎ ((i : ℕ) × HasUnreachableGoal problem i)

-- a tree shows `impossible` only for such problems
abbrev pub ImpossibleIsTrivial : Type 0
ImpossibleIsTrivial =
    (problem : Instance) (tree : ConstraintTree) → Shows problem Impossible tree → IsTriviallyImpossible problem

-- for each of them some tree shows it
abbrev pub TrivialIsShown : Type 0
TrivialIsShown =
    (problem : Instance) → IsTriviallyImpossible problem → (tree : ConstraintTree) × Shows problem Impossible tree
