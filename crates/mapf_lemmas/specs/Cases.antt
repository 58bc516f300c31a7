-- Proofs by cases: trees whose leaves name lemmas. (Own)
use Rattle.std.specs.Prelude.{◌≡◌, ◌⊎◌, ℕ, ◌+◌, ◌<◌, List, [], ◌∷◌, None, Some, length, slice_get, slice_index_or, ◌==◌}
use Rattle.std.specs.Prelude.{if◌then◌else◌}
use Rattle.mapf_lemmas.specs.declared.constraint.PathConstraint.{PathConstraint}
use Rattle.mapf_lemmas.specs.declared.constraint.PathConstraint.TheVariants.{NotAt, NotMove, Clear, Most, Least}
use Rattle.mapf_lemmas.specs.declared.split.Split.{Split}
use Rattle.mapf_lemmas.specs.declared.split.Split.TheVariants.{Vertex, Swap, Cost, Costs}
use Rattle.mapf_lemmas.specs.Statements.{Statement}
use Rattle.mapf_lemmas.specs.Groups.{Scope, LeafUses, MayBeUsed, LeafShows}
use Rattle.mapf_model.specs.declared.label.Label.{Label}
use Rattle.mapf_model.specs.declared.label.Label.TheVariants.{Ticks}
use Rattle.mapf_model.specs.Grid.{IsFree, AreAdjacent}
use Rattle.mapf_model.specs.Labels.{IsAtMost}
use Rattle.mapf_model.specs.Plan.{Instance}
use Rattle.mapf_model.specs.Tree.{AreTwoAgents, ShareGoal}

-- a split with two children, a leaf, or a terminal node that names two agents with the same goal
pub data CaseTree : Type 0 where
  Branch : (split : Split) → (left right : CaseTree) → CaseTree
  Leaf : (uses : LeafUses) → CaseTree
  Clash : (i j : ℕ) → CaseTree

-- the constraints of each agent, with one more for this agent
abbrev pub with_constraint : (ℕ → List PathConstraint) → ℕ → PathConstraint → ℕ → List PathConstraint
with_constraint constraints i constraint agent =
    if agent == i then constraint ∷ constraints agent else constraints agent

-- the agent's path costs at most so many ticks, and from then on no other agent is in its goal
abbrev pub with_cost : Instance → (ℕ → List PathConstraint) → ℕ → ℕ → ℕ → List PathConstraint
with_cost problem constraints i ticks agent =
    if agent == i then Most ticks ∷ constraints agent
    else Clear (slice_index_or problem.agents i (record { start = 0; goal = 0 })).goal ticks ∷ constraints agent

-- the constraints of the left child
abbrev pub left_constraints : Instance → (ℕ → List PathConstraint) → Split → ℕ → List PathConstraint
left_constraints problem constraints (Vertex i j cell tick) = with_constraint constraints i (NotAt cell tick)
left_constraints problem constraints (Swap i j from to tick) = with_constraint constraints i (NotMove from to tick)
left_constraints problem constraints (Cost i ticks) = with_cost problem constraints i ticks
left_constraints problem constraints (Costs i ticks j least lemma) =
    with_constraint (with_cost problem constraints i ticks) j (Least least)

-- the constraints of the right child
abbrev pub right_constraints : (ℕ → List PathConstraint) → Split → ℕ → List PathConstraint
right_constraints constraints (Vertex i j cell tick) = with_constraint constraints j (NotAt cell tick)
right_constraints constraints (Swap i j from to tick) = with_constraint constraints j (NotMove to from tick)
right_constraints constraints (Cost i ticks) = with_constraint constraints i (Least (ticks + 1))
right_constraints constraints (Costs i ticks j least lemma) = with_constraint constraints i (Least (ticks + 1))

-- the lemma with this number may be used, and says that these two agents cost at least so many ticks together
pub record BoundsTwo (scope : Scope) (constraints : ℕ → List PathConstraint) (lemma i j total : ℕ) : Type 0 where
  pub statement : Statement
  pub named : slice_get scope.known lemma ≡ Some statement
  pub usable : MayBeUsed scope constraints statement
  pub agents : (statement.agents ≡ i ∷ j ∷ []) ⊎ (statement.agents ≡ j ∷ i ∷ [])
  pub unpriced : statement.list_number ≡ None
  pub enough : IsAtMost (Ticks total) statement.bound

-- the split names agents of the problem, different ones if there are two, free cells, or two that are adjacent, and a
-- lemma that says what it needs
abbrev pub IsProperSplit : Scope → (ℕ → List PathConstraint) → Split → Type 0
IsProperSplit scope constraints (Vertex i j cell tick) =
    AreTwoAgents scope.problem i j × IsFree scope.problem.grid cell
IsProperSplit scope constraints (Swap i j from to tick) =
    AreTwoAgents scope.problem i j × AreAdjacent scope.problem.grid from to
IsProperSplit scope constraints (Cost i ticks) = i < length scope.problem.agents
IsProperSplit scope constraints (Costs i ticks j least lemma) =
    AreTwoAgents scope.problem i j × BoundsTwo scope constraints lemma i j (ticks + least)

-- the tree shows, of all valid plans that satisfy the constraints, that the agents of the scope cost at least this
-- together
abbrev pub TreeShows : Scope → Label → (ℕ → List PathConstraint) → CaseTree → Type 0
TreeShows scope target constraints (Branch split left right) =
    IsProperSplit scope constraints split
    × TreeShows scope target (left_constraints scope.problem constraints split) left
    × TreeShows scope target (right_constraints constraints split) right
TreeShows scope target constraints (Leaf uses) = LeafShows scope constraints uses target
TreeShows scope target constraints (Clash i j) = ShareGoal scope.problem i j
