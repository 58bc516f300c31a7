-- What a split has to meet, and what it adds for its children.
use Rattle.std.specs.Prelude.{◌≡◌, ◌⊎◌, ⊤, ℕ, ◌+◌, ◌<◌, ◌^◌, List, [], ◌∷◌, None, length, slice_index_or}
use Rattle.mapf_lemmas.specs.declared.constraint.PathConstraint.{PathConstraint}
use Rattle.mapf_lemmas.specs.declared.constraint.PathConstraint.TheVariants.{NotAt, NotMove, Most, Least}
use Rattle.mapf_lemmas.specs.declared.constraint.AgentConstraint.{AgentConstraint}
use Rattle.mapf_lemmas.specs.declared.split.Split.{Split}
use Rattle.mapf_lemmas.specs.declared.split.Split.TheVariants.{Vertex, Swap, Cost, Costs}
use Rattle.mapf_lemmas.specs.Cases.{BoundsTwo}
use Rattle.mapf_lemmas.specs.Groups.{Scope}
use Rattle.mapf_lemmas.specs.Statements.{Statement}
use Rattle.mapf_model.specs.declared.label.Label.TheVariants.{Ticks}
use Rattle.mapf_model.specs.Grid.{IsFree, AreAdjacent}
use Rattle.mapf_model.specs.Labels.{IsAtMost}
use Rattle.mapf_model.specs.Plan.{Instance}
use Rattle.mapf_model.specs.Tree.{AreTwoAgents}
use Rattle.mapf_cases.specs.declared.addition.Addition.{Addition}
use Rattle.mapf_cases.specs.declared.addition.Addition.TheVariants.{One, Others}
use Rattle.mapf_cases.specs.declared.split_fault.SplitFault.{SplitFault}
use Rattle.mapf_cases.specs.declared.split_fault.SplitFault.TheVariants.{BadSplit, LemmaNotAllowed}

-- a scope of this problem, in which these statements may be named, and which speaks of these agents
pub record IsScopeWith (problem : Instance) (known : List Statement) (agents : List ℕ) (scope : Scope) : Type 0 where
  pub problem_is : scope.problem ≡ problem
  pub known_is : scope.known ≡ known
  pub agents_are : scope.agents ≡ agents

-- its agents are of the problem, and different if there are two, and its cells are free, and adjacent if there are two
abbrev pub IsWellFormed : Instance → Split → Type 0
IsWellFormed problem (Vertex i j cell tick) = AreTwoAgents problem i j × IsFree problem.grid cell
IsWellFormed problem (Swap i j from to tick) = AreTwoAgents problem i j × AreAdjacent problem.grid from to
IsWellFormed problem (Cost i ticks) = i < length problem.agents
IsWellFormed problem (Costs i ticks j least lemma) = AreTwoAgents problem i j

-- the statement is about these two agents, without a list of prices, and bounds their costs by at least this together
pub record IsBoundOfTwo (statement : Statement) (i j total : ℕ) : Type 0 where
  pub agents_are : (statement.agents ≡ i ∷ j ∷ []) ⊎ (statement.agents ≡ j ∷ i ∷ [])
  pub unpriced : statement.list_number ≡ None
  pub enough : IsAtMost (Ticks total) statement.bound

-- the lemma that it names, if it names one, may be used, and says what the split needs
abbrev pub NamesBound : Scope → (ℕ → List PathConstraint) → Split → Type 0
NamesBound scope constraints (Costs i ticks j least lemma) = BoundsTwo scope constraints lemma i j (ticks + least)
NamesBound scope constraints other = ⊤

-- what the fault says of the split
abbrev pub HasSplitDefect : Scope → (ℕ → List PathConstraint) → Split → SplitFault → Type 0
HasSplitDefect scope constraints split BadSplit = IsWellFormed scope.problem split → ⊥
HasSplitDefect scope constraints split LemmaNotAllowed =
    IsWellFormed scope.problem split × (NamesBound scope constraints split → ⊥)

-- what a bound on the cost of the agent adds, the last addition first
abbrev pub cost_additions : Instance → ℕ → ℕ → List Addition
cost_additions problem i ticks =
    One (record { agent = i; constraint = Most ticks })
    ∷ Others i (slice_index_or problem.agents i (record { start = 0; goal = 0 })).goal ticks ∷ []

-- what the split adds for its left child, the last addition first
abbrev pub left_additions : Instance → Split → List Addition
left_additions problem (Vertex i j cell tick) = One (record { agent = i; constraint = NotAt cell tick }) ∷ []
left_additions problem (Swap i j from to tick) = One (record { agent = i; constraint = NotMove from to tick }) ∷ []
left_additions problem (Cost i ticks) = cost_additions problem i ticks
left_additions problem (Costs i ticks j least lemma) =
    One (record { agent = j; constraint = Least least }) ∷ cost_additions problem i ticks

-- the constraint that it adds for its right child
abbrev pub right_constraint : Split → AgentConstraint
right_constraint (Vertex i j cell tick) = record { agent = j; constraint = NotAt cell tick }
right_constraint (Swap i j from to tick) = record { agent = j; constraint = NotMove to from tick }
right_constraint (Cost i ticks) = record { agent = i; constraint = Least (ticks + 1) }
right_constraint (Costs i ticks j least lemma) = record { agent = i; constraint = Least (ticks + 1) }

-- the cost that it names can be exceeded by 1
abbrev pub IsCostInRange : Split → Type 0
IsCostInRange (Cost i ticks) = ticks + 1 < 2 ^ 32
IsCostInRange (Costs i ticks j least lemma) = ticks + 1 < 2 ^ 32
IsCostInRange other = ⊤
