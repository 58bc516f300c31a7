-- The lower bound of a leaf: lower bounds on the priced costs of single agents, and what groups of lemmas add to them.
-- A group is a fractional packing of its lemmas. (Own)
use Rattle.std.specs.Prelude.{◌≡◌, ◌≢◌, ◌⊎◌, ℕ, ◌+◌, ◌-◌, ◌*◌, ◌/◌, ◌≤◌, List, [], ◌∷◌, Option, None, Some, All}
use Rattle.std.specs.Prelude.{AllPairs, Contains, sum_by, count_by, slice_get, ◌==◌}
use Rattle.mapf_lemmas.specs.declared.constraint.PathConstraint.{PathConstraint}
use Rattle.mapf_lemmas.specs.declared.leaf.Use.{Use}
use Rattle.mapf_lemmas.specs.Prices.{PriceList, total_price}
use Rattle.mapf_lemmas.specs.Statements.{Statement, IsListOf, IsMet, constraints_of}
use Rattle.mapf_model.specs.declared.label.Label.{Label}
use Rattle.mapf_model.specs.declared.label.Label.TheVariants.{Ticks, Never}
use Rattle.mapf_model.specs.declared.problem.Agent.{Agent}
use Rattle.mapf_model.specs.Labels.{IsAtMost, IsDistanceLabel}
use Rattle.mapf_model.specs.Plan.{Instance}

-- uses of lemmas. The weighted sum of what they add is divided
pub record Group : Type 0 where
  pub divisor : ℕ
  pub uses : List Use

-- what a leaf names: the number of its list of prices, if it has one, lemmas of single agents, and groups
pub record LeafUses : Type 0 where
  pub list_number : Option ℕ
  pub singles : List ℕ
  pub groups : List Group

-- where a tree is judged: the problem, all lists of prices, the statements of the lemmas that may be named, and the
-- agents of which it speaks
pub record Scope : Type 0 where
  pub problem : Instance
  pub lists : List PriceList
  pub known : List Statement
  pub agents : List ℕ

-- so many times a label
abbrev pub times : ℕ → Label → Label
times unit (Ticks n) = Ticks (unit * n)
times unit Never = Never

-- the statement may be used under the constraints of a node: its agents are of the scope, and its constraints are
-- met
pub record MayBeUsed (scope : Scope) (constraints : ℕ → List PathConstraint) (statement : Statement) : Type 0 where
  pub inside : All (Contains scope.agents) statement.agents
  pub met : (agent : ℕ) (needed : PathConstraint) → Contains (constraints_of statement.constraints agent) needed →
      IsMet (constraints agent) needed

-- what the bound of the statement counts at a leaf with this list of prices: the bound itself if the statement has the
-- same list, and the unit times the bound if it has none
abbrev pub Counts : Option ℕ → ℕ → Statement → Label → Type 0
Counts number unit statement label =
    ((statement.list_number ≡ number) × (label ≡ statement.bound))
    ⊎ ((statement.list_number ≡ None) × (label ≡ times unit statement.bound))

-- what a leaf counts: what each agent costs at least, and of each lemma that the leaf names its agents and what it
-- counts
pub record LeafLabels : Type 0 where
  pub floor : ℕ → Label
  pub agents : ℕ → List ℕ
  pub counted : ℕ → Label

-- the lemma with this number may be used, and the labels give its agents and what it counts
pub record IsNamed (scope : Scope) (constraints : ℕ → List PathConstraint) (leaf : LeafUses) (unit : ℕ)
    (labels : LeafLabels) (lemma : ℕ) : Type 0 where
  pub statement : Statement
  pub named : slice_get scope.known lemma ≡ Some statement
  pub usable : MayBeUsed scope constraints statement
  pub same_agents : labels.agents lemma ≡ statement.agents
  pub counts : Counts leaf.list_number unit statement (labels.counted lemma)

-- a lower bound on the priced cost of an agent: what the leaf's lemma of this agent alone counts, or, if there is none,
-- what the distance of its start is worth
abbrev pub IsFloor : Scope → LeafUses → ℕ → LeafLabels → ℕ → Type 0
IsFloor scope leaf unit labels agent =
    ((lemma : ℕ) × Contains leaf.singles lemma × (labels.agents lemma ≡ agent ∷ [])
    × (labels.floor agent ≡ labels.counted lemma))
    ⊎ (((lemma : ℕ) → Contains leaf.singles lemma → labels.agents lemma ≢ agent ∷ []) × (a : Agent)
    × (distance : Label) × (slice_get scope.problem.agents agent ≡ Some a)
    × IsDistanceLabel scope.problem.grid a.goal a.start distance × (labels.floor agent ≡ times unit distance))

-- the units of a label, 0 if it is infinite
abbrev pub ticks_of : Label → ℕ
ticks_of (Ticks n) = n
ticks_of Never = 0

-- the number of times that the agent is in the list
abbrev pub occurrences : ℕ → List ℕ → ℕ
occurrences agent agents = count_by (λ other. other == agent) agents

-- the sum of the weights of the group's uses whose lemmas have the agent
abbrev pub load : LeafLabels → Group → ℕ → ℕ
load labels group agent =
    sum_by (λ used. used.weight * occurrences agent (labels.agents used.lemma)) group.uses

-- what a lemma counts beyond what its agents cost at least
abbrev pub excess : LeafLabels → ℕ → ℕ
excess labels lemma =
    ticks_of (labels.counted lemma) - sum_by (λ agent. ticks_of (labels.floor agent)) (labels.agents lemma)

-- the quotient, rounded up
abbrev pub divided : ℕ → ℕ → ℕ
divided n divisor = (n + (divisor - 1)) / divisor

-- what a group adds
abbrev pub added : LeafLabels → Group → ℕ
added labels group = divided (sum_by (λ used. used.weight * excess labels used.lemma) group.uses) group.divisor

-- a group divides by at least 1, its weights are at least 1, those of an agent add up to at most the divisor, and each
-- of its lemmas may be used
pub record IsGroup (scope : Scope) (constraints : ℕ → List PathConstraint) (leaf : LeafUses) (unit : ℕ)
    (labels : LeafLabels) (group : Group) : Type 0 where
  pub positive : 1 ≤ group.divisor
  pub balanced : (agent : ℕ) → load labels group agent ≤ group.divisor
  pub weights : All (λ used. 1 ≤ used.weight) group.uses
  pub each : All (λ used. IsNamed scope constraints leaf unit labels used.lemma) group.uses

-- no agent is in both groups
abbrev pub ShareNoAgent : LeafLabels → Group → Group → Type 0
ShareNoAgent labels one other = (agent : ℕ) → (load labels one agent ≡ 0) ⊎ (load labels other agent ≡ 0)

-- the leaf names a list and lemmas that it may name, one lemma for an agent alone at most, and groups without a common
-- agent; and the labels give what they count
pub record IsProperLeaf (scope : Scope) (constraints : ℕ → List PathConstraint) (leaf : LeafUses) (list : PriceList)
    (labels : LeafLabels) : Type 0 where
  pub is_list : IsListOf scope.lists leaf.list_number list
  pub positive : 1 ≤ list.unit
  pub alone : All (λ lemma. (agent : ℕ) × (labels.agents lemma ≡ agent ∷ [])) leaf.singles
  pub different : AllPairs (λ one other. labels.agents one ≢ labels.agents other) leaf.singles
  pub each : All (IsNamed scope constraints leaf list.unit labels) leaf.singles
  pub floors : (agent : ℕ) → Contains scope.agents agent → IsFloor scope leaf list.unit labels agent
  pub each_group : All (IsGroup scope constraints leaf list.unit labels) leaf.groups
  pub apart : AllPairs (ShareNoAgent labels) leaf.groups

-- some agent's lower bound is infinite, or what some lemma in a group counts
abbrev pub IsInfinite : Scope → LeafUses → LeafLabels → Type 0
IsInfinite scope leaf labels =
    ((agent : ℕ) × Contains scope.agents agent × (labels.floor agent ≡ Never))
    ⊎ ((group : Group) × (used : Use) × Contains leaf.groups group × Contains group.uses used
    × (labels.counted used.lemma ≡ Never))

-- the bound of a leaf in which all is finite
abbrev pub leaf_bound : Scope → LeafUses → PriceList → LeafLabels → ℕ
leaf_bound scope leaf list labels =
    divided ((sum_by (λ agent. ticks_of (labels.floor agent)) scope.agents + sum_by (added labels) leaf.groups)
    - total_price list.prices) list.unit

-- the leaf shows that the agents of the scope cost at least this together
abbrev pub LeafShows : Scope → (ℕ → List PathConstraint) → LeafUses → Label → Type 0
LeafShows scope constraints leaf target =
    (list : PriceList) × (labels : LeafLabels) × IsProperLeaf scope constraints leaf list labels
    × (IsInfinite scope leaf labels ⊎ IsAtMost target (Ticks (leaf_bound scope leaf list labels)))
