-- Which lemmas a leaf may name.
use Rattle.std.specs.Prelude.{◌≡◌, ◌≢◌, ◌⊎◌, ℕ, ◌+◌, ◌*◌, ◌<◌, ◌≤◌, ◌∷◌, ◌++◌, [], List, Option, Some, None, All}
use Rattle.std.specs.Prelude.{AllPairs, Contains, length, slice_get, slice_index_or, sum_by, take}
use Rattle.mapf_cases.specs.Floors.{agents_of, counted_of}
use Rattle.mapf_cases.specs.Standing.{constraints_after}
use Rattle.mapf_cases.specs.declared.known.LeafProblem.{LeafProblem}
use Rattle.mapf_cases.specs.declared.singles.Single.{Single}
use Rattle.mapf_lemmas.specs.declared.constraint.PathConstraint.{PathConstraint}
use Rattle.mapf_lemmas.specs.Groups.{Group, occurrences}
use Rattle.mapf_lemmas.specs.Statements.{Statement, IsMet, constraints_of}

-- where a leaf stands: the lemmas before its tree, the agents of its scope, and the constraints of each agent
pub record LeafPlace : Type 0 where
  pub known : List Statement
  pub agents : List ℕ
  pub constraints : ℕ → List PathConstraint

-- where the leaf stands that is judged
abbrev pub place_of : LeafProblem → LeafPlace
place_of leaf = record {
  known = leaf.known.now;
  agents = leaf.agents.now;
  constraints = constraints_after leaf.standing.now;
}

-- a leaf with the price list of this number, or without one, may use the lemma with this number: it has the statement,
-- its agents are of the scope, what it needs stands, and it has the same list or none
pub record IsUsable (place : LeafPlace) (list_number : Option ℕ) (lemma : ℕ) (statement : Statement) : Type 0 where
  pub named : slice_get place.known lemma ≡ Some statement
  pub inside : All (Contains place.agents) statement.agents
  pub met : (agent : ℕ) (needed : PathConstraint) → Contains (constraints_of statement.constraints agent) needed →
      IsMet (place.constraints agent) needed
  pub fits : (statement.list_number ≡ list_number) ⊎ (statement.list_number ≡ None)

-- it may use the lemma
abbrev pub MayUse : LeafPlace → Option ℕ → ℕ → Type 0
MayUse place list_number lemma = (statement : Statement) × IsUsable place list_number lemma statement

-- it may use the lemma outside groups, for this agent
pub record IsSingle (place : LeafPlace) (list_number : Option ℕ) (unit lemma : ℕ) (single : Single) : Type 0 where
  pub usable : MayUse place list_number lemma
  pub alone : agents_of place.known lemma ≡ single.agent ∷ []
  pub inside : Contains place.agents single.agent
  pub counted : single.counted ≡ counted_of place.known unit lemma

-- it mustn't use the lemma outside groups: it mustn't use it at all, or the lemma isn't of one agent
abbrev pub IsBadAlone : LeafPlace → Option ℕ → ℕ → Type 0
IsBadAlone place list_number lemma =
    MayUse place list_number lemma → (agent : ℕ) → agents_of place.known lemma ≢ agent ∷ []

-- what rule 8 asks of the lemmas that are used outside groups
pub record AreSingles (place : LeafPlace) (list_number : Option ℕ) (singles : List ℕ) : Type 0 where
  pub usable : All (MayUse place list_number) singles
  pub alone : All (λ lemma. (agent : ℕ) × (agents_of place.known lemma ≡ agent ∷ [])) singles
  pub different : AllPairs (λ one other. agents_of place.known one ≢ agents_of place.known other) singles

-- the lemma at this index is the first that mustn't be used outside groups
pub record IsFirstBadSingle (place : LeafPlace) (list_number : Option ℕ) (singles : List ℕ) (k : ℕ) : Type 0 where
  pub within : k < length singles
  pub before : AreSingles place list_number (take k singles)
  pub bad : AreSingles place list_number (take (k + 1) singles) → ⊥

-- the sum of the weights of the group's uses whose lemmas have the agent
abbrev pub weight_on : List Statement → Group → ℕ → ℕ
weight_on known group agent =
    sum_by (λ used. used.weight * occurrences agent (agents_of known used.lemma)) group.uses

-- what rule 8 asks of a group by itself
pub record IsGroupAllowed (place : LeafPlace) (list_number : Option ℕ) (group : Group) : Type 0 where
  pub usable : All (λ used. MayUse place list_number used.lemma) group.uses
  pub balanced : (agent : ℕ) → weight_on place.known group agent ≤ group.divisor

-- no agent is in both groups
abbrev pub AreApart : List Statement → Group → Group → Type 0
AreApart known one other = (agent : ℕ) → (weight_on known one agent ≡ 0) ⊎ (weight_on known other agent ≡ 0)

-- what rule 8 asks of the groups
pub record AreGroups (place : LeafPlace) (list_number : Option ℕ) (groups : List Group) : Type 0 where
  pub each : All (IsGroupAllowed place list_number) groups
  pub apart : AllPairs (AreApart place.known) groups

-- what stands in for the group of a number that no group has
abbrev pub no_group : Group
no_group = record { divisor = 1; uses = [] }

-- the weight of the agent in the group with this number
abbrev pub weight_at : List Statement → List Group → ℕ → ℕ → ℕ
weight_at known groups k agent = weight_on known (slice_index_or groups k no_group) agent

-- a group with the first of its uses
abbrev pub cut_group : ℕ → Group → Group
cut_group count group = record { divisor = group.divisor; uses = take count group.uses }

-- the first groups, and then the group after them with the first of its uses
abbrev pub cut_groups : List Group → ℕ → ℕ → List Group
cut_groups groups whole count = take whole groups ++ cut_group count (slice_index_or groups whole no_group) ∷ []

-- the use at this index of the group at that index is the first that isn't allowed
pub record IsFirstBadUse (place : LeafPlace) (list_number : Option ℕ) (groups : List Group) (group k : ℕ)
    : Type 0 where
  pub within : group < length groups
  pub inside : k < length (slice_index_or groups group no_group).uses
  pub before : AreGroups place list_number (cut_groups groups group k)
  pub bad : AreGroups place list_number (cut_groups groups group (k + 1)) → ⊥
