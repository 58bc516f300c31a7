-- What a lemma says. (Own)
use Rattle.std.specs.Prelude.{◌≡◌, ℕ, List, [], ◌∷◌, Option, None, Some, Contains, sum_by, slice_get, slice_index}
use Rattle.std.specs.Prelude.{slice_index_or, ◌≤◌, ◌==◌, if◌then◌else◌}
use Rattle.mapf_lemmas.specs.declared.constraint.PathConstraint.{PathConstraint}
use Rattle.mapf_lemmas.specs.declared.constraint.PathConstraint.TheVariants.{NotAt, NotMove, Clear, Most, Least}
use Rattle.mapf_lemmas.specs.declared.constraint.AgentConstraint.{AgentConstraint}
use Rattle.mapf_lemmas.specs.Constraints.{SatisfiesAll}
use Rattle.mapf_lemmas.specs.Prices.{PriceList, no_list, priced_cost}
use Rattle.mapf_model.specs.declared.label.Label.{Label}
use Rattle.mapf_model.specs.declared.label.Label.TheVariants.{Ticks}
use Rattle.mapf_model.specs.Labels.{IsAtMost}
use Rattle.mapf_model.specs.Plan.{Instance, IsValid, AreCosts}

-- the statement of a lemma: in every valid plan whose paths satisfy the constraints the priced costs of the agents, by
-- the price list of this number or without a list, add up to at least the bound; an infinite bound says that there is
-- no such plan
pub record Statement : Type 0 where
  pub agents : List ℕ
  pub constraints : List AgentConstraint
  pub list_number : Option ℕ
  pub bound : Label

-- the list of this number, or no list
abbrev pub IsListOf : List PriceList → Option ℕ → PriceList → Type 0
IsListOf lists None list = list ≡ no_list
IsListOf lists (Some number) list = slice_get lists number ≡ Some list

-- the priced cost of the agent's path
abbrev pub priced_cost_of : PriceList → List (List ℕ) → List ℕ → ℕ → ℕ
priced_cost_of list plan costs agent = priced_cost list (slice_index_or plan agent []) (slice_index costs agent)

-- the paths, of these costs, satisfy the constraints of each agent
abbrev pub AllSatisfy : List (List ℕ) → List ℕ → (ℕ → List PathConstraint) → Type 0
AllSatisfy plan costs constraints =
    (agent cost : ℕ) (path : List ℕ) → slice_get plan agent ≡ Some path → slice_get costs agent ≡ Some cost →
    SatisfiesAll path cost (constraints agent)

-- of a list of constraints, those of this agent
abbrev pub constraints_of : List AgentConstraint → ℕ → List PathConstraint
constraints_of [] agent = []
constraints_of (listed ∷ constraints) agent =
    if listed.agent == agent then listed.constraint ∷ constraints_of constraints agent
    else constraints_of constraints agent

-- a valid plan with the costs of its paths
pub record IsCosted (problem : Instance) (plan : List (List ℕ)) (costs : List ℕ) : Type 0 where
  pub valid : IsValid problem plan
  pub are_costs : AreCosts problem.agents plan costs

-- what the statement says is true
abbrev pub StatementHolds : Instance → List PriceList → Statement → Type 0
StatementHolds problem lists statement =
    (plan : List (List ℕ)) (costs : List ℕ) (list : PriceList) → IsCosted problem plan costs →
    AllSatisfy plan costs (constraints_of statement.constraints) → IsListOf lists statement.list_number list →
    IsAtMost statement.bound (Ticks (sum_by (priced_cost_of list plan costs) statement.agents))

-- a constraint that meets another, so that a path which satisfies it satisfies the other: it is the same, or a greater
-- `Least`, a smaller `Most`, an earlier `Clear` of the cell, or for `NotAt` a `Clear` of the cell from that tick or an
-- earlier one on
abbrev pub Meets : PathConstraint → PathConstraint → Type 0
Meets (NotAt there now) (NotAt cell tick) = (there ≡ cell) × (now ≡ tick)
Meets (Clear there from) (NotAt cell tick) = (there ≡ cell) × (from ≤ tick)
Meets (NotMove a b now) (NotMove from to tick) = (a ≡ from) × (b ≡ to) × (now ≡ tick)
Meets (Clear there from) (Clear cell tick) = (there ≡ cell) × (from ≤ tick)
Meets (Most less) (Most ticks) = less ≤ ticks
Meets (Least more) (Least ticks) = ticks ≤ more
Meets one other = ⊥

-- some of the constraints meets it
abbrev pub IsMet : List PathConstraint → PathConstraint → Type 0
IsMet constraints needed =
    (constraint : PathConstraint) × Contains constraints constraint × Meets constraint needed
