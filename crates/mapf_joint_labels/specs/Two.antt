-- What a lemma of two agents shows.
use Rattle.std.specs.Prelude.{◌≡◌, ◌≢◌, ℕ, ◌+◌, List, [], ◌∷◌, Option, Some, All, slice_get}
use Rattle.mapf_lemmas.specs.declared.constraint.AgentConstraint.{AgentConstraint}
use Rattle.mapf_lemmas.specs.declared.joint.JointState.TheVariants.{Both}
use Rattle.mapf_lemmas.specs.JointLabels.{AreFreeCells, IsJointLabel}
use Rattle.mapf_lemmas.specs.Lemmas.{AreConstraintsOn, TwoShow}
use Rattle.mapf_lemmas.specs.Prices.{PriceList, cell_price}
use Rattle.mapf_lemmas.specs.SingleLabels.{AreSound}
use Rattle.mapf_lemmas.specs.Statements.{Statement, IsListOf, constraints_of}
use Rattle.mapf_model.specs.declared.label.Label.{Label}
use Rattle.mapf_model.specs.declared.label.Label.TheVariants.{Ticks}
use Rattle.mapf_model.specs.Labels.{entries_of, label_plus}
use Rattle.mapf_model.specs.Plan.{Instance}
use Rattle.mapf_single_labels.specs.Tasks.{IsUnsoundAt as IsSingleUnsoundAt}
use Rattle.mapf_joint_labels.specs.declared.pair.Pair.{Pair}
use Rattle.mapf_joint_labels.specs.declared.two.TwoFault.{TwoFault}
use Rattle.mapf_joint_labels.specs.declared.two.TwoFault.TheVariants.{First, Second, Joint}
use Rattle.mapf_joint_labels.specs.Pairs.{IsUnsoundAt, lists_of, task_of}

-- a lemma of the agents i and j of the problem, which differ, under constraints on the grid, with the price list of
-- this number
pub record IsPairOf (problem : Instance) (lists : List PriceList) (i j : ℕ) (constraints : List AgentConstraint)
    (list_number : Option ℕ) (pair : Pair) : Type 0 where
  pub differ : i ≢ j
  pub grid : pair.first_task.now.grid ≡ problem.grid
  pub is_list : IsListOf lists list_number pair.first_task.now.list
  pub is_first : slice_get problem.agents i ≡ Some pair.first_task.now.agent
  pub is_second : slice_get problem.agents j ≡ Some pair.second_task.now.agent
  pub first_constraints : pair.first_task.now.constraints ≡ constraints_of constraints i
  pub second_constraints : pair.second_task.now.constraints ≡ constraints_of constraints j
  pub on_grid : AreConstraintsOn problem.grid constraints

-- its statement with this bound
abbrev pub statement_of_two : ℕ → ℕ → List AgentConstraint → Option ℕ → Label → Statement
statement_of_two i j constraints list_number bound =
    record { agents = i ∷ j ∷ []; constraints = constraints; list_number = list_number; bound = bound }

-- the label of both starts at tick 0
abbrev pub IsStartLabel : Pair → Label → Type 0
IsStartLabel pair label =
    IsJointLabel (task_of pair) (lists_of pair)
    (Both pair.first_task.now.agent.start pair.second_task.now.agent.start) 0 label

-- what both starts cost at tick 0
abbrev pub start_price : Pair → ℕ
start_price pair =
    cell_price pair.first_task.now.list.prices pair.first_task.now.agent.start 0
    + cell_price pair.first_task.now.list.prices pair.second_task.now.agent.start 0

-- the sum of the label and the prices of both starts
abbrev pub IsStartBound : Pair → Label → Type 0
IsStartBound pair bound =
    (label : Label) × IsStartLabel pair label × (bound ≡ label_plus (Ticks (start_price pair)) label)

-- the lemma of these two agents has the statement with this bound
abbrev pub ShowsBound : Pair → Label → Type 0
ShowsBound pair bound =
    (problem : Instance) (lists : List PriceList) (i j : ℕ) (constraints : List AgentConstraint)
    (list_number : Option ℕ) → IsPairOf problem lists i j constraints list_number pair →
    All (λ entry. AreFreeCells problem.grid entry.state) pair.joint.now
    × TwoShow problem lists i j constraints list_number (lists_of pair)
    (statement_of_two i j constraints list_number bound)

-- the entries of the first agent are sound, and those of the second one
abbrev pub AreFirstSound : Pair → Type 0
AreFirstSound pair = AreSound pair.first_task.now (entries_of pair.first.now)

abbrev pub AreSecondSound : Pair → Type 0
AreSecondSound pair = AreSound pair.second_task.now (entries_of pair.second.now)

-- which entry is the first that isn't sound; those of the kinds before it are
abbrev pub IsTwoFault : Pair → TwoFault → Type 0
IsTwoFault pair (First place) = IsSingleUnsoundAt pair.first_task.now pair.first.now place
IsTwoFault pair (Second place) =
    AreFirstSound pair × IsSingleUnsoundAt pair.second_task.now pair.second.now place
IsTwoFault pair (Joint place) = AreFirstSound pair × AreSecondSound pair × IsUnsoundAt pair place

-- the lemma of these two agents has no statement
abbrev pub ShowsNothing : Pair → Type 0
ShowsNothing pair =
    (problem : Instance) (lists : List PriceList) (i j : ℕ) (constraints : List AgentConstraint)
    (list_number : Option ℕ) (statement : Statement) → IsPairOf problem lists i j constraints list_number pair →
    All (λ entry. AreFreeCells problem.grid entry.state) pair.joint.now →
    TwoShow problem lists i j constraints list_number (lists_of pair) statement → ⊥
