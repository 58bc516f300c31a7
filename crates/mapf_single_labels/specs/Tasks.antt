-- What the entries of one agent are judged by, and what a lemma of one agent shows.
use Rattle.std.specs.Prelude.{◌≡◌, ℕ, ◌+◌, ◌<◌, List, Option, Some, All, Contains, map, ◌∷◌, [], slice_get}
use Rattle.std.specs.Prelude.{slice_index_or}
use Rattle.mapf_lemmas.specs.declared.constraint.PathConstraint.{PathConstraint}
use Rattle.mapf_lemmas.specs.declared.constraint.PathConstraint.TheVariants.{Most}
use Rattle.mapf_lemmas.specs.Constraints.{IsConstraintOn}
use Rattle.mapf_lemmas.specs.Lemmas.{OneShows}
use Rattle.mapf_lemmas.specs.Prices.{PriceList, cell_price, rest_price}
use Rattle.mapf_lemmas.specs.SingleLabels.{Task, MayRest, MayStep, IsSingleLabel, IsAtMostAfter, IsSoundEntry}
use Rattle.mapf_lemmas.specs.SingleLabels.{step_price}
use Rattle.mapf_lemmas.specs.Statements.{Statement, IsListOf}
use Rattle.mapf_model.specs.declared.label.Entry.{Entry}
use Rattle.mapf_model.specs.declared.label.Label.{Label}
use Rattle.mapf_model.specs.declared.label.Label.TheVariants.{Ticks}
use Rattle.mapf_model.specs.Distance.{Walk}
use Rattle.mapf_model.specs.Labels.{entries_of, IsAtMost, label_plus}
use Rattle.mapf_model.specs.Plan.{Instance}

-- some constraint allows only smaller costs than an agent has that is in the cell at the tick
abbrev pub IsTooLate : Task → ℕ → ℕ → Type 0
IsTooLate task cell tick =
    (ticks : ℕ) × Contains task.constraints (Most ticks)
    × ((steps : ℕ) → Walk task.grid cell task.agent.goal steps → ticks < tick + steps)

-- the entry is sound in a lemma of these entries
abbrev pub IsSoundAmong : Task → List Entry → Entry → Type 0
IsSoundAmong task entries entry = IsSoundEntry task (entries_of entries) entry.cell entry.tick entry.label

-- if the agent may rest in the entry's state, its label is at most what rest costs
abbrev pub IsRestSound : Task → Entry → Type 0
IsRestSound task entry =
    MayRest task entry.cell entry.tick →
    IsAtMost entry.label (Ticks (rest_price task.list.prices entry.cell entry.tick))

-- if the agent may step to this cell, where this is the label, the label of the entry is at most the sum of what the
-- step costs and that label
abbrev pub IsConsistentWith : Task → Entry → ℕ → Label → Type 0
IsConsistentWith task entry next after =
    MayStep task entry.cell next entry.tick →
    IsAtMost entry.label (label_plus (Ticks (step_price task.list entry.cell next entry.tick)) after)

-- if the agent may step to this cell, the label of the entry is at most the sum of what the step costs and the label
-- after it
abbrev pub IsConsistentStep : Task → List Entry → Entry → ℕ → Type 0
IsConsistentStep task entries entry next =
    MayStep task entry.cell next entry.tick →
    IsAtMostAfter (IsSingleLabel task (entries_of entries) next (entry.tick + 1)) entry.label
    (step_price task.list entry.cell next entry.tick)

-- this holds for each cell
abbrev pub IsConsistent : Task → List Entry → Entry → Type 0
IsConsistent task entries entry = (next : ℕ) → IsConsistentStep task entries entry next

-- the label of the entry is sound if its state isn't barred
abbrev pub IsOpenSound : Task → List Entry → Entry → Type 0
IsOpenSound task entries entry = IsRestSound task entry × IsConsistent task entries entry

-- the entry at this index isn't sound, and those before it are
pub record IsUnsoundAt (task : Task) (entries : List Entry) (place : ℕ) : Type 0 where
  pub entry : Entry
  pub is_entry : slice_get entries place ≡ Some entry
  pub unsound : IsSoundAmong task entries entry → ⊥
  pub before : (k : ℕ) (d : Entry) → k < place → IsSoundAmong task entries (slice_index_or entries k d)

-- what the start costs at tick 0
abbrev pub start_price : Task → ℕ
start_price task = cell_price task.list.prices task.agent.start 0

-- the sum of the label and the price of the start
abbrev pub IsStartBound : Task → List Entry → Label → Type 0
IsStartBound task entries bound =
    (label : Label) × IsSingleLabel task (entries_of entries) task.agent.start 0 label
    × (bound ≡ label_plus (Ticks (start_price task)) label)

-- the statement of a lemma of one agent by labels
abbrev pub statement_of_one : ℕ → List PathConstraint → Option ℕ → Label → Statement
statement_of_one agent constraints list_number bound = record {
  agents = agent ∷ [];
  constraints = map (λ one. record { agent = agent; constraint = one }) constraints;
  list_number = list_number;
  bound = bound;
}

-- where a lemma of one agent is judged: the agent has this number in the problem, and the task's list is the one of the
-- lemma's number
pub record IsTaskOf (problem : Instance) (lists : List PriceList) (agent : ℕ) (list_number : Option ℕ) (task : Task) :
    Type 0 where
  pub grid : task.grid ≡ problem.grid
  pub is_agent : slice_get problem.agents agent ≡ Some task.agent
  pub is_list : IsListOf lists list_number task.list

-- the lemma of the agent of the task has the statement with this bound
abbrev pub ShowsBound : Task → List Entry → Label → Type 0
ShowsBound task entries bound =
    (problem : Instance) (lists : List PriceList) (agent : ℕ) (list_number : Option ℕ) →
    IsTaskOf problem lists agent list_number task → All (IsConstraintOn problem.grid) task.constraints →
    OneShows problem lists agent task.constraints list_number entries
    (statement_of_one agent task.constraints list_number bound)

-- the lemma of the agent of the task has no statement
abbrev pub ShowsNothing : Task → List Entry → Type 0
ShowsNothing task entries =
    (problem : Instance) (lists : List PriceList) (agent : ℕ) (list_number : Option ℕ) (statement : Statement) →
    IsTaskOf problem lists agent list_number task →
    OneShows problem lists agent task.constraints list_number entries statement → ⊥
