-- What a lemma of one agent by labels shows.
use Rattle.std.proofs.Common.{◌≡◌, ℕ, ◌+◌, ◌≤◌, List, [], ◌∷◌, Option, Some, None, All, slice_get, refl, sym, ◌∙◌, ap, subst, arith}
use Rattle.mapf_cases.specs.Ranges.{greatest_bound}
use Rattle.mapf_lemmas.specs.Constraints.{IsConstraintOn}
use Rattle.mapf_lemmas.specs.declared.constraint.AgentConstraint.{AgentConstraint}
use Rattle.mapf_lemmas.specs.declared.constraint.PathConstraint.{PathConstraint}
use Rattle.mapf_lemmas.specs.Groups.{ticks_of}
use Rattle.mapf_lemmas.specs.Lemmas.{AreConstraintsOn, OneShows}
use Rattle.mapf_lemmas.specs.Prices.{PriceList, cell_price, no_list}
use Rattle.mapf_lemmas.specs.SingleLabels.{Task}
use Rattle.mapf_lemmas.specs.Statements.{Statement, IsListOf, constraints_of}
use Rattle.mapf_lemma_checker.specs.LemmaParts.{AreCellPricesSmall, HasStatement, HasNoStatement, IsAgentTask, IsSmallBound, one_of, one_statement}
use Rattle.mapf_lemma_checker.proofs.PartLists.{all_on_grid, own_constraints, own_on_grid}
use Rattle.mapf_lemma_texts.specs.declared.sizes.LineSizes.{LineSizes}
use Rattle.mapf_lemma_texts.specs.Parts.{AreConstraints}
use Rattle.mapf_lemma_texts.specs.PartValues.{OneValue}
use Rattle.mapf_model.specs.declared.label.Label.{Label}
use Rattle.mapf_model.specs.declared.label.Label.TheVariants.{Ticks, Never}
use Rattle.mapf_model.specs.Plan.{Instance}
use Rattle.mapf_single_labels.specs.Ranges.{IsLabelUpTo, greatest_entry_label, greatest_label}
use Rattle.mapf_single_labels.specs.Tasks.{IsTaskOf, ShowsBound, ShowsNothing, start_price, statement_of_one}

-- a label of at most so many units
pub ticks_up_to : (label : Label) (m n : ℕ) → IsLabelUpTo m label → m ≤ n → ticks_of label ≤ n
ticks_up_to (Ticks k) m n few less = omega arith
ticks_up_to Never m n few less = omega arith

-- nothing has a price without a list
pub no_price : (list : PriceList) (cell tick : ℕ) → list ≡ no_list → cell_price list.prices cell tick ≡ 0
no_price list cell tick is = ap (λ (l : PriceList). cell_price l.prices cell tick) is

-- the bound is small: with a list by the price and the label of the start, else by the label alone
pub one_small : (number : Option ℕ) (task : Task) (bound : Label) → (number ≡ None → task.list ≡ no_list) →
    AreCellPricesSmall task.list → IsLabelUpTo (start_price task + greatest_label) bound →
    (task.list.unit ≡ 1 → IsLabelUpTo (start_price task + greatest_entry_label) bound) → IsSmallBound number bound
one_small None task bound plain cheap small little =
    let is : task.list ≡ no_list = plain refl in
    let free : start_price task ≡ 0 = no_price task.list task.agent.start 0 is in
    ticks_up_to bound (start_price task + greatest_entry_label) (greatest_bound None)
    (little (ap (λ (l : PriceList). l.unit) is)) (omega (arith, free))
one_small (Some n) task bound plain cheap small little =
    let low : start_price task ≤ 9999999 = cheap task.agent.start 0 in
    ticks_up_to bound (start_price task + greatest_label) (greatest_bound (Some n)) small (omega (arith, low))

-- the task that is made for the lemma, of which the parts were looked up
pub agent_task : (problem : Instance) (prices : PriceList) (v parts : OneValue) (task : Task) (own : List PathConstraint)
    (listed : List AgentConstraint) → parts ≡ v → task.grid ≡ problem.grid →
    slice_get problem.agents parts.agent ≡ Some task.agent → task.list ≡ prices → task.constraints ≡ own →
    own ≡ constraints_of listed parts.agent → listed ≡ parts.constraints →
    IsAgentTask problem prices (constraints_of v.constraints v.agent) v.agent task
agent_task problem prices v parts task own listed is grid agent list mine of_agent all =
    subst (λ (w : OneValue). IsAgentTask problem prices (constraints_of w.constraints w.agent) w.agent task) is (record {
      grid_is = grid;
      agent_is = agent;
      list_is = list;
      constraints_are = mine ∙ of_agent ∙ ap (λ (cs : List AgentConstraint). constraints_of cs parts.agent) all;
    })

-- its statement with these constraints
abbrev statement_by : OneValue → List AgentConstraint → Label → Statement
statement_by v constraints bound =
    record { agents = v.agent ∷ []; constraints = constraints; list_number = v.list_number; bound = bound }

module _ (problem : Instance) (prices : PriceList) (v : OneValue) (sizes : LineSizes)
    (own : AreConstraints sizes (v.agent ∷ []) v.constraints) where
  -- constraints that aren't on the grid show nothing
  pub one_off_grid : (AreConstraintsOn problem.grid v.constraints → ⊥) → HasNoStatement problem prices (one_of v) v.list_number
  one_off_grid off lists known statement is_list shows = off (all_on_grid v.agent sizes v.constraints own problem.grid shows.on_grid)

  module _ (task : Task) (is : IsAgentTask problem prices (constraints_of v.constraints v.agent) v.agent task) where
    task_of : (lists : List PriceList) → IsListOf lists v.list_number prices → IsTaskOf problem lists v.agent v.list_number task
    task_of lists is_list = record {
      grid = is.grid_is;
      is_agent = is.agent_is;
      is_list = subst (IsListOf lists v.list_number) (sym is.list_is) is_list;
    }

    -- sound labels show the statement
    pub one_has : (bound : Label) → AreConstraintsOn problem.grid v.constraints → ShowsBound task v.entries bound →
        HasStatement problem prices (one_of v) v.list_number (one_statement v bound)
    one_has bound on_grid shown lists known is_list =
        let mine = own_on_grid v.agent sizes v.constraints own problem.grid on_grid in
        let shows = shown problem lists v.agent v.list_number (task_of lists is_list)
        (subst (All (IsConstraintOn problem.grid)) (sym is.constraints_are) mine) in
        let of_these = subst (λ (cs : List PathConstraint). OneShows problem lists v.agent cs v.list_number v.entries (statement_of_one v.agent cs v.list_number bound))
        is.constraints_are shows in
        subst (λ (cs : List AgentConstraint). OneShows problem lists v.agent (constraints_of v.constraints v.agent) v.list_number v.entries (statement_by v cs bound))
        (own_constraints v.agent sizes v.constraints own) of_these

    -- others show none
    pub one_has_none : ShowsNothing task v.entries → HasNoStatement problem prices (one_of v) v.list_number
    one_has_none nothing lists known statement is_list shows =
        nothing problem lists v.agent v.list_number statement (task_of lists is_list)
        (subst (λ (cs : List PathConstraint). OneShows problem lists v.agent cs v.list_number v.entries statement) (sym is.constraints_are) shows)
