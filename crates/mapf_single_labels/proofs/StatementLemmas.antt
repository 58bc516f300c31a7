-- The statement of a lemma of one agent.
use Rattle.std.proofs.Common.{◌≡◌, ℕ, List, Option, Some, None, sym, ◌∙◌, ap, subst}
use Rattle.std.proofs.lemmas.Option.{same_Some}
use Rattle.std.specs.Prelude.{AllPairs}
use Rattle.mapf_lemmas.specs.Prices.{PriceList}
use Rattle.mapf_lemmas.specs.SingleLabels.{Task, IsSingleLabel, AreSound}
use Rattle.mapf_lemmas.specs.Statements.{IsListOf}
use Rattle.mapf_model.specs.declared.label.Entry.{Entry}
use Rattle.mapf_model.specs.declared.label.Label.{Label}
use Rattle.mapf_model.specs.declared.problem.Agent.{Agent}
use Rattle.mapf_model.specs.Grid.{GridMap}
use Rattle.mapf_model.specs.Labels.{entries_of}
use Rattle.mapf_model.specs.Printed.{IsBefore}
use Rattle.mapf_single_labels.specs.Tasks.{IsStartBound, IsUnsoundAt, ShowsBound, ShowsNothing, statement_of_one}
use Rattle.mapf_single_labels.proofs.EntryLemmas.{IsSoundAmong-at}

same_list : (lists : List PriceList) (number : Option ℕ) (one other : PriceList) → IsListOf lists number one → IsListOf lists number other → one ≡ other
same_list lists None one other p q = p ∙ sym q
same_list lists (Some n) one other p q = same_Some one other (sym p ∙ q)

-- the task on this grid, with this list and this agent
abbrev on : Task → GridMap → PriceList → Agent → Task
on task grid list a = record { grid = grid; list = list; agent = a; constraints = task.constraints }

module _ (task : Task) (entries : List Entry) where
  pub shows_bound : (bound : Label) → AreSound task (entries_of entries) → IsStartBound task entries bound → ShowsBound task entries bound
  shows_bound bound sound (label, is_label, is_bound) problem lists agent number is on_grid = record {
    list = task.list;
    a = task.agent;
    label = label;
    is_list = is.is_list;
    is_agent = is.is_agent;
    on_grid = on_grid;
    sound = subst (λ grid. AreSound (on task grid task.list task.agent) (entries_of entries)) is.grid sound;
    is_label = subst (λ grid. IsSingleLabel (on task grid task.list task.agent) (entries_of entries) task.agent.start 0 label) is.grid is_label;
    is_statement = ap (statement_of_one agent task.constraints number) is_bound;
  }

  pub shows_nothing : AllPairs IsBefore entries → (place : ℕ) → IsUnsoundAt task entries place → ShowsNothing task entries
  shows_nothing rising place bad problem lists agent number statement is shows =
      let lists_same = same_list lists number shows.list task.list shows.is_list is.is_list in
      let agents_same = same_Some shows.a task.agent (sym shows.is_agent ∙ is.is_agent) in
      let first = subst (λ (list : PriceList). AreSound (on task problem.grid list shows.a) (entries_of entries)) lists_same shows.sound in
      let second = subst (λ (a : Agent). AreSound (on task problem.grid task.list a) (entries_of entries)) agents_same first in
      let third = subst (λ (grid : GridMap). AreSound (on task grid task.list task.agent) (entries_of entries)) (sym is.grid) second in
      bad.unsound (IsSoundAmong-at task entries rising place bad.entry bad.is_entry third)
