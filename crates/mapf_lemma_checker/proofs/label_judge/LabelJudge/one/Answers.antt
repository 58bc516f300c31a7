use Rattle.std.proofs.Common.{◌∙◌, List, ap, sym, subst, arith}
use Rattle.mapf_lemmas.specs.Lemmas.{AreConstraintsOn}
use Rattle.mapf_lemma_checker.specs.LemmaParts.{HasNoStatement, one_of}
use Rattle.mapf_lemma_checker.proofs.OneLemmas.{agent_task, one_has, one_has_none, one_off_grid, one_small}
use Rattle.mapf_lemma_checker.proofs.PartLists.{entries_in_range, entries_on_grid, entries_rise, same_cells}
use Rattle.mapf_lemma_checker.proofs.RefusalLemmas.{refused_through}
use Rattle.mapf_lemma_checker.specs.Faults.{IsRefusedFor}
use Rattle.mapf_lemma_checker.specs.LemmaParts.{AreCellPricesSmall}
use Rattle.mapf_lemma_texts.specs.Parts.{AreEntries}
use Rattle.mapf_lemma_texts.specs.PartValues.{OneValue}
use Rattle.mapf_model.specs.declared.label.Entry.{Entry}
use Rattle.mapf_single_labels.specs.Tasks.{ShowsBound, ShowsNothing}
use Rattle.mapf_lemma_checker.proofs.label_judge.LabelJudge.one.Goals as goal

pub returns-in_err-judge_constraints-clause-refused : goal.returns-in_err-judge_constraints-clause-refused
returns-in_err-judge_constraints-clause-refused c =
    let (lists, part) = c.requires.part in
    let problem = c.args.problem.now in
    let v = c.args.lemma.now in
    let listed = c.deref.ensures.value ∙ ap (λ (w : OneValue). w.constraints) c.lemma.view_is in
    refused_through (AreConstraintsOn c.grid.result.now c.deref.result.now → ⊥) (HasNoStatement problem c.args.prices.now (one_of v) v.list_number)
    (λ off. one_off_grid problem c.args.prices.now v part.sizes part.in_range.1.0
    (λ on. off (subst (λ g. AreConstraintsOn g c.deref.result.now) (sym c.grid.ensures) (subst (AreConstraintsOn problem.grid) (sym listed) on))))
    c.from_residual.result c.in_err-judge_constraints.field-0.0 c.from_residual.ensures.1 c.in_err-judge_constraints.ensures.refused

pub make-requires-clause-known : goal.make-requires-clause-known
make-requires-clause-known c =
    let (lists, part) = c.requires.part in
    let agent = ap (λ (w : OneValue). w.agent) c.lemma.view_is in
    omega (arith, agent, part.in_range.0.0, part.of_problem.agents_are)

pub judge_one-requires-clause-rising : goal.judge_one-requires-clause-rising
judge_one-requires-clause-rising c =
    let (lists, part) = c.requires.part in
    let listed = c.deref-3.ensures.value ∙ ap (λ (w : OneValue). w.entries) c.lemma.view_is in
    entries_rise part.sizes c.deref-3.result.now (subst (AreEntries part.sizes) (sym listed) part.in_range.1.1)

pub judge_one-requires-clause-range : goal.judge_one-requires-clause-range
judge_one-requires-clause-range c =
    let (lists, part) = c.requires.part in
    let listed = c.deref-3.ensures.value ∙ ap (λ (w : OneValue). w.entries) c.lemma.view_is in
    entries_in_range part.sizes c.deref-3.result.now (subst (AreEntries part.sizes) (sym listed) part.in_range.1.1)

pub judge_one-requires-clause-cells : goal.judge_one-requires-clause-cells
judge_one-requires-clause-cells c =
    let (lists, part) = c.requires.part in
    let listed = c.deref-3.ensures.value ∙ ap (λ (w : OneValue). w.entries) c.lemma.view_is in
    let all = same_cells c.args.problem.now part.sizes part.of_problem in
    entries_on_grid part.sizes c.deref-3.result.now (subst (AreEntries part.sizes) (sym listed) part.in_range.1.1) _ (omega (arith, all, c.cell_count.ensures.value, c.in_ok-make-2.ensures))

pub returns-in-Ok-clause-shown : goal.returns-in-Ok-clause-shown
returns-in-Ok-clause-shown c =
    let (lists, part) = c.requires.part in
    let problem = c.args.problem.now in
    let v = c.args.lemma.now in
    let all = c.deref.ensures.value ∙ ap (λ (w : OneValue). w.constraints) c.lemma.view_is in
    let entries = c.deref-3.ensures.value ∙ ap (λ (w : OneValue). w.entries) c.lemma.view_is in
    let on_grid = subst (λ g. AreConstraintsOn g v.constraints) c.grid.ensures (subst (AreConstraintsOn c.grid.result.now) all c.in_ok-judge_constraints.ensures.ok) in
    let task = agent_task problem c.args.prices.now v _ c.of_agent-task.result c.in_ok-own.own c.deref-2.result.now c.lemma.view_is c.of_agent-task.ensures.grid c.of_agent-task.ensures.agent c.of_agent-task.ensures.list
    c.of_agent-task.ensures.constraints c.in_ok-own.ensures c.deref-2.ensures.value in
    one_has problem c.args.prices.now v part.sizes part.in_range.1.0 c.of_agent-task.result task c.in-Ok.bound on_grid
    (subst (λ (es : List Entry). ShowsBound c.of_agent-task.result es c.in-Ok.bound) entries c.in-Ok.ensures.shown)

pub returns-in-Ok-clause-small : goal.returns-in-Ok-clause-small
returns-in-Ok-clause-small c =
    let number = ap (λ (w : OneValue). w.list_number) c.lemma.view_is in
    one_small c.args.lemma.now.list_number c.of_agent-task.result c.in-Ok.bound (λ none. c.of_agent-task.ensures.list ∙ c.requires.plain none)
    (subst AreCellPricesSmall (sym c.of_agent-task.ensures.list) c.requires.prices) c.in-Ok.ensures.small c.in-Ok.ensures.plain

pub returns-clause-refused : goal.returns-clause-refused
returns-clause-refused c =
    let (lists, part) = c.requires.part in
    let problem = c.args.problem.now in
    let v = c.args.lemma.now in
    let entries = c.deref-3.ensures.value ∙ ap (λ (w : OneValue). w.entries) c.lemma.view_is in
    let task = agent_task problem c.args.prices.now v _ c.of_agent-task.result c.in_ok-own.own c.deref-2.result.now c.lemma.view_is c.of_agent-task.ensures.grid c.of_agent-task.ensures.agent c.of_agent-task.ensures.list
    c.of_agent-task.ensures.constraints c.in_ok-own.ensures c.deref-2.ensures.value in
    subst (IsRefusedFor (HasNoStatement problem c.args.prices.now (one_of v) v.list_number)) (sym c.unsound.ensures)
    (one_has_none problem c.args.prices.now v part.sizes part.in_range.1.0 c.of_agent-task.result task
    (subst (ShowsNothing c.of_agent-task.result) entries c.in-Err.ensures.nothing))
