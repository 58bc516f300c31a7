use Rattle.std.proofs.Common.{◌≡◌, ◌≢◌, ◌∙◌, ap, sym, subst, arith}
use Rattle.mapf_distance.specs.Tables.{HasTable}
use Rattle.mapf_lemmas.specs.Lemmas.{AreConstraintsOn}
use Rattle.mapf_lemma_checker.specs.Faults.{IsRefusedFor}
use Rattle.mapf_lemma_checker.specs.LemmaParts.{AreCellPricesSmall, HasNoStatement, two_of}
use Rattle.mapf_lemma_checker.proofs.RefusalLemmas.{refused_through}
use Rattle.mapf_lemma_checker.proofs.TwoLemmas.{have_room, is_pair, pair_for, two_has, two_has_none, two_off_grid, two_same, two_small}
use Rattle.mapf_lemma_texts.specs.PartValues.{TwoValue}
use Rattle.mapf_lemma_checker.proofs.label_judge.LabelJudge.two.Goals as goal

pub returns-in_err-judge_agents-clause-refused : goal.returns-in_err-judge_agents-clause-refused
returns-in_err-judge_agents-clause-refused c =
    let v = c.args.lemma.now in
    refused_through (c.lemma.inside.i ≡ c.lemma.inside.j) (HasNoStatement c.args.problem.now c.args.prices.now (two_of v) v.list_number)
    (λ same. two_same c.args.problem.now c.args.prices.now v (subst (λ (w : TwoValue). w.i ≡ w.j) c.lemma.view_is same))
    c.from_residual.result c.in_err-judge_agents.field-0.0 c.from_residual.ensures.1 c.in_err-judge_agents.ensures.refused

pub returns-in_err-judge_constraints-clause-refused : goal.returns-in_err-judge_constraints-clause-refused
returns-in_err-judge_constraints-clause-refused c =
    let problem = c.args.problem.now in
    let v = c.args.lemma.now in
    let listed = c.deref.ensures.value ∙ ap (λ (w : TwoValue). w.constraints) c.lemma.view_is in
    refused_through (AreConstraintsOn c.grid.result.now c.deref.result.now → ⊥) (HasNoStatement problem c.args.prices.now (two_of v) v.list_number)
    (λ off. two_off_grid problem c.args.prices.now v
    (λ on. off (subst (λ g. AreConstraintsOn g c.deref.result.now) (sym c.grid.ensures) (subst (AreConstraintsOn problem.grid) (sym listed) on))))
    c.from_residual-in_err-judge_constraints.result c.in_err-judge_constraints.field-0.0 c.from_residual-in_err-judge_constraints.ensures.1 c.in_err-judge_constraints.ensures.refused

pub make-requires-clause-known : goal.make-requires-clause-known
make-requires-clause-known c =
    let (lists, part) = c.requires.part in
    let agent = ap (λ (w : TwoValue). w.i) c.lemma.view_is in
    omega (arith, agent, part.in_range.0.0, part.of_problem.agents_are)

pub make-requires-2-clause-known : goal.make-requires-2-clause-known
make-requires-2-clause-known c =
    let (lists, part) = c.requires.part in
    let agent = ap (λ (w : TwoValue). w.j) c.lemma.view_is in
    omega (arith, agent, part.in_range.0.1, part.of_problem.agents_are)

pub tasks_of-one-requires-clause-first : goal.tasks_of-one-requires-clause-first
tasks_of-one-requires-clause-first c =
    subst (λ (w : TwoValue). HasTable c.make-2.new.self w.i) c.lemma.view_is
    (c.in_ok-make-2.ensures.kept c.lemma.inside.i c.in_ok-make.ensures.made)

pub judge_two-requires-clause-pair : goal.judge_two-requires-clause-pair
judge_two-requires-clause-pair c =
    let (lists, part) = c.requires.part in
    let problem = c.args.problem.now in
    let v = c.args.lemma.now in
    is_pair problem c.args.prices.now v _ (pair_for problem c.args.prices.now v _ _ c.in_ok-own.own c.in_ok-other.other c.deref-2.result.now c.deref-3.result.now c.lemma.view_is c.tasks_of-one.ensures.first c.tasks_of-one.ensures.second
    c.in_ok-own.ensures c.in_ok-other.ensures c.deref-2.ensures.value c.deref-3.ensures.value c.deref-4.ensures.value c.deref-5.ensures.value c.deref-6.ensures.value) part.sizes part.in_range.1.1 part.in_range.1.2 part.in_range.1.3

pub judge_two-requires-clause-room : goal.judge_two-requires-clause-room
judge_two-requires-clause-room c =
    let (lists, part) = c.requires.part in
    let problem = c.args.problem.now in
    let v = c.args.lemma.now in
    have_room problem c.args.prices.now v _ (pair_for problem c.args.prices.now v _ _ c.in_ok-own.own c.in_ok-other.other c.deref-2.result.now c.deref-3.result.now c.lemma.view_is c.tasks_of-one.ensures.first c.tasks_of-one.ensures.second
    c.in_ok-own.ensures c.in_ok-other.ensures c.deref-2.ensures.value c.deref-3.ensures.value c.deref-4.ensures.value c.deref-5.ensures.value c.deref-6.ensures.value) part.sizes part.of_problem part.in_range.1.1 part.in_range.1.2 _ c.cell_count.result c.cell_count.ensures.value c.cell_count.ensures.free
    c.in_ok-make-3.ensures.first c.in_ok-make-3.ensures.second c.in_ok-make-3.ensures.joint

pub returns-in-Ok-clause-shown : goal.returns-in-Ok-clause-shown
returns-in-Ok-clause-shown c =
    let (lists, part) = c.requires.part in
    let problem = c.args.problem.now in
    let v = c.args.lemma.now in
    let on_grid = subst (λ g. AreConstraintsOn g v.constraints) c.grid.ensures (subst (AreConstraintsOn c.grid.result.now) (c.deref.ensures.value ∙ ap (λ (w : TwoValue). w.constraints) c.lemma.view_is) c.in_ok-judge_constraints.ensures.ok) in
    let differ = subst (λ (w : TwoValue). w.i ≢ w.j) c.lemma.view_is c.in_ok-judge_agents.ensures.differ in
    two_has problem c.args.prices.now v _ (pair_for problem c.args.prices.now v _ _ c.in_ok-own.own c.in_ok-other.other c.deref-2.result.now c.deref-3.result.now c.lemma.view_is c.tasks_of-one.ensures.first c.tasks_of-one.ensures.second
    c.in_ok-own.ensures c.in_ok-other.ensures c.deref-2.ensures.value c.deref-3.ensures.value c.deref-4.ensures.value c.deref-5.ensures.value c.deref-6.ensures.value) c.in-Ok.bound c.in-Ok.ensures.shown differ on_grid

pub returns-in-Ok-clause-small : goal.returns-in-Ok-clause-small
returns-in-Ok-clause-small c =
    two_small c.args.lemma.now.list_number c.tasks_of-one.result.0.list c.tasks_of-one.result.0.agent.start c.tasks_of-one.result.1.agent.start c.in-Ok.bound (λ none. c.tasks_of-one.ensures.first.list_is ∙ c.requires.plain none)
    (subst AreCellPricesSmall (sym c.tasks_of-one.ensures.first.list_is) c.requires.prices) c.in-Ok.ensures.small c.in-Ok.ensures.plain

pub returns-clause-refused : goal.returns-clause-refused
returns-clause-refused c =
    let (lists, part) = c.requires.part in
    let problem = c.args.problem.now in
    let v = c.args.lemma.now in
    let on_grid = subst (λ g. AreConstraintsOn g v.constraints) c.grid.ensures (subst (AreConstraintsOn c.grid.result.now) (c.deref.ensures.value ∙ ap (λ (w : TwoValue). w.constraints) c.lemma.view_is) c.in_ok-judge_constraints.ensures.ok) in
    let differ = subst (λ (w : TwoValue). w.i ≢ w.j) c.lemma.view_is c.in_ok-judge_agents.ensures.differ in
    subst (IsRefusedFor (HasNoStatement problem c.args.prices.now (two_of v) v.list_number)) (sym c.unsound.ensures)
    (two_has_none problem c.args.prices.now v _ (pair_for problem c.args.prices.now v _ _ c.in_ok-own.own c.in_ok-other.other c.deref-2.result.now c.deref-3.result.now c.lemma.view_is c.tasks_of-one.ensures.first c.tasks_of-one.ensures.second
    c.in_ok-own.ensures c.in_ok-other.ensures c.deref-2.ensures.value c.deref-3.ensures.value c.deref-4.ensures.value c.deref-5.ensures.value c.deref-6.ensures.value) c.in-Err.ensures.nothing differ on_grid)
