use native.Mathlib.Omega.{arith}
use Rattle.std.proofs.Common.{◌≡◌, ◌≢◌, ◌∙◌, ap, refl, sym, subst, None, Some, AllPairs, slice_get}
use Rattle.std.proofs.lemmas.Bool.{true≢false}
use Rattle.mapf_lemmas.specs.JointCells.{IsClosed}
use Rattle.mapf_lemmas.specs.Prices.{no_list}
use Rattle.mapf_lemma_checker.specs.Faults.{IsRefusedFor}
use Rattle.mapf_lemma_checker.specs.LemmaParts.{HasNoStatement, never_of}
use Rattle.mapf_lemma_texts.specs.PartValues.{NeverValue}
use Rattle.mapf_lemma_checker.proofs.NeverLemmas.{never_has, never_has_none, never_same}
use Rattle.mapf_lemma_checker.proofs.PartLists.{joint_cells_rise}
use Rattle.mapf_lemma_checker.proofs.RefusalLemmas.{refused_through}
use Rattle.mapf_joint_labels.specs.Runs.{IsCellBefore}
use Rattle.mapf_lemma_checker.proofs.label_judge.LabelJudge.never.Goals as goal

pub returns-in-Ok-clause-shown : goal.returns-in-Ok-clause-shown
returns-in-Ok-clause-shown c =
    never_has c.args.problem.now c.args.lemma.now c.agent_at-first.result c.agent_at-second.result
    (subst (λ (v : NeverValue). slice_get c.args.problem.now.agents v.i ≡ Some c.agent_at-first.result) c.lemma.view_is c.agent_at-first.ensures.is) (subst (λ (v : NeverValue). slice_get c.args.problem.now.agents v.j ≡ Some c.agent_at-second.result) c.lemma.view_is c.agent_at-second.ensures.is)
    (subst (λ (v : NeverValue). v.i ≢ v.j) c.lemma.view_is c.in_ok-judge_agents.ensures.differ) (subst (IsClosed c.args.problem.now.grid c.agent_at-first.result c.agent_at-second.result) (c.deref.ensures.value ∙ ap (λ (v : NeverValue). v.cells) c.lemma.view_is) (subst (λ g. IsClosed g c.agent_at-first.result c.agent_at-second.result c.deref.result.now) c.grid.ensures (c.in-Ok.ensures.closed.0 refl)))

pub returns-in-Err-Starts-clause-refused : goal.returns-in-Err-Starts-clause-refused
returns-in-Err-Starts-clause-refused c =
    subst (IsRefusedFor (HasNoStatement c.args.problem.now no_list (never_of c.args.lemma.now) None)) (sym c.unsound.ensures)
    (never_has_none c.args.problem.now c.args.lemma.now c.agent_at-first.result c.agent_at-second.result
    (subst (λ (v : NeverValue). slice_get c.args.problem.now.agents v.i ≡ Some c.agent_at-first.result) c.lemma.view_is c.agent_at-first.ensures.is) (subst (λ (v : NeverValue). slice_get c.args.problem.now.agents v.j ≡ Some c.agent_at-second.result) c.lemma.view_is c.agent_at-second.ensures.is)
    (λ closed. true≢false (sym (c.in-Err-Starts.ensures.closed.1 (subst (λ g. IsClosed g c.agent_at-first.result c.agent_at-second.result c.deref.result.now) (sym c.grid.ensures) (subst (IsClosed c.args.problem.now.grid c.agent_at-first.result c.agent_at-second.result) (sym (c.deref.ensures.value ∙ ap (λ (v : NeverValue). v.cells) c.lemma.view_is)) closed))))))

pub returns-in-Err-Cell-clause-refused : goal.returns-in-Err-Cell-clause-refused
returns-in-Err-Cell-clause-refused c =
    subst (IsRefusedFor (HasNoStatement c.args.problem.now no_list (never_of c.args.lemma.now) None)) (sym c.unsound-in-Err-Cell.ensures)
    (never_has_none c.args.problem.now c.args.lemma.now c.agent_at-first.result c.agent_at-second.result
    (subst (λ (v : NeverValue). slice_get c.args.problem.now.agents v.i ≡ Some c.agent_at-first.result) c.lemma.view_is c.agent_at-first.ensures.is) (subst (λ (v : NeverValue). slice_get c.args.problem.now.agents v.j ≡ Some c.agent_at-second.result) c.lemma.view_is c.agent_at-second.ensures.is)
    (λ closed. true≢false (sym (c.in-Err-Cell.ensures.closed.1 (subst (λ g. IsClosed g c.agent_at-first.result c.agent_at-second.result c.deref.result.now) (sym c.grid.ensures) (subst (IsClosed c.args.problem.now.grid c.agent_at-first.result c.agent_at-second.result) (sym (c.deref.ensures.value ∙ ap (λ (v : NeverValue). v.cells) c.lemma.view_is)) closed))))))

pub returns-in_err-judge_agents-clause-refused : goal.returns-in_err-judge_agents-clause-refused
returns-in_err-judge_agents-clause-refused c =
    refused_through (c.lemma.inside.i ≡ c.lemma.inside.j) (HasNoStatement c.args.problem.now no_list (never_of c.args.lemma.now) None)
    (λ same. never_same c.args.problem.now c.args.lemma.now (subst (λ (v : NeverValue). v.i ≡ v.j) c.lemma.view_is same))
    c.from_residual.result c.in_err-judge_agents.field-0.0 c.from_residual.ensures.1 c.in_err-judge_agents.ensures.refused

pub agent_at-first-requires : goal.agent_at-first-requires
agent_at-first-requires c =
    let (lists, part) = c.requires.part in
    let agent = ap (λ (v : NeverValue). v.i) c.lemma.view_is in
    omega (arith, agent, part.in_range.0.0, part.of_problem.agents_are)

pub agent_at-second-requires : goal.agent_at-second-requires
agent_at-second-requires c =
    let (lists, part) = c.requires.part in
    let agent = ap (λ (v : NeverValue). v.j) c.lemma.view_is in
    omega (arith, agent, part.in_range.0.1, part.of_problem.agents_are)

pub judge_closed-requires-clause-rising : goal.judge_closed-requires-clause-rising
judge_closed-requires-clause-rising c =
    let (lists, part) = c.requires.part in
    let listed = c.deref.ensures.value ∙ ap (λ (v : NeverValue). v.cells) c.lemma.view_is in
    subst (AllPairs IsCellBefore) (sym listed) (joint_cells_rise part.sizes c.args.lemma.now.cells part.in_range.1)
