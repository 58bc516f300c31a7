use Rattle.std.proofs.Common.{◌≡◌, length, refl, sym, ◌∙◌, ap, subst}
use Rattle.mapf_certificate.specs.declared.plan_text.PlanAnswer.TheVariants.{Found}
use Rattle.mapf_model.specs.declared.item.Claim.TheVariants.{Cost}
use Rattle.mapf_checker.specs.declared.fault.FromFault.TheVariants as from
use Rattle.mapf_checker.specs.Faults.{of_plan, IsOfJudging}
use Rattle.mapf_checker.specs.Refusals.{HasPlanRefusal}
use Rattle.mapf_checker.specs.Verdict.{IsGoodFor}
use Rattle.mapf_checker.proofs.ReadLemmas.{err_matched, err_passed}
use Rattle.mapf_checker.proofs.PlanLemmas.{good_text, text_good, spells_none, refused_text, valid_if_good, cost_if_good, impossible_if_good, bound_if_good}
use Rattle.mapf_checker.proofs.plan_judge.judge_plan.Goals as goal

pub returns-in_err-agents-clause-only : goal.returns-in_err-agents-clause-only
returns-in_err-agents-clause-only c claim good =
    let fault = c.in_err-agents.field-0.0 in
    let memory = spells_none c.args.problem.now c.args.plan_text.now fault (rw c.grid.ensures at c.in_err-agents.ensures.only) good.version (length c.args.problem.now.agents) good.says good.spelled in
    err_matched c.from_residual.result (λ given. given ≡ claim) (λ f. f ≡ from.Memory) (of_plan fault) c.from_residual.ensures.1 (ap of_plan memory)

pub returns-in_err-agents-clause-refused : goal.returns-in_err-agents-clause-refused
returns-in_err-agents-clause-refused c =
    let fault = c.in_err-agents.field-0.0 in
    let problem = c.args.problem.now in
    let bytes = c.args.plan_text.now in
    err_passed c.from_residual.result (IsOfJudging (HasPlanRefusal problem bytes)) (of_plan fault) c.from_residual.ensures.1
    (refused_text problem bytes fault (spells_none problem bytes fault (rw c.grid.ensures at c.in_err-agents.ensures.only)))

pub returns-then-agents-clause-only : goal.returns-then-agents-clause-only
returns-then-agents-clause-only c claim good =
    let problem = c.args.problem.now in
    absurd (c.if-agents.true ((good_text problem c.args.plan_text.now c.in_ok-agents.field-0 (rw c.grid.ensures at c.in_ok-agents.ensures.only) claim good).0 ∙ ap length (sym c.agents.ensures.value)))

pub returns-in-Ok-clause-good : goal.returns-in-Ok-clause-good
returns-in-Ok-clause-good c =
    let problem = c.args.problem.now in
    text_good problem c.args.plan_text.now c.in_ok-agents.field-0 (rw c.grid.ensures at c.in_ok-agents.ensures.found) (c.if-agents.false ∙ ap length c.agents.ensures.value) (Found c.in-Found.plan) c.in-Found.is
    (Cost c.in-Ok.sum) (c.in-Ok.ensures.valid.0 refl, c.in-Ok.ensures.sum)

pub returns-in-Ok-clause-only : goal.returns-in-Ok-clause-only
returns-in-Ok-clause-only c claim good =
    let problem = c.args.problem.now in
    let fits = (good_text problem c.args.plan_text.now c.in_ok-agents.field-0 (rw c.grid.ensures at c.in_ok-agents.ensures.only) claim good).1 in
    cost_if_good c.sums_are_one.ensures problem c.in-Found.plan c.in-Ok.sum claim c.in-Ok.ensures.sum (subst (λ s. IsGoodFor problem s claim) c.in-Found.is fits)

pub returns-in-Found-clause-only : goal.returns-in-Found-clause-only
returns-in-Found-clause-only c claim good =
    let problem = c.args.problem.now in
    let fits = (good_text problem c.args.plan_text.now c.in_ok-agents.field-0 (rw c.grid.ensures at c.in_ok-agents.ensures.only) claim good).1 in
    let valid = valid_if_good problem c.in-Found.plan claim (subst (λ s. IsGoodFor problem s claim) c.in-Found.is fits) in
    let no = c.in-Err.ensures.valid.1 valid in
    absurd cc

pub returns-in-Impossible-clause-only : goal.returns-in-Impossible-clause-only
returns-in-Impossible-clause-only c claim good =
    let problem = c.args.problem.now in
    let fits = (good_text problem c.args.plan_text.now c.in_ok-agents.field-0 (rw c.grid.ensures at c.in_ok-agents.ensures.only) claim good).1 in
    impossible_if_good problem claim (subst (λ s. IsGoodFor problem s claim) c.in-Impossible.is fits)

pub returns-in-Bounded-clause-only : goal.returns-in-Bounded-clause-only
returns-in-Bounded-clause-only c claim good =
    let problem = c.args.problem.now in
    let fits = (good_text problem c.args.plan_text.now c.in_ok-agents.field-0 (rw c.grid.ensures at c.in_ok-agents.ensures.only) claim good).1 in
    bound_if_good problem c.in-Bounded.cause c.in-Bounded.bound claim (subst (λ s. IsGoodFor problem s claim) c.in-Bounded.is fits)

pub returns-clause-only : goal.returns-clause-only
returns-clause-only c claim good =
    let problem = c.args.problem.now in
    let fits = (good_text problem c.args.plan_text.now c.in_ok-agents.field-0 (rw c.grid.ensures at c.in_ok-agents.ensures.only) claim good).1 in
    absurd (subst (λ s. IsGoodFor problem s claim) c.in-Limit.is fits)
