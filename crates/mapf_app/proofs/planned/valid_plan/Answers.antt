use Rattle.std.proofs.Common.{length, sym, ◌∙◌, ap, subst, inl, inr, Ok, Err}
use Rattle.mapf_model.specs.Plan.{IsValid}
use Rattle.mapf_app.specs.Faults.{fault_of_plan_text}
use Rattle.mapf_app.proofs.PlannedLemmas.{one_plan, same_plan, is_no_plan, spells_text, unread}
use Rattle.mapf_certificate.specs.declared.plan_text.PlanAnswer.TheVariants.{Found}
use Rattle.mapf_checker.proofs.PlanLemmas.{spells_none}
use Rattle.mapf_app.proofs.planned.valid_plan.Goals as goal

pub returns-in-Err-clause-only : goal.returns-in-Err-clause-only
returns-in-Err-clause-only c = λ plan spells.
    let problem = c.args.problem.now in
    let memory = spells_none problem c.args.bytes.now c.in-Err.fault (rw c.grid.ensures at c.in-Err.ensures.only) spells.version (length problem.agents) (Found plan) spells.spelled in
    inr (ap Err (c.fault_of_plan_text.ensures ∙ ap fault_of_plan_text memory))

pub returns-in-Err-clause-fault : goal.returns-in-Err-clause-fault
returns-in-Err-clause-fault c =
    let problem = c.args.problem.now in
    let bytes = c.args.bytes.now in
    rw c.fault_of_plan_text.ensures (unread problem bytes c.in-Err.fault (spells_none problem bytes c.in-Err.fault (rw c.grid.ensures at c.in-Err.ensures.only)))

pub returns-in_default : goal.returns-in_default
returns-in_default c =
    let problem = c.args.problem.now in
    let text = c.in-Ok.text in
    record {
      found = tt;
      only = λ plan spells. absurd (c.in_default.not-Found plan (one_plan problem c.args.bytes.now text (rw c.grid.ensures at c.in-Ok.ensures.only) spells.version (length problem.agents) plan spells.spelled).1);
      fault = (text.version, text.agents, text.answer, spells_text problem c.args.bytes.now text (rw c.grid.ensures at c.in-Ok.ensures.found), is_no_plan text.answer c.in_default.not-Found);
      inner = tt;
    }

pub returns-then-agents-clause-only : goal.returns-then-agents-clause-only
returns-then-agents-clause-only c = λ plan spells.
    let problem = c.args.problem.now in
    absurd (c.if-agents.true ((one_plan problem c.args.bytes.now c.in-Ok.text (rw c.grid.ensures at c.in-Ok.ensures.only) spells.version (length problem.agents) plan spells.spelled).0 ∙ ap length (sym c.agents.ensures.value)))

pub returns-in-Ok-check_plan-clause-only : goal.returns-in-Ok-check_plan-clause-only
returns-in-Ok-check_plan-clause-only c = λ plan spells.
    let problem = c.args.problem.now in
    let is = (one_plan problem c.args.bytes.now c.in-Ok.text (rw c.grid.ensures at c.in-Ok.ensures.only) spells.version (length problem.agents) plan spells.spelled).1 in
    inl (ap Ok (same_plan c.in-Found.plan plan (sym c.in-Found.is ∙ is)))

pub returns-in-Err-check_plan-clause-only : goal.returns-in-Err-check_plan-clause-only
returns-in-Err-check_plan-clause-only c = λ plan spells.
    let problem = c.args.problem.now in
    let is = (one_plan problem c.args.bytes.now c.in-Ok.text (rw c.grid.ensures at c.in-Ok.ensures.only) spells.version (length problem.agents) plan spells.spelled).1 in
    let same = same_plan c.in-Found.plan plan (sym c.in-Found.is ∙ is) in
    let no = c.in-Err-check_plan.ensures.valid.1 (subst (IsValid problem) (sym same) spells.valid) in
    absurd cc
