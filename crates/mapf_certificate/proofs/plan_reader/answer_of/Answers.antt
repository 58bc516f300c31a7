use Rattle.std.proofs.Common.{◌≡◌, ◌≢◌, ℕ, List, Option, Ok, Err, ap, sym, subst, refl, inl, ◌∙◌}
use Rattle.mapf_model.specs.declared.cause.Cause.{Cause}
use Rattle.mapf_certificate.specs.declared.plan_text.PlanTextFault.{PlanTextFault}
use Rattle.mapf_certificate.specs.declared.plan_text.PlanAnswer.{PlanAnswer}
use Rattle.mapf_certificate.specs.declared.plan_lines.AnswerLine.{AnswerLine}
use Rattle.mapf_certificate.specs.declared.plan_lines.AnswerLine.TheVariants as answers
use Rattle.mapf_certificate.specs.Lines.{grid_of}
use Rattle.mapf_certificate.specs.PlanReading.{read_end, line_of, rest_of, IsAnswerLine}
use Rattle.mapf_certificate.proofs.PlanParts.{end_takes, end_again}
use Rattle.mapf_certificate.proofs.PlanTexts.{end_of, limit_in_range, limits_same}
use Rattle.mapf_certificate.proofs.plan_reader.answer_of.Goals as goal

ended : (width : ℕ) (line : AnswerLine) (answer : PlanAnswer) (rest : List ℕ) (f : PlanTextFault) → ((cost : ℕ) → line ≢ answers.Cost cost) → line ≡ line_of answer → rest ≡ rest_of width answer → Err f ≡ read_end 4 rest → ⊥
ended width line answer rest f other same text bad =
    let good : read_end 4 rest ≡ Ok tt = ap (read_end 4) (text ∙ end_of width line answer other same) ∙ end_again 4 in
    cc

pub returns-in_err-end-in-Impossible-clause-only : goal.returns-in_err-end-in-Impossible-clause-only
returns-in_err-end-in-Impossible-clause-only c answer is same text =
    absurd (ended c.args.sizes.now.width c.args.line.now answer c.args.rest.now c.in_err-end-in-Impossible.field-0.0 (λ cost e. let wrong : answers.Impossible ≡ answers.Cost cost = sym c.in-Impossible.is ∙ e in cc) same text c.in_err-end-in-Impossible.ensures)

-- the line of a limit is no cost
no_cost : (line : AnswerLine) (cause : Cause) (bound : Option ℕ) (cost : ℕ) → line ≡ answers.Limit cause bound → line ≢ answers.Cost cost
no_cost line cause bound cost is e = let wrong : answers.Limit cause bound ≡ answers.Cost cost = sym is ∙ e in cc

pub returns-in_err-end-in-Limit-clause-only : goal.returns-in_err-end-in-Limit-clause-only
returns-in_err-end-in-Limit-clause-only c answer is same text =
    absurd (ended c.args.sizes.now.width c.args.line.now answer c.args.rest.now c.in_err-end-in-Limit.field-0.0 (λ cost. no_cost c.args.line.now c.in-Limit.cause c.in-Limit.bound cost c.in-Limit.is) same text c.in_err-end-in-Limit.ensures)

pub returns-in_ok-end-in-Impossible-clause-found : goal.returns-in_ok-end-in-Impossible-clause-found
returns-in_ok-end-in-Impossible-clause-found c = (tt, c.in-Impossible.is, end_takes 4 c.args.rest.now c.in_ok-end-in-Impossible.field-0 (sym c.in_ok-end-in-Impossible.ensures))

pub returns-in_ok-end-in-Limit-clause-found : goal.returns-in_ok-end-in-Limit-clause-found
returns-in_ok-end-in-Limit-clause-found c =
    let sizes = c.args.sizes.now in
    let answer = c.limit_of.result in
    let other = λ (cost : ℕ). no_cost (line_of answer) c.in-Limit.cause c.in-Limit.bound cost c.limit_of.ensures in
    let same : c.args.line.now ≡ line_of answer = c.in-Limit.is ∙ sym c.limit_of.ensures in (
      limit_in_range (grid_of sizes.width sizes.height) sizes.version sizes.agents answer other (subst (IsAnswerLine sizes.version) same c.requires),
      same,
      end_takes 4 c.args.rest.now c.in_ok-end-in-Limit.field-0 (sym c.in_ok-end-in-Limit.ensures) ∙ sym (end_of sizes.width (line_of answer) answer other refl),
    )

pub returns-in_ok-end-in-Limit-clause-only : goal.returns-in_ok-end-in-Limit-clause-only
returns-in_ok-end-in-Limit-clause-only c answer is same text =
    let other = λ (cost : ℕ). no_cost (line_of c.limit_of.result) c.in-Limit.cause c.in-Limit.bound cost c.limit_of.ensures in
    inl (ap Ok (limits_same c.limit_of.result answer other (c.limit_of.ensures ∙ sym c.in-Limit.is ∙ same)))
