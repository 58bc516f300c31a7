use Rattle.std.proofs.Common.{◌≡◌, ℕ, List, Ok, Err, ap, sym, subst, ◌∙◌, inl, inr}
use Rattle.std.proofs.lemmas.Result.{err_from_is_err_and}
use Rattle.mapf_model.specs.Grid.{GridMap}
use Rattle.mapf_fields.proofs.Binds.{passed_on, ok_four_parts, same_ok, same_err}
use Rattle.mapf_certificate.specs.declared.plan_text.PlanText.{PlanText}
use Rattle.mapf_certificate.specs.declared.plan_text.PlanTextFault.{PlanTextFault}
use Rattle.mapf_certificate.specs.declared.plan_text.PlanTextFault.TheVariants.{Memory}
use Rattle.mapf_certificate.specs.declared.plan_text.PlanAnswer.{PlanAnswer}
use Rattle.mapf_certificate.specs.declared.plan_lines.AnswerLine.{AnswerLine}
use Rattle.mapf_certificate.specs.declared.sizes.Sizes.{Sizes}
use Rattle.mapf_certificate.specs.declared.version.Version.{Version}
use Rattle.mapf_certificate.specs.Lines.{grid_for}
use Rattle.mapf_certificate.specs.Plans.{plan_text, IsPlanText, IsAnswerInRange}
use Rattle.mapf_certificate.specs.PlanReading.{read_header, line_of, rest_of, IsAnswerLine}
use Rattle.mapf_certificate.proofs.PlanTexts.{headed, header_takes, header_of, answer_moved, answer_of_version, text_is}
use Rattle.mapf_certificate.proofs.plan_reader.read_plan.Goals as goal

pub returns-in_err-version-clause-only : goal.returns-in_err-version-clause-only
returns-in_err-version-clause-only c p is e =
    let good = header_of c.args.grid.now p c.args.bytes.now is e in
    let bad : read_header c.args.bytes.now ≡ Err c.in_err-version.field-0.0 = c.in_err-version.ensures in
    cc

pub of-requires-clause-some : goal.of-requires-clause-some
of-requires-clause-some c = (header_takes c.args.bytes.now (c.in_ok-version.version, c.in_ok-version.agents, c.in_ok-version.line, c.in_ok-version.rest.now) c.in_ok-version.ensures).0.0

pub of-requires-clause-few : goal.of-requires-clause-few
of-requires-clause-few c = (header_takes c.args.bytes.now (c.in_ok-version.version, c.in_ok-version.agents, c.in_ok-version.line, c.in_ok-version.rest.now) c.in_ok-version.ensures).0.1

pub answer_of-requires : goal.answer_of-requires
answer_of-requires c =
    let line = c.in_ok-version.line in
    subst (λ (v : Version). IsAnswerLine v line) (sym c.of.ensures.version) (header_takes c.args.bytes.now (c.in_ok-version.version, c.in_ok-version.agents, line, c.in_ok-version.rest.now) c.in_ok-version.ensures).1

-- the parts of a spelled text are those that were read
parts : (grid : GridMap) (p : PlanText) (bs rest : List ℕ) (version : Version) (agents : ℕ) (line : AnswerLine) → IsPlanText grid p → bs ≡ plan_text grid.width p → read_header bs ≡ Ok (version, agents, line, rest)
    → (version ≡ p.version) × (agents ≡ p.agents) × (line ≡ line_of p.answer) × (rest ≡ rest_of grid.width p.answer)
parts grid p bs rest version agents line is e read = ok_four_parts version p.version agents p.agents line (line_of p.answer) rest (rest_of grid.width p.answer) (sym read ∙ header_of grid p bs is e)

to_sizes : (grid : GridMap) (sizes : Sizes) (agents : ℕ) (answer : PlanAnswer) → sizes.width ≡ grid.width → sizes.height ≡ grid.height → sizes.agents ≡ agents → IsAnswerInRange grid agents answer → IsAnswerInRange (grid_for sizes) sizes.agents answer
to_sizes grid sizes agents answer w h a is = answer_moved grid (grid_for sizes) agents sizes.agents answer (sym w) (sym h) (sym a) is

pub returns-in_err-answer-clause-only : goal.returns-in_err-answer-clause-only
returns-in_err-answer-clause-only c p is e =
    let grid = c.args.grid.now in
    let sizes = c.of.result in
    let (version, agents, line, rest) = parts grid p c.args.bytes.now c.in_ok-version.rest.now c.in_ok-version.version c.in_ok-version.agents c.in_ok-version.line is e c.in_ok-version.ensures in
    let in_range = to_sizes grid sizes p.agents p.answer c.of.ensures.width c.of.ensures.height (c.of.ensures.agents ∙ agents) is.1 in
    elim (c.in_err-answer.ensures.only p.answer in_range line (rest ∙ ap (λ w. rest_of w p.answer) (sym c.of.ensures.width))) [
      | inl wrong ↦ cc
      | inr memory ↦ inr (passed_on c.from_residual-in_err-answer.result c.in_err-answer.field-0.0 Memory (err_from_is_err_and c.from_residual-in_err-answer.result c.from_residual-in_err-answer.ensures.1) (same_err _ Memory memory))
    ]

found : (grid : GridMap) (sizes : Sizes) (bs rest : List ℕ) (version : Version) (agents : ℕ) (line : AnswerLine) (answer : PlanAnswer) → read_header bs ≡ Ok (version, agents, line, rest) → sizes.width ≡ grid.width → sizes.height ≡ grid.height → sizes.agents ≡ agents
    → IsAnswerInRange (grid_for sizes) sizes.agents answer → line ≡ line_of answer → rest ≡ rest_of sizes.width answer
    → IsPlanText grid (record { version = version; agents = agents; answer = answer }) × (bs ≡ plan_text grid.width (record { version = version; agents = agents; answer = answer }))
found grid sizes bs rest version agents line answer read w h a is same text =
    let (counted, ranged, all) = header_takes bs (version, agents, line, rest) read in
    let p : PlanText = record { version = version; agents = agents; answer = answer } in (
      (counted, answer_moved (grid_for sizes) grid sizes.agents agents answer w h a is, answer_of_version version answer (subst (IsAnswerLine version) same ranged)),
      all ∙ ap (λ l. headed version agents l rest) same ∙ ap (headed version agents (line_of answer)) (text ∙ ap (λ k. rest_of k answer) w) ∙ sym (text_is grid.width p),
    )

pub returns-clause-found : goal.returns-clause-found
returns-clause-found c =
    let (is, line, rest) = c.in_ok-answer.ensures.found in
    found c.args.grid.now c.of.result c.args.bytes.now c.in_ok-version.rest.now c.in_ok-version.version c.in_ok-version.agents c.in_ok-version.line c.in_ok-answer.answer c.in_ok-version.ensures c.of.ensures.width c.of.ensures.height c.of.ensures.agents is line rest

same_text : (p : PlanText) (version : Version) (agents : ℕ) (answer : PlanAnswer) → version ≡ p.version → agents ≡ p.agents → answer ≡ p.answer → ◌≡◌ {A = PlanText} (record { version = version; agents = agents; answer = answer }) p
same_text p version agents answer v a b = λ k. record { version = v k; agents = a k; answer = b k }

pub returns-clause-only : goal.returns-clause-only
returns-clause-only c p is e =
    let grid = c.args.grid.now in
    let sizes = c.of.result in
    let (version, agents, line, rest) = parts grid p c.args.bytes.now c.in_ok-version.rest.now c.in_ok-version.version c.in_ok-version.agents c.in_ok-version.line is e c.in_ok-version.ensures in
    let in_range = to_sizes grid sizes p.agents p.answer c.of.ensures.width c.of.ensures.height (c.of.ensures.agents ∙ agents) is.1 in
    elim (c.in_ok-answer.ensures.only p.answer in_range line (rest ∙ ap (λ w. rest_of w p.answer) (sym c.of.ensures.width))) [
      | inl same ↦ inl (ap Ok (same_text p c.in_ok-version.version c.in_ok-version.agents c.in_ok-answer.answer version agents (same_ok {E = PlanTextFault} c.in_ok-answer.answer p.answer same)))
      | inr memory ↦ cc
    ]
