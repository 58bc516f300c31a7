use Rattle.std.proofs.Common.{codes, ◌++◌, ◌∷◌, [], append_assoc}
use Rattle.mapf_fields.specs.Numbers.{field}
use Rattle.mapf_fields.proofs.Prefixes.{start_fails, middle_fails, write_fails, finish, then_pushed, passes_trans, prefix_after, same_text, passes_from_none, prefix_from_none}
use Rattle.mapf_certificate.specs.Plans.{plan_title, plan_text, answer_text}
use Rattle.mapf_certificate.proofs.text_writer.TextWriter.plan.Goals as goal

pub returns-in_err-reserve-clause-text : goal.returns-in_err-reserve-clause-text
returns-in_err-reserve-clause-text g c = start_fails _ _ _ _ _ [] (plan_text c.args.self.now.width c.args.text.now) c.from_residual.ensures.1 c.requires.empty c.in_err-reserve.ensures.text

pub returns-in_err-answer-clause-text : goal.returns-in_err-answer-clause-text
returns-in_err-answer-clause-text g c =
    let text = c.args.text.now in
    let line = codes "agents" ++ (field 32 text.agents ++ (10 ∷ [])) in
    let head = plan_title text.version ++ (10 ∷ line) in
    let answer = answer_text c.args.self.now.width text.answer in
    same_text _ _ _ _ (plan_text c.args.self.now.width text) (append_assoc (plan_title text.version) (10 ∷ line) (answer ++ codes "end\n"))
    (middle_fails _ _ _ _ _ _ _ head answer (codes "end\n") c.from_residual-in_err-answer.ensures.1 c.requires.empty (then_pushed _ _ _ _ _ head c.in_ok-reserve.ensures.text c.push_head.ensures) c.in_err-answer.ensures.text)

pub returns-in_err-put-clause-text : goal.returns-in_err-put-clause-text
returns-in_err-put-clause-text g c =
    let text = c.args.text.now in
    let line = codes "agents" ++ (field 32 text.agents ++ (10 ∷ [])) in
    let head = plan_title text.version ++ (10 ∷ line) in
    let answer = answer_text c.args.self.now.width text.answer in
    same_text _ _ _ _ (plan_text c.args.self.now.width text) (append_assoc (plan_title text.version) (10 ∷ line) (answer ++ codes "end\n"))
    (write_fails _ _ _ _ (head ++ (answer ++ codes "end\n")) c.from_residual-in_err-put.ensures.1
    (prefix_from_none _ _ _ (head ++ (answer ++ codes "end\n")) c.requires.empty
    (prefix_after _ _ _ _ _ head (answer ++ codes "end\n") (then_pushed _ _ _ _ _ head c.in_ok-reserve.ensures.text c.push_head.ensures)
    (prefix_after _ _ _ _ _ answer (codes "end\n") c.in_ok-answer.ensures.text c.in_err-put.ensures.text))))

pub returns-clause-text : goal.returns-clause-text
returns-clause-text g c =
    let text = c.args.text.now in
    let line = codes "agents" ++ (field 32 text.agents ++ (10 ∷ [])) in
    let head = plan_title text.version ++ (10 ∷ line) in
    let answer = answer_text c.args.self.now.width text.answer in
    same_text _ _ _ _ (plan_text c.args.self.now.width text) (append_assoc (plan_title text.version) (10 ∷ line) (answer ++ codes "end\n"))
    (finish _ _ _ _ _ (head ++ (answer ++ codes "end\n"))
    (passes_from_none _ _ _ _ (head ++ (answer ++ codes "end\n")) c.requires.empty
    (passes_trans _ _ _ _ _ _ head (answer ++ codes "end\n") (then_pushed _ _ _ _ _ head c.in_ok-reserve.ensures.text c.push_head.ensures)
    (passes_trans _ _ _ _ _ _ answer (codes "end\n") c.in_ok-answer.ensures.text c.in_ok-put.ensures.text))) c.flush.ensures.text)
