use Rattle.std.proofs.Common.{ℕ, codes, ◌++◌, ◌∷◌, [], ap, ◌∙◌}
use Rattle.mapf_fields.specs.Numbers.{field}
use Rattle.mapf_fields.proofs.Prefixes.{fails_first, fails_after, passes_trans, then_pushed, same_prefix, same_passes}
use Rattle.mapf_certificate.specs.Plans.{answer_text, cost_of, paths_text}
use Rattle.mapf_certificate.proofs.text_writer.TextWriter.answer.Goals as goal

pub returns-in_err-reserve-clause-text : goal.returns-in_err-reserve-clause-text
returns-in_err-reserve-clause-text g c = fails_first _ _ _ _ _ _ (answer_text c.args.self.now.width c.args.answer.now) c.from_residual.ensures.1 c.in_err-reserve.ensures.text

pub returns-in_err-paths-in-Found-clause-text : goal.returns-in_err-paths-in-Found-clause-text
returns-in_err-paths-in-Found-clause-text g c =
    let plan = c.in-Found.plan in let width = c.args.self.now.width in
    let line = λ (n : ℕ). codes "cost" ++ (field 32 n ++ (10 ∷ [])) in
    let pushed = c.push_number_line.ensures.text ∙ ap (λ n. c.reserve.new.self ++ line n) (c.cost_of.ensures ∙ ap cost_of c.paths.ensures.value) in
    rw c.in-Found.is (fails_after _ _ _ _ _ _ _ _ (line (cost_of plan)) (paths_text width 0 plan) c.from_residual-in_err-paths-in-Found.ensures.1
    (then_pushed _ _ _ _ _ (line (cost_of plan)) c.in_ok-reserve.ensures.text pushed)
    (same_prefix _ _ _ _ (paths_text width 0 plan) (ap (paths_text width 0) c.paths-in-Found.ensures.value) c.in_err-paths-in-Found.ensures.text))

pub returns-in_ok-paths-in-Found-clause-text : goal.returns-in_ok-paths-in-Found-clause-text
returns-in_ok-paths-in-Found-clause-text g c =
    let plan = c.in-Found.plan in let width = c.args.self.now.width in
    let line = λ (n : ℕ). codes "cost" ++ (field 32 n ++ (10 ∷ [])) in
    let pushed = c.push_number_line.ensures.text ∙ ap (λ n. c.reserve.new.self ++ line n) (c.cost_of.ensures ∙ ap cost_of c.paths.ensures.value) in
    rw c.in-Found.is (passes_trans _ _ _ _ _ _ (line (cost_of plan)) (paths_text width 0 plan)
    (then_pushed _ _ _ _ _ (line (cost_of plan)) c.in_ok-reserve.ensures.text pushed)
    (same_passes _ _ _ _ _ (paths_text width 0 plan) (ap (paths_text width 0) c.paths-in-Found.ensures.value) c.in_ok-paths-in-Found.ensures.text))

pub returns-in-Impossible-clause-text : goal.returns-in-Impossible-clause-text
returns-in-Impossible-clause-text g c = rw c.in-Impossible.is (then_pushed _ _ _ _ _ (codes "impossible\n") c.in_ok-reserve.ensures.text c.push_bytes.ensures)
