use Rattle.std.proofs.Common.{◌≡◌, ℕ, List, codes, ◌++◌, ◌∷◌, [], ap, ◌∙◌}
use Rattle.mapf_fields.specs.Numbers.{field}
use Rattle.mapf_fields.proofs.Prefixes.{fails_first, fails_after, passes_then, then_pushed, prefix_held, same_or, same_prefix, same_passes}
use Rattle.mapf_certificate.specs.Plans.{cells_text, path_text, ticks_of}
use Rattle.mapf_certificate.proofs.PlanWriting.{line_parts, pushed_parts}
use Rattle.mapf_certificate.proofs.text_writer.TextWriter.path.Goals as goal

pub returns-in_err-reserve-clause-text : goal.returns-in_err-reserve-clause-text
returns-in_err-reserve-clause-text g c = fails_first _ _ _ _ _ _ (path_text c.args.self.now.width c.args.agent c.args.path.now) c.from_residual.ensures.1 c.in_err-reserve.ensures.text

pub returns-in_err-cells-clause-text : goal.returns-in_err-cells-clause-text
returns-in_err-cells-clause-text g c =
    let path = c.args.path.now in let value = c.cells-cells.ensures.value in
    let first = field 32 c.args.agent in
    let cells = cells_text c.args.self.now.width path in
    let front = λ (p : List ℕ). codes "path" ++ (first ++ field 32 (ticks_of p)) in
    let pushed : c.push_field.new.self ≡ c.reserve.new.self ++ front path =
    c.push_field.ensures.text ∙ ap (λ p. p ++ field 32 (ticks_of c.cells-cells.result.now)) c.push_one.ensures.text
    ∙ pushed_parts c.reserve.new.self (codes "path") first (field 32 (ticks_of c.cells-cells.result.now)) ∙ ap (λ p. c.reserve.new.self ++ front p) value in
    same_or _ _ _ _ _ _ (path_text c.args.self.now.width c.args.agent path) (line_parts (codes "path") first (field 32 (ticks_of path)) cells (10 ∷ []))
    (fails_after _ _ _ _ _ _ _ _ (front path) (cells ++ (10 ∷ [])) c.from_residual-in_err-cells.ensures.1 (then_pushed _ _ _ _ _ (front path) c.in_ok-reserve.ensures.text pushed)
    (prefix_held _ _ _ cells (10 ∷ []) (same_prefix _ _ _ _ cells (ap (cells_text c.args.self.now.width) value) c.in_err-cells.ensures.text)))

pub returns-clause-text : goal.returns-clause-text
returns-clause-text g c =
    let path = c.args.path.now in let value = c.cells-cells.ensures.value in
    let first = field 32 c.args.agent in
    let cells = cells_text c.args.self.now.width path in
    let front = λ (p : List ℕ). codes "path" ++ (first ++ field 32 (ticks_of p)) in
    let pushed : c.push_field.new.self ≡ c.reserve.new.self ++ front path =
    c.push_field.ensures.text ∙ ap (λ p. p ++ field 32 (ticks_of c.cells-cells.result.now)) c.push_one.ensures.text
    ∙ pushed_parts c.reserve.new.self (codes "path") first (field 32 (ticks_of c.cells-cells.result.now)) ∙ ap (λ p. c.reserve.new.self ++ front p) value in
    same_or _ _ _ _ _ _ (path_text c.args.self.now.width c.args.agent path) (line_parts (codes "path") first (field 32 (ticks_of path)) cells (10 ∷ []))
    (passes_then _ _ _ _ _ _ _ (front path) (cells ++ (10 ∷ [])) (then_pushed _ _ _ _ _ (front path) c.in_ok-reserve.ensures.text pushed)
    (passes_then _ _ _ _ _ _ _ cells (10 ∷ []) (same_passes _ _ _ _ _ cells (ap (cells_text c.args.self.now.width) value) c.in_ok-cells.ensures.text) c.put.ensures.text))
