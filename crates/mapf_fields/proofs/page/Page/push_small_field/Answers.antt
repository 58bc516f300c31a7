use Rattle.std.proofs.Common.{◌≡◌, ◌≤◌, ◌++◌, length, take, get_or, ◌+◌, ap, ◌∙◌, arith}
use Rattle.std.proofs.lemmas.List.{length-take-le}
use Rattle.mapf_fields.proofs.Spelled.{field_of}
use Rattle.mapf_fields.proofs.page.Page.push_small_field.Goals as goal

pub returns-clause-text : goal.returns-clause-text
returns-clause-text c =
    let held = c.args.self.now in
    let word = c.spelling-word.result in
    let used = c.self.inside.used in
    let bytes = c.self.inside.bytes in
    let view : take used bytes ≡ held = c.self.view_is in
    let inside : used ≤ length bytes = omega arith in
    let all : used ≡ length held = omega (arith, ap length view, length-take-le used bytes inside) in
    c.shorten.ensures
    ∙ ap (take (used + 1 + get_or word 3 0)) (c.push_bytes.ensures ∙ ap (λ t. t ++ word) c.push_byte.ensures)
    ∙ field_of held word c.args.mark c.args.number used all c.spelling-word.ensures
