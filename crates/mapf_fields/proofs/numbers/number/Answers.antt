use Rattle.std.proofs.Common.{◌+◌, ◌-◌, ◌*◌, length, take, drop, arith, refl, sym, ◌∙◌}
use Rattle.mapf_fields.proofs.Digits.{one_front, two_front, three_front}
use Rattle.mapf_fields.proofs.numbers.number.Goals as goal

pub returns-in-len1-up : goal.returns-in-len1-up
returns-in-len1-up c =
    let bs = c.args.bytes.now in
    one_front bs c.from.result (take (length bs - 1) (drop 1 bs)) c.in-len1-up.len_at_least refl (sym c.is_ascii_digit.ensures.value ∙ c.if-is_ascii_digit.true) (sym c.begins_with_digit.ensures ∙ c.if-not-begins_with_digit.true) c.from.ensures

pub returns-in-len2-up : goal.returns-in-len2-up
returns-in-len2-up c =
    let bs = c.args.bytes.now in
    let well = sym c.begins_well.ensures ∙ c.if-begins_well.true in
    let first = sym c.is_ascii_digit-then-begins_well.ensures.value ∙ c.if-is_ascii_digit-2.true in
    let second = sym c.is_ascii_digit-then-is_ascii_digit-2.ensures.value ∙ c.if-is_ascii_digit-3.true in
    let stop = sym c.begins_with_digit-then-is_ascii_digit-3.ensures ∙ c.if-not-begins_with_digit-2.true in
    two_front bs (c.from-in-len2-up.result * 10 + c.from-in-len2-up-2.result) (take (length bs - 2) (drop 2 bs)) c.in-len2-up.len_at_least refl well first second stop (omega (arith, c.from-in-len2-up.ensures, c.from-in-len2-up-2.ensures))

pub returns-in-len3-up : goal.returns-in-len3-up
returns-in-len3-up c =
    let bs = c.args.bytes.now in
    let well = sym c.begins_well-2.ensures ∙ c.if-begins_well-2.true in
    let first = sym c.is_ascii_digit-then-begins_well-2.ensures.value ∙ c.if-is_ascii_digit-4.true in
    let second = sym c.is_ascii_digit-then-is_ascii_digit-4.ensures.value ∙ c.if-is_ascii_digit-5.true in
    let third = sym c.is_ascii_digit-then-is_ascii_digit-5.ensures.value ∙ c.if-is_ascii_digit-6.true in
    let stop = sym c.begins_with_digit-then-is_ascii_digit-6.ensures ∙ c.if-not-begins_with_digit-3.true in
    let front = c.from-in-len3-up.result * 10 + c.from-in-len3-up-2.result in
    three_front bs (front * 10 + c.from-in-len3-up-3.result) (take (length bs - 3) (drop 3 bs)) c.in-len3-up.len_at_least refl well first second third stop (omega (arith, c.from-in-len3-up.ensures, c.from-in-len3-up-2.ensures, c.from-in-len3-up-3.ensures))
