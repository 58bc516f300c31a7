use Rattle.std.proofs.Common.{◌≡◌, ◌+◌, ◌≤◌, ◌^◌, true, false, get_or, take, sym, ap, ◌∙◌, arith, below_more}
use Rattle.std.specs.Char.{is_ascii_digit}
use Rattle.std.specs.Str.Parse.{digits_value}
use Rattle.std.proofs.lemmas.List.{get_or_past}
use Rattle.mapf_fields.proofs.Digits.{AreDigits, front_value, front_large, length-front_digits, value_next}
use Rattle.mapf_fields.proofs.numbers.digits.Goals as goal

pub returns-then-not-is_ascii_digit-clause-value : goal.returns-then-not-is_ascii_digit-clause-value
returns-then-not-is_ascii_digit-clause-value c =
    let here = c.loop-i.invariant in
    front_value c.args.bytes.now c.loop-i.i c.loop-i.value here.all (sym c.is_ascii_digit.ensures.value ∙ c.if-not-is_ascii_digit.true) here.value here.fits

pub returns-then-not-is_ascii_digit-clause-count : goal.returns-then-not-is_ascii_digit-clause-count
returns-then-not-is_ascii_digit-clause-count c =
    sym (length-front_digits c.args.bytes.now c.loop-i.i c.loop-i.invariant.all (sym c.is_ascii_digit.ensures.value ∙ c.if-not-is_ascii_digit.true))

pub returns-in_default-clause-value : goal.returns-in_default-clause-value
returns-in_default-clause-value c =
    let bs = c.args.bytes.now in
    let i = c.loop-i.i in
    let digit : is_ascii_digit (get_or bs i 0) ≡ true = sym c.is_ascii_digit.ensures.value ∙ c.if-not-is_ascii_digit.false in
    let all : AreDigits bs (i + 1) = below_more _ _ c.loop-i.invariant.all digit in
    let (low, step) = value_next bs i c.loop-i-test.true digit in
    let over : 2 ^ 64 ≤ digits_value 10 (take (i + 1) bs) = omega (arith, c.in_default.ensures, step, c.loop-i.invariant.value) in
    front_large bs (i + 1) all over

pub returns-in_default-checked_add-clause-value : goal.returns-in_default-checked_add-clause-value
returns-in_default-checked_add-clause-value c =
    let bs = c.args.bytes.now in
    let i = c.loop-i.i in
    let digit : is_ascii_digit (get_or bs i 0) ≡ true = sym c.is_ascii_digit.ensures.value ∙ c.if-not-is_ascii_digit.false in
    let all : AreDigits bs (i + 1) = below_more _ _ c.loop-i.invariant.all digit in
    let (low, step) = value_next bs i c.loop-i-test.true digit in
    let over : 2 ^ 64 ≤ digits_value 10 (take (i + 1) bs) = omega (arith, c.in_default-checked_add.ensures, c.in-Some.ensures, c.from-units.ensures, step, c.loop-i.invariant.value) in
    front_large bs (i + 1) all over

pub loop-i-preserved : goal.loop-i-preserved
loop-i-preserved c =
    let bs = c.args.bytes.now in
    let i = c.loop-i.i in
    let digit : is_ascii_digit (get_or bs i 0) ≡ true = sym c.is_ascii_digit.ensures.value ∙ c.if-not-is_ascii_digit.false in
    let (low, step) = value_next bs i c.loop-i-test.true digit in
    record {
      all = below_more _ _ c.loop-i.invariant.all digit;
      value = omega (arith, c.in-Some-checked_add.ensures, c.in-Some.ensures, c.from-units.ensures, step, c.loop-i.invariant.value);
      fits = omega (arith, c.in-Some-checked_add.ensures);
    }

pub returns-clause-value : goal.returns-clause-value
returns-clause-value c =
    let bs = c.args.bytes.now in
    let i = c.loop-i.i in
    let stop : is_ascii_digit (get_or bs i 0) ≡ false = ap is_ascii_digit (get_or_past bs i 0 (omega arith)) in
    front_value bs i c.loop-i.value c.loop-i.invariant.all stop c.loop-i.invariant.value c.loop-i.invariant.fits

pub returns-clause-count : goal.returns-clause-count
returns-clause-count c =
    let bs = c.args.bytes.now in
    let i = c.loop-i.i in
    let stop : is_ascii_digit (get_or bs i 0) ≡ false = ap is_ascii_digit (get_or_past bs i 0 (omega arith)) in
    let many = length-front_digits bs i c.loop-i.invariant.all stop in
    omega (arith, many, c.loop-i.auto.i-end, c.loop-i-test.false)
