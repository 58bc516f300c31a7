use Rattle.std.proofs.Common.{rules}
use Rattle.mapf_text.specs.Numbers.{AreDigits}
use Rattle.mapf_text.proofs.NumberLemmas.{digits-text, digits-refused}
use Rattle.mapf_text.proofs.number.read_number.Goals as goal

pub returns-in_default : goal.returns-in_default
returns-in_default c n spelled = absurd (c.in_default.ensures.cases.0 (digits-text c.args.word.now spelled.digits))

pub returns-in-Err : goal.returns-in-Err
returns-in-Err c =
    let digits : AreDigits c.args.word.now = search rules in
    digits-refused c.args.word.now c.in-Err.field-0 digits (rw c.in-Ok.ensures.cases.0 at c.in-Err.ensures.value.0)
