use Rattle.std.proofs.Common.{sym, ◌∙◌}
use Rattle.std.proofs.lemmas.List.{take_rest}
use Rattle.mapf_text.proofs.DecimalLemmas.{digits-none, digits-some}
use Rattle.mapf_text.proofs.decimal.drop_digits.Goals as goal

pub returns-in-Some : goal.returns-in-Some
returns-in-Some c = take_rest c.args.text.now c.in-Some.at ∙ sym (digits-some c.args.text.now c.in-Some.at (sym c.in-Some.ensures.place))

pub returns-in-None : goal.returns-in-None
returns-in-None c = sym (digits-none c.args.text.now (sym c.in-None.ensures.place))
