use Rattle.std.proofs.Common.{◌∷◌, []}
use Rattle.std.specs.Fmt.{decimal}
use Rattle.mapf_fields.proofs.Prefixes.{digits_then, fails, prefix_digits}
use Rattle.mapf_player.proofs.line.put_line.Goals as goal

pub returns-in_err-put_number-clause-text : goal.returns-in_err-put_number-clause-text
returns-in_err-put_number-clause-text g c =
    fails _ _ _ _ _ _ _ c.from_residual.ensures.1 (prefix_digits _ _ _ c.args.word.now (decimal c.args.number) (10 ∷ []) c.in_err-put_number.ensures.text)

pub returns-clause-text : goal.returns-clause-text
returns-clause-text g c =
    digits_then _ _ _ _ _ _ _ c.args.word.now (decimal c.args.number) (10 ∷ []) c.in_ok-put_number.ensures.text c.put.ensures.text
