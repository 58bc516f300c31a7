use Rattle.std.proofs.Common.{◌∷◌, []}
use Rattle.mapf_fields.proofs.Prefixes.{passes_then, fails, prefix_held}
use Rattle.mapf_player.proofs.frame.put_row.Goals as goal

pub returns-in_err-put-clause-text : goal.returns-in_err-put-clause-text
returns-in_err-put-clause-text g c =
    fails _ _ _ _ _ _ _ c.from_residual.ensures.1 (prefix_held _ _ _ c.args.row.now (10 ∷ []) c.in_err-put.ensures.text)

pub returns-clause-text : goal.returns-clause-text
returns-clause-text g c =
    passes_then _ _ _ _ _ _ _ c.args.row.now (10 ∷ []) c.in_ok-put.ensures.text c.put-2.ensures.text
