use Rattle.std.proofs.Common.{codes}
use Rattle.mapf_player.specs.Play.{frame, line, rows}
use Rattle.mapf_fields.proofs.Prefixes.{passes_then, fails, prefix_held}
use Rattle.mapf_player.proofs.frame.put_frame.Goals as goal

pub returns-in_err-put_line-clause-text : goal.returns-in_err-put_line-clause-text
unfolding frame
returns-in_err-put_line-clause-text g c =
    fails _ _ _ _ _ _ _ c.from_residual.ensures.1 (prefix_held _ _ _ (line (codes "tick ") c.args.tick) (rows c.args.grid.now c.args.paths.now c.args.tick) c.in_err-put_line.ensures.text)

pub returns-clause-text : goal.returns-clause-text
unfolding frame
returns-clause-text g c =
    passes_then _ _ _ _ _ _ _ (line (codes "tick ") c.args.tick) (rows c.args.grid.now c.args.paths.now c.args.tick) c.in_ok-put_line.ensures.text c.put_rows.ensures.text
