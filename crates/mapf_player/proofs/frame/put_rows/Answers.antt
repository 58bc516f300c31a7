use Rattle.std.proofs.Common.{rules}
use Rattle.mapf_player.specs.Play.{row_line}
use Rattle.mapf_fields.proofs.Prefixes.{fails}
use Rattle.mapf_player.proofs.Pieces.{pieces_more, pieces_prefix}
use Rattle.mapf_player.proofs.frame.put_rows.Goals as goal

pub returns-in_err-put_row-clause-text : goal.returns-in_err-put_row-clause-text
unfolding row_line
returns-in_err-put_row-clause-text g c =
    let line = rw c.draw_row.ensures at c.in_err-put_row.ensures.text in
    fails _ _ _ _ _ _ _ c.from_residual.ensures.1 (pieces_prefix (row_line c.args.grid.now c.args.paths.now c.args.tick) c.args.grid.now.height c.loop-y.y _ _ _ _ _ (rw c.height-y-end.ensures.height at c.loop-y-test.true) c.loop-y.invariant.rows line)

pub loop-y-preserved : goal.loop-y-preserved
unfolding row_line
loop-y-preserved g c =
    let line = rw c.draw_row.ensures at c.in_ok-put_row.ensures.text in
    record {
      works = search rules;
      whole = search rules;
      rows = pieces_more (row_line c.args.grid.now c.args.paths.now c.args.tick) c.loop-y.y _ _ _ _ _ _ c.loop-y.invariant.rows line;
    }
