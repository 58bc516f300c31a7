use Rattle.std.proofs.Common.{◌+◌, [], codes}
use Rattle.std.specs.List.{range_with_len, flat_map}
use Rattle.mapf_player.specs.Play.{frame, line}
use Rattle.mapf_fields.proofs.Prefixes.{passes_trans, prefix_held, prefix_after, write_fails, finish}
use Rattle.mapf_player.proofs.player.write_text.Goals as goal

pub returns-in_err-put_frames-clause-text : goal.returns-in_err-put_frames-clause-text
returns-in_err-put_frames-clause-text g c =
    let frames = rw c.empty-page.ensures at c.in_err-put_frames.ensures.text in
    write_fails _ _ _ _ _ c.from_residual.ensures.1 (prefix_held _ _ [] (flat_map (frame c.args.grid.now c.args.paths.now) (range_with_len 0 (c.args.last + 1))) (line (codes "end ") c.args.last) frames)

pub returns-in_err-put_line-clause-text : goal.returns-in_err-put_line-clause-text
returns-in_err-put_line-clause-text g c =
    let frames = rw c.empty-page.ensures at c.in_ok-put_frames.ensures.text in
    write_fails _ _ _ _ _ c.from_residual-in_err-put_line.ensures.1 (prefix_after _ _ _ [] _ (flat_map (frame c.args.grid.now c.args.paths.now) (range_with_len 0 (c.args.last + 1))) (line (codes "end ") c.args.last) frames c.in_err-put_line.ensures.text)

pub returns-clause-text : goal.returns-clause-text
returns-clause-text g c =
    let frames = rw c.empty-page.ensures at c.in_ok-put_frames.ensures.text in
    let whole = passes_trans _ _ _ [] _ _ (flat_map (frame c.args.grid.now c.args.paths.now) (range_with_len 0 (c.args.last + 1))) (line (codes "end ") c.args.last) frames c.in_ok-put_line.ensures.text in
    finish _ _ _ _ _ _ whole c.flush.ensures.text
