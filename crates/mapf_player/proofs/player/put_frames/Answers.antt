use Rattle.std.proofs.Common.{◌≡◌, ◌+◌, arith, rules}
use Rattle.mapf_player.specs.Play.{frame}
use Rattle.mapf_fields.proofs.Prefixes.{fails}
use Rattle.mapf_player.proofs.Pieces.{pieces_more, pieces_prefix}
use Rattle.mapf_player.proofs.player.put_frames.Goals as goal

pub returns-in_err-put_frame-clause-text : goal.returns-in_err-put_frame-clause-text
returns-in_err-put_frame-clause-text g c =
    fails _ _ _ _ _ _ _ c.from_residual.ensures.1 (pieces_prefix (frame c.args.grid.now c.args.paths.now) (c.args.last + 1) c.loop-tick.tick _ _ _ _ _ (omega arith) c.loop-tick.invariant.frames c.in_err-put_frame.ensures.text)

pub loop-tick-preserved : goal.loop-tick-preserved
loop-tick-preserved g c = record {
  works = search rules;
  frames = pieces_more (frame c.args.grid.now c.args.paths.now) c.loop-tick.tick _ _ _ _ _ _ c.loop-tick.invariant.frames c.in_ok-put_frame.ensures.text;
}

pub returns-in_ok-put_frame-clause-text : goal.returns-in_ok-put_frame-clause-text
returns-in_ok-put_frame-clause-text g c =
    let last : c.loop-tick.tick ≡ c.args.last = omega arith in
    let frames = pieces_more (frame c.args.grid.now c.args.paths.now) c.loop-tick.tick _ _ _ _ _ _ c.loop-tick.invariant.frames c.in_ok-put_frame.ensures.text in
    rw last at frames
