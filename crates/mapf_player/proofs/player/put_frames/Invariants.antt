use Rattle.std.proofs.Common.{◌≡◌, false}
use Rattle.std.specs.List.{range_with_len, flat_map}
use Rattle.mapf_fields.specs.Pages.{Passes}
use Rattle.mapf_player.specs.Play.{frame}
use Rattle.mapf_player.proofs.player.put_frames.Given as goal

abbrev pub invariant-loop-tick : goal.invariant-loop-tick
invariant-loop-tick g l =
    let sink = g.K.Sink in
    record {
      works : sink.has_failed l.sink ≡ false;
      frames : Passes (sink.contents l.fn.sink) (sink.contents l.sink) l.fn.page l.page (flat_map (frame l.grid l.paths) (range_with_len 0 l.tick));
    }
