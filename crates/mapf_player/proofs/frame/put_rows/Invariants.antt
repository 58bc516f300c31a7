use Rattle.std.proofs.Common.{◌≡◌, false, length}
use Rattle.std.specs.List.{range_with_len, flat_map}
use Rattle.mapf_fields.specs.Pages.{Passes}
use Rattle.mapf_player.specs.Play.{row_line}
use Rattle.mapf_player.proofs.frame.put_rows.Given as goal

abbrev pub invariant-loop-y : goal.invariant-loop-y
invariant-loop-y g l =
    let sink = g.K.Sink in
    record {
      works : sink.has_failed l.sink ≡ false;
      whole : length l.row ≡ l.grid.width;
      rows : Passes (sink.contents l.fn.sink) (sink.contents l.sink) l.fn.page l.page (flat_map (row_line l.grid l.paths l.tick) (range_with_len 0 l.y));
    }
