use Rattle.std.proofs.Common.{◌≡◌, false, take}
use Rattle.mapf_fields.specs.Pages.{Passes}
use Rattle.mapf_certificate.specs.Plans.{cells_text}
use Rattle.mapf_certificate.proofs.text_writer.TextWriter.cells.Given as goal

abbrev pub invariant-loop-cell : goal.invariant-loop-cell
invariant-loop-cell g l =
    let sink = g.K.Sink in
    record {
      works : sink.has_failed l.sink ≡ false;
      width : l.self.width ≡ l.fn.self.width;
      text : Passes (sink.contents l.fn.sink) (sink.contents l.sink) l.fn.self.page l.self.page (cells_text l.fn.self.width (take l.cell-index l.cells));
    }
