use Rattle.std.proofs.Common.{◌≡◌, false, Some, take, slice_get}
use Rattle.mapf_fields.specs.Pages.{Passes}
use Rattle.mapf_model.specs.Blocks.{LabelBlock}
use Rattle.mapf_model.specs.Tree.{blocks_of}
use Rattle.mapf_certificate.specs.Certificates.{entries_text}
use Rattle.mapf_certificate.proofs.text_writer.TextWriter.entries.Given as goal

abbrev pub invariant-loop-index : goal.invariant-loop-index
invariant-loop-index g l =
    let sink = g.K.Sink in
    record {
      works : sink.has_failed l.sink ≡ false;
      width : l.self.width ≡ l.fn.self.width;
      text : (block : LabelBlock) → slice_get (blocks_of (g.N.AsNode.node l.node)) l.place ≡ Some block →
          Passes (sink.contents l.fn.sink) (sink.contents l.sink) l.fn.self.page l.self.page (entries_text l.fn.self.width (take l.index block.entries));
    }
