use Rattle.std.proofs.Common.{◌≡◌, false, take}
use Rattle.mapf_fields.specs.Pages.{Passes}
use Rattle.mapf_model.specs.Tree.{blocks_of}
use Rattle.mapf_certificate.specs.Certificates.{blocks_text}
use Rattle.mapf_certificate.proofs.text_writer.TextWriter.blocks.Given as goal

abbrev pub invariant-loop-place : goal.invariant-loop-place
invariant-loop-place g l =
    let sink = g.K.Sink in
    record {
      works : sink.has_failed l.sink ≡ false;
      width : l.self.width ≡ l.fn.self.width;
      text : Passes (sink.contents l.fn.sink) (sink.contents l.sink) l.fn.self.page l.self.page (blocks_text l.fn.self.width (take l.place (blocks_of (g.N.AsNode.node l.node))));
    }
