use Rattle.std.proofs.Common.{◌≡◌, false, take}
use Rattle.std.specs.List.{flat_map}
use Rattle.mapf_fields.specs.Pages.{Passes}
use Rattle.mapf_certificate.specs.Certificates.{node_text}
use Rattle.mapf_certificate.proofs.text_writer.TextWriter.nodes.Given as goal

abbrev pub invariant-loop-node : goal.invariant-loop-node
invariant-loop-node g l =
    let sink = g.K.Sink in
    record {
      works : sink.has_failed l.sink ≡ false;
      width : l.self.width ≡ l.fn.self.width;
      text : Passes (sink.contents l.fn.sink) (sink.contents l.sink) l.fn.self.page l.self.page (flat_map (λ one. node_text l.version l.fn.self.width (g.N.AsNode.node one)) (take l.node-index l.nodes));
    }
