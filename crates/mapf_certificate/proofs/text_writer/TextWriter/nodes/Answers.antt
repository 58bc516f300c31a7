use Rattle.std.proofs.Common.{rules, ap}
use Rattle.mapf_fields.proofs.Prefixes.{fails}
use Rattle.mapf_fields.proofs.ListPieces.{list_more, list_prefix}
use Rattle.mapf_certificate.specs.Certificates.{node_text}
use Rattle.mapf_certificate.proofs.text_writer.TextWriter.nodes.Goals as goal

pub returns-in_err-node-clause-text : goal.returns-in_err-node-clause-text
returns-in_err-node-clause-text g c =
    fails _ _ _ _ _ _ _ c.from_residual.ensures.1 (list_prefix (λ one. node_text c.args.version c.args.self.now.width (g.N.AsNode.node one)) c.args.nodes.now c.loop-node.node-index c.node-item.result c.loop-node-test.true c.node-item.is
    _ _ _ _ _ _ (ap (λ w. node_text c.args.version w (g.N.AsNode.node c.node-item.result)) c.loop-node.invariant.width) c.loop-node.invariant.text c.in_err-node.ensures.text)

pub loop-node-preserved : goal.loop-node-preserved
loop-node-preserved g c = record {
  works = search rules;
  width = search rules;
  text = list_more (λ one. node_text c.args.version c.args.self.now.width (g.N.AsNode.node one)) c.args.nodes.now c.loop-node.node-index c.node-item.result c.loop-node-test.true c.node-item.is
      _ _ _ _ _ _ _ (ap (λ w. node_text c.args.version w (g.N.AsNode.node c.node-item.result)) c.loop-node.invariant.width) c.loop-node.invariant.text c.in_ok-node.ensures.text;
}
