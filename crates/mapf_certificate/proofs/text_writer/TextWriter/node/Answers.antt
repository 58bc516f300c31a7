use Rattle.std.proofs.Common.{ap, ◌∙◌}
use Rattle.mapf_fields.proofs.Prefixes.{fails_before, passes_then, same_prefix, same_passes, same_or}
use Rattle.mapf_model.specs.Tree.{blocks_of}
use Rattle.mapf_certificate.specs.Certificates.{line_text, blocks_text, first_line}
use Rattle.mapf_certificate.proofs.text_writer.TextWriter.node.Goals as goal

pub returns-in_err-line-clause-text : goal.returns-in_err-line-clause-text
returns-in_err-line-clause-text g c =
    let width = c.args.self.now.width in let node = g.N.AsNode.node c.args.node.now in
    let first = c.first_line.ensures (blocks_of node) c.block_count.ensures ∙ ap (first_line c.args.version) c.kind.ensures in
    fails_before _ _ _ _ _ _ (line_text width (first_line c.args.version node)) (blocks_text width (blocks_of node)) c.from_residual.ensures.1
    (same_prefix _ _ _ _ (line_text width (first_line c.args.version node)) (ap (line_text width) first) c.in_err-line.ensures.text)

pub returns-clause-text : goal.returns-clause-text
returns-clause-text g c =
    let width = c.args.self.now.width in let node = g.N.AsNode.node c.args.node.now in
    let first = c.first_line.ensures (blocks_of node) c.block_count.ensures ∙ ap (first_line c.args.version) c.kind.ensures in
    passes_then _ _ _ _ _ _ _ (line_text width (first_line c.args.version node)) (blocks_text width (blocks_of node))
    (same_passes _ _ _ _ _ (line_text width (first_line c.args.version node)) (ap (line_text width) first) c.in_ok-line.ensures.text)
    (same_or _ _ _ _ _ _ (blocks_text width (blocks_of node)) (ap (λ w. blocks_text w (blocks_of node)) c.in_ok-line.ensures.width) c.blocks-2.ensures.text)
