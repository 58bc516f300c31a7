use Rattle.std.proofs.Common.{map, ap, sym, ◌∙◌}
use Rattle.std.specs.List.{flat_map}
use Rattle.std.proofs.lemmas.List.Folds.{flat_map-map}
use Rattle.mapf_fields.proofs.Prefixes.{start_fails, middle_fails, finish_last, same_prefix, same_passes, same_finish}
use Rattle.mapf_certificate.specs.declared.line.CertLine.TheVariants as lines
use Rattle.mapf_certificate.specs.Certificates.{header_text, node_text, line_text, rest_text}
use Rattle.mapf_certificate.proofs.text_writer.TextWriter.tree.Goals as goal

pub returns-in_err-header-clause-text : goal.returns-in_err-header-clause-text
returns-in_err-header-clause-text g c =
    let width = c.args.self.now.width in
    start_fails _ _ _ _ _ (header_text c.args.version width c.args.agents c.args.claim) (rest_text c.args.version width (map g.N.AsNode.node c.args.nodes.now)) c.from_residual.ensures.1 c.requires.empty c.in_err-header.ensures.text

pub returns-in_err-nodes-clause-text : goal.returns-in_err-nodes-clause-text
returns-in_err-nodes-clause-text g c =
    let width = c.args.self.now.width in let version = c.args.version in
    let nodes = flat_map (node_text version width) (map g.N.AsNode.node c.args.nodes.now) in
    let same = ap (λ w. flat_map (λ one. node_text version w (g.N.AsNode.node one)) c.args.nodes.now) c.in_ok-header.ensures.width ∙ sym (flat_map-map (node_text version width) g.N.AsNode.node c.args.nodes.now) in
    middle_fails _ _ _ _ _ _ _ (header_text version width c.args.agents c.args.claim) nodes (line_text width lines.End) c.from_residual-in_err-nodes.ensures.1 c.requires.empty c.in_ok-header.ensures.text
    (same_prefix _ _ _ _ nodes same c.in_err-nodes.ensures.text)

pub returns-clause-text : goal.returns-clause-text
returns-clause-text g c =
    let width = c.args.self.now.width in let version = c.args.version in
    let nodes = flat_map (node_text version width) (map g.N.AsNode.node c.args.nodes.now) in
    let same = ap (λ w. flat_map (λ one. node_text version w (g.N.AsNode.node one)) c.args.nodes.now) c.in_ok-header.ensures.width ∙ sym (flat_map-map (node_text version width) g.N.AsNode.node c.args.nodes.now) in
    finish_last _ _ _ _ _ _ _ _ (header_text version width c.args.agents c.args.claim) nodes (line_text width lines.End) c.requires.empty c.in_ok-header.ensures.text
    (same_passes _ _ _ _ _ nodes same c.in_ok-nodes.ensures.text)
    (same_finish _ _ _ _ _ (line_text width lines.End) (ap (λ w. line_text w lines.End) (c.in_ok-nodes.ensures.width ∙ c.in_ok-header.ensures.width)) c.finish.ensures.text)
