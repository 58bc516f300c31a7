use Rattle.std.proofs.Common.{length, ap, sym, ◌∙◌}
use Rattle.mapf_fields.proofs.Prefixes.{fails_before, passes_then, same_prefix, same_passes, same_or}
use Rattle.mapf_model.proofs.ClaimLemmas.{slice_get_inside}
use Rattle.mapf_model.specs.Tree.{blocks_of}
use Rattle.mapf_certificate.specs.declared.line.CertLine.TheVariants as lines
use Rattle.mapf_certificate.specs.Certificates.{line_text, entries_text}
use Rattle.mapf_certificate.proofs.text_writer.TextWriter.block.Goals as goal

pub returns-in_err-line-clause-text : goal.returns-in_err-line-clause-text
returns-in_err-line-clause-text g c = λ block is.
    let width = c.args.self.now.width in let said = c.block-agent.ensures block is in
    let line = line_text width (lines.Agent block.agent (length block.entries)) in
    let same = ap (λ a. line_text width (lines.Agent a c.block-agent.result.1)) (sym said.0) ∙ ap (λ n. line_text width (lines.Agent block.agent n)) (sym said.1) in
    fails_before _ _ _ _ _ _ line (entries_text width block.entries) c.from_residual.ensures.1 (same_prefix _ _ _ _ line same c.in_err-line.ensures.text)

pub entries-requires-clause-all : goal.entries-requires-clause-all
entries-requires-clause-all g c =
    let (block, is) = slice_get_inside (blocks_of (g.N.AsNode.node c.args.node.now)) c.args.place c.requires.inside in
    (block, is, (c.block-agent.ensures block is).1)

pub returns-clause-text : goal.returns-clause-text
returns-clause-text g c = λ block is.
    let width = c.args.self.now.width in let said = c.block-agent.ensures block is in
    let line = line_text width (lines.Agent block.agent (length block.entries)) in
    let same = ap (λ a. line_text width (lines.Agent a c.block-agent.result.1)) (sym said.0) ∙ ap (λ n. line_text width (lines.Agent block.agent n)) (sym said.1) in
    passes_then _ _ _ _ _ _ _ line (entries_text width block.entries) (same_passes _ _ _ _ _ line same c.in_ok-line.ensures.text)
    (same_or _ _ _ _ _ _ (entries_text width block.entries) (ap (λ w. entries_text w block.entries) c.in_ok-line.ensures.width) (c.entries.ensures.text block is))
