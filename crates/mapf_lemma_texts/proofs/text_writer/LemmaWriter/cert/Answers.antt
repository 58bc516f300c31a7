use Rattle.std.proofs.Common.{◌++◌, ap, ◌∙◌}
use Rattle.std.specs.List.{flat_map}
use Rattle.mapf_fields.proofs.Prefixes.{start_fails, middle_fails, finish_last, same_prefix, same_passes, same_finish}
use Rattle.mapf_lemma_texts.specs.declared.line.LemmaLine.TheVariants as lines
use Rattle.mapf_lemma_texts.specs.Lines.{line_text}
use Rattle.mapf_lemma_texts.specs.PartReading.{header_text}
use Rattle.mapf_lemma_texts.specs.Parts.{part_text}
use Rattle.mapf_lemma_texts.proofs.text_writer.LemmaWriter.cert.Goals as goal

pub returns-in_err-header-clause-text : goal.returns-in_err-header-clause-text
returns-in_err-header-clause-text g c =
    let width = c.args.self.now.width in
    start_fails _ _ _ _ _ (header_text width c.args.agents c.args.claim) (flat_map (part_text width) c.args.parts.now ++ line_text width lines.End) c.from_residual.ensures.1 c.requires.empty c.in_err-header.ensures.text

pub returns-in_err-parts-clause-text : goal.returns-in_err-parts-clause-text
returns-in_err-parts-clause-text g c =
    let width = c.args.self.now.width in
    let parts = flat_map (part_text width) c.args.parts.now in
    let same = ap (λ w. flat_map (part_text w) c.args.parts.now) c.in_ok-header.ensures.width in
    middle_fails _ _ _ _ _ _ _ (header_text width c.args.agents c.args.claim) parts (line_text width lines.End) c.from_residual-in_err-parts.ensures.1 c.requires.empty c.in_ok-header.ensures.text
    (same_prefix _ _ _ _ parts same c.in_err-parts.ensures.text)

pub returns-clause-text : goal.returns-clause-text
returns-clause-text g c =
    let width = c.args.self.now.width in
    let parts = flat_map (part_text width) c.args.parts.now in
    let same = ap (λ w. flat_map (part_text w) c.args.parts.now) c.in_ok-header.ensures.width in
    finish_last _ _ _ _ _ _ _ _ (header_text width c.args.agents c.args.claim) parts (line_text width lines.End) c.requires.empty c.in_ok-header.ensures.text
    (same_passes _ _ _ _ _ parts same c.in_ok-parts.ensures.text)
    (same_finish _ _ _ _ _ (line_text width lines.End) (ap (λ w. line_text w lines.End) (c.in_ok-parts.ensures.width ∙ c.in_ok-header.ensures.width)) c.end.ensures.text)
