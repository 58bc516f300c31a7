use Rattle.std.proofs.Common.{ap}
use Rattle.mapf_fields.proofs.Prefixes.{fails_before, passes_then, same_prefix, same_passes, same_or}
use Rattle.mapf_lemma_texts.specs.Lines.{line_text}
use Rattle.mapf_lemma_texts.specs.Parts.{first_line, more_text}
use Rattle.mapf_lemma_texts.proofs.text_writer.LemmaWriter.part.Goals as goal

pub returns-in_err-line-clause-text : goal.returns-in_err-line-clause-text
returns-in_err-line-clause-text g c =
    let width = c.args.self.now.width in
    let part = c.args.part.now in
    let first = line_text width (first_line part) in
    fails_before _ _ _ _ _ _ first (more_text width part) c.from_residual.ensures.1 (same_prefix _ _ _ _ first (ap (line_text width) c.first_line.ensures) c.in_err-line.ensures.text)

pub returns-clause-text : goal.returns-clause-text
returns-clause-text g c =
    let width = c.args.self.now.width in
    let part = c.args.part.now in
    let first = line_text width (first_line part) in
    passes_then _ _ _ _ _ _ _ first (more_text width part) (same_passes _ _ _ _ _ first (ap (line_text width) c.first_line.ensures) c.in_ok-line.ensures.text)
    (same_or _ _ _ _ _ _ (more_text width part) (ap (λ w. more_text w part) c.in_ok-line.ensures.width) c.rest.ensures.text)
