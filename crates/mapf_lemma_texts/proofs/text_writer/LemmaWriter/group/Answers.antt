use Rattle.std.proofs.Common.{length, ap, ◌∙◌}
use Rattle.mapf_fields.proofs.Prefixes.{fails_before, passes_then, same_prefix, same_passes, same_or}
use Rattle.mapf_lemma_texts.specs.declared.line.LemmaLine.TheVariants as lines
use Rattle.mapf_lemma_texts.specs.Lines.{line_text}
use Rattle.mapf_lemma_texts.specs.Listing.{values_text}
use Rattle.mapf_lemma_texts.proofs.text_writer.LemmaWriter.group.Goals as goal

pub returns-in_err-line-clause-text : goal.returns-in_err-line-clause-text
returns-in_err-line-clause-text g c =
    let w = c.args.self.now.width in
    let i = c.group.inside in
    let first = line_text w (lines.Group (length i.uses.items) i.divisor) in
    rw (← c.group.view_is) (fails_before _ _ _ _ _ _ first (values_text w lines.WeightedUse i.uses.items) c.from_residual.ensures.1
    (same_prefix _ _ _ _ first (ap (λ n. line_text w (lines.Group n i.divisor)) (c.len.ensures ∙ i.uses.ok.0)) c.in_err-line.ensures.text))

pub returns-clause-text : goal.returns-clause-text
returns-clause-text g c =
    let w = c.args.self.now.width in
    let i = c.group.inside in
    let first = line_text w (lines.Group (length i.uses.items) i.divisor) in
    let uses = values_text w lines.WeightedUse i.uses.items in
    rw (← c.group.view_is) (passes_then _ _ _ _ _ _ _ first uses (same_passes _ _ _ _ _ first (ap (λ n. line_text w (lines.Group n i.divisor)) (c.len.ensures ∙ i.uses.ok.0)) c.in_ok-line.ensures.text)
    (same_or _ _ _ _ _ _ uses (ap (λ v. values_text v lines.WeightedUse c.deref.result.now) c.in_ok-line.ensures.width ∙ ap (values_text w lines.WeightedUse) c.deref.ensures.value) c.values.ensures.text))
