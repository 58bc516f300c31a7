use Rattle.std.proofs.Common.{ap, ◌++◌, ◌∙◌}
use Rattle.mapf_fields.proofs.Prefixes.{fails_before, fails_after, passes_then, prefix_held, same_prefix, same_passes, same_or}
use Rattle.mapf_lemma_texts.specs.declared.line.LemmaLine.TheVariants as lines
use Rattle.mapf_lemma_texts.specs.Lines.{line_text}
use Rattle.mapf_lemma_texts.proofs.text_writer.LemmaWriter.header.Goals as goal

pub returns-in_err-line-clause-text : goal.returns-in_err-line-clause-text
returns-in_err-line-clause-text g c =
    let text = line_text c.args.self.now.width in
    fails_before _ _ _ _ _ _ (text lines.Title) (text (lines.Agents c.args.agents) ++ text (lines.Claim c.args.claim)) c.from_residual.ensures.1 c.in_err-line.ensures.text

pub returns-in_err-line-2-clause-text : goal.returns-in_err-line-2-clause-text
returns-in_err-line-2-clause-text g c =
    let text = line_text c.args.self.now.width in
    let agents = lines.Agents c.args.agents in
    fails_after _ _ _ _ _ _ _ _ (text lines.Title) (text agents ++ text (lines.Claim c.args.claim)) c.from_residual-in_err-line-2.ensures.1 c.in_ok-line.ensures.text
    (prefix_held _ _ _ (text agents) (text (lines.Claim c.args.claim)) (same_prefix _ _ _ _ (text agents) (ap (λ w. line_text w agents) c.in_ok-line.ensures.width) c.in_err-line-2.ensures.text))

pub returns-clause-text : goal.returns-clause-text
returns-clause-text g c =
    let text = line_text c.args.self.now.width in
    let agents = lines.Agents c.args.agents in
    let claim = lines.Claim c.args.claim in
    passes_then _ _ _ _ _ _ _ (text lines.Title) (text agents ++ text claim) c.in_ok-line.ensures.text
    (passes_then _ _ _ _ _ _ _ (text agents) (text claim)
    (same_passes _ _ _ _ _ (text agents) (ap (λ w. line_text w agents) c.in_ok-line.ensures.width) c.in_ok-line-2.ensures.text)
    (same_or _ _ _ _ _ _ (text claim) (ap (λ w. line_text w claim) (c.in_ok-line-2.ensures.width ∙ c.in_ok-line.ensures.width)) c.line-3.ensures.text))
