use Rattle.std.proofs.Common.{ap}
use Rattle.mapf_fields.proofs.Prefixes.{fails_before, passes_then, same_or}
use Rattle.mapf_lemma_texts.specs.Listing.{values_text}
use Rattle.mapf_lemma_texts.proofs.text_writer.LemmaWriter.both.Goals as goal

pub returns-in_err-values-clause-text : goal.returns-in_err-values-clause-text
returns-in_err-values-clause-text g c =
    let width = c.args.self.now.width in
    fails_before _ _ _ _ _ _ (values_text width g.T.Listed.line_of c.args.values.now) (values_text width g.U.Listed.line_of c.args.others.now) c.from_residual.ensures.1 c.in_err-values.ensures.text

pub returns-clause-text : goal.returns-clause-text
returns-clause-text g c =
    let width = c.args.self.now.width in
    let others = values_text width g.U.Listed.line_of c.args.others.now in
    passes_then _ _ _ _ _ _ _ (values_text width g.T.Listed.line_of c.args.values.now) others c.in_ok-values.ensures.text
    (same_or _ _ _ _ _ _ others (ap (λ w. values_text w g.U.Listed.line_of c.args.others.now) c.in_ok-values.ensures.width) c.values-2.ensures.text)
