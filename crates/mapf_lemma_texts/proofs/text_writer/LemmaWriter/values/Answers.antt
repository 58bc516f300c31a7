use Rattle.std.proofs.Common.{rules, ap, ◌∙◌}
use Rattle.mapf_fields.proofs.Prefixes.{fails}
use Rattle.mapf_fields.proofs.ListPieces.{list_more, list_prefix}
use Rattle.mapf_lemma_texts.specs.Lines.{line_text}
use Rattle.mapf_lemma_texts.specs.Listing.{value_text}
use Rattle.mapf_lemma_texts.proofs.text_writer.LemmaWriter.values.Goals as goal

pub returns-in_err-line-clause-text : goal.returns-in_err-line-clause-text
returns-in_err-line-clause-text g c =
    let line = g.T.Listed.line_of in
    let value = c.value-item.result in
    let same = ap (line_text c.loop-value.self.width) c.to_line.ensures ∙ ap (λ w. value_text w line value) c.loop-value.invariant.width in
    fails _ _ _ _ _ _ _ c.from_residual.ensures.1 (list_prefix (value_text c.args.self.now.width line) c.args.values.now c.loop-value.value-index value c.loop-value-test.true c.value-item.is
    _ _ _ _ _ _ same c.loop-value.invariant.text c.in_err-line.ensures.text)

pub loop-value-preserved : goal.loop-value-preserved
loop-value-preserved g c =
    let line = g.T.Listed.line_of in
    let value = c.value-item.result in
    let same = ap (line_text c.loop-value.self.width) c.to_line.ensures ∙ ap (λ w. value_text w line value) c.loop-value.invariant.width in
    record {
      works = search rules;
      width = search rules;
      text = list_more (value_text c.args.self.now.width line) c.args.values.now c.loop-value.value-index value c.loop-value-test.true c.value-item.is
          _ _ _ _ _ _ _ same c.loop-value.invariant.text c.in_ok-line.ensures.text;
    }
