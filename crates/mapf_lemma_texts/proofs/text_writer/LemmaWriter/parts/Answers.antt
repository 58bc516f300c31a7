use Rattle.std.proofs.Common.{rules, ap, sym, subst}
use Rattle.mapf_fields.proofs.Prefixes.{fails}
use Rattle.mapf_fields.proofs.ListPieces.{list_more, list_prefix}
use Rattle.mapf_lemma_texts.specs.PartWriting.{HasFewValues}
use Rattle.mapf_lemma_texts.specs.Parts.{part_text}
use Rattle.mapf_lemma_texts.proofs.text_writer.LemmaWriter.parts.Goals as goal

pub returns-in_err-part-clause-text : goal.returns-in_err-part-clause-text
returns-in_err-part-clause-text g c =
    fails _ _ _ _ _ _ _ c.from_residual.ensures.1 (list_prefix (part_text c.args.self.now.width) c.args.parts.now c.loop-part.part-index c.part-item.result c.loop-part-test.true c.part-item.is
    _ _ _ _ _ _ (ap (λ w. part_text w c.part-item.result) c.loop-part.invariant.width) c.loop-part.invariant.text c.in_err-part.ensures.text)

pub loop-part-preserved : goal.loop-part-preserved
loop-part-preserved g c = record {
  works = search rules;
  width = search rules;
  text = list_more (part_text c.args.self.now.width) c.args.parts.now c.loop-part.part-index c.part-item.result c.loop-part-test.true c.part-item.is
      _ _ _ _ _ _ _ (ap (λ w. part_text w c.part-item.result) c.loop-part.invariant.width) c.loop-part.invariant.text c.in_ok-part.ensures.text;
}

pub part-requires-clause-few : goal.part-requires-clause-few
part-requires-clause-few g c = subst HasFewValues (sym c.part-item.is) (c.requires.few c.loop-part.part-index c.part-item.result c.loop-part-test.true)
