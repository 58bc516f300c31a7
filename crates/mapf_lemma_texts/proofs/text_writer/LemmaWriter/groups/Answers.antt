use Rattle.std.proofs.Common.{rules, ap, sym, subst}
use Rattle.mapf_fields.proofs.Prefixes.{fails}
use Rattle.mapf_fields.proofs.ListPieces.{list_more, list_prefix}
use Rattle.mapf_lemma_texts.specs.PartWriting.{HasFewUses}
use Rattle.mapf_lemma_texts.specs.Parts.{group_text}
use Rattle.mapf_lemma_texts.proofs.text_writer.LemmaWriter.groups.Goals as goal

pub returns-in_err-group-clause-text : goal.returns-in_err-group-clause-text
returns-in_err-group-clause-text g c =
    fails _ _ _ _ _ _ _ c.from_residual.ensures.1 (list_prefix (group_text c.args.self.now.width) c.args.groups.now c.loop-group.group-index c.group-item.result c.loop-group-test.true c.group-item.is
    _ _ _ _ _ _ (ap (λ w. group_text w c.group-item.result) c.loop-group.invariant.width) c.loop-group.invariant.text c.in_err-group.ensures.text)

pub loop-group-preserved : goal.loop-group-preserved
loop-group-preserved g c = record {
  works = search rules;
  width = search rules;
  text = list_more (group_text c.args.self.now.width) c.args.groups.now c.loop-group.group-index c.group-item.result c.loop-group-test.true c.group-item.is
      _ _ _ _ _ _ _ (ap (λ w. group_text w c.group-item.result) c.loop-group.invariant.width) c.loop-group.invariant.text c.in_ok-group.ensures.text;
}

pub group-requires-clause-few : goal.group-requires-clause-few
group-requires-clause-few g c = subst HasFewUses (sym c.group-item.is) (c.requires.few c.loop-group.group-index c.group-item.result c.loop-group-test.true)
