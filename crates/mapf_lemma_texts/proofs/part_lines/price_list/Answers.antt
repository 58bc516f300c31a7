use Rattle.std.proofs.lemmas.Result.{err_from_is_err_and}
use Rattle.mapf_certificate.proofs.Windows.{err_passed, Fails-weaker}
use Rattle.mapf_lemma_texts.proofs.PartTexts.{list_next}
use Rattle.mapf_lemma_texts.proofs.part_lines.price_list.Goals as goal

pub returns-in_err-prices-clause-fails : goal.returns-in_err-prices-clause-fails
returns-in_err-prices-clause-fails g c =
    err_passed _ _ _ (err_from_is_err_and _ c.from_residual.ensures.1)
    (Fails-weaker _ _ _ _ _ _ _ (list_next c.args.sizes.now c.args.line.now c.in-List.unit c.in-List.prices c.in-List.is) c.in_err-prices.ensures.fails)
