use Rattle.std.proofs.lemmas.Result.{err_from_is_err_and}
use Rattle.mapf_certificate.proofs.Windows.{err_passed, Fails-weaker}
use Rattle.mapf_lemma_texts.proofs.PartTexts.{never_next}
use Rattle.mapf_lemma_texts.proofs.part_lines.never_lemma.Goals as goal

pub returns-in_err-cells-clause-fails : goal.returns-in_err-cells-clause-fails
returns-in_err-cells-clause-fails g c =
    err_passed _ _ _ (err_from_is_err_and _ c.from_residual.ensures.1)
    (Fails-weaker _ _ _ _ _ _ _ (never_next c.args.sizes.now c.args.line.now c.in-Never.i c.in-Never.j c.in-Never.cells c.in-Never.is) c.in_err-cells.ensures.fails)
