use Rattle.mapf_fields.proofs.Prefixes.{fails_first}
use Rattle.mapf_lemma_texts.proofs.text_writer.LemmaWriter.line.Goals as goal

pub returns-in_err-reserve-clause-text : goal.returns-in_err-reserve-clause-text
returns-in_err-reserve-clause-text g c = fails_first _ _ _ _ _ _ _ c.from_residual.ensures.1 c.in_err-reserve.ensures.text
