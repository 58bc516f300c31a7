use Rattle.mapf_fields.proofs.Prefixes.{finish_held}
use Rattle.mapf_lemma_texts.proofs.text_writer.LemmaWriter.end.Goals as goal

pub returns-clause-text : goal.returns-clause-text
returns-clause-text g c = finish_held _ _ _ _ _ _ _ c.in_ok-line.ensures.text c.finish.ensures.text
