use Rattle.mapf_fields.proofs.Prefixes.{finish_held}
use Rattle.mapf_certificate.proofs.text_writer.TextWriter.finish.Goals as goal

pub returns-clause-text : goal.returns-clause-text
returns-clause-text g c = finish_held _ _ _ _ _ _ _ c.in_ok-line.ensures.text c.flush.ensures.text
