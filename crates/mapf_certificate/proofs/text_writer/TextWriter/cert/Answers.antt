use Rattle.mapf_certificate.proofs.text_writer.TextWriter.cert.Goals as goal

pub returns-clause-text : goal.returns-clause-text
returns-clause-text g c = rw c.deref.ensures.value at c.tree.ensures.text
