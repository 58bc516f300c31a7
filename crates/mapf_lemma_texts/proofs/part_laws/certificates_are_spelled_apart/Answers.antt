use Rattle.mapf_lemma_texts.proofs.PartUnique.{one_certificate}
use Rattle.mapf_lemma_texts.proofs.part_laws.certificates_are_spelled_apart.Goals as goal

pub returns : goal.returns
returns c = one_certificate
