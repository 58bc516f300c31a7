use Rattle.mapf_lemma_checker.proofs.TheoremLemmas.{parts_show}
use Rattle.mapf_lemma_checker.proofs.laws.parts_show_certificates.Goals as goal

pub returns : goal.returns
returns c = parts_show
