use Rattle.mapf_lemmas.proofs.CertificateLemmas.{all_true}
use Rattle.mapf_lemmas.proofs.laws.lemmas_are_true.Goals as goal

pub returns : goal.returns
returns c problem lists lemmas statements show = all_true problem lists lemmas statements show
