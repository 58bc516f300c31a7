use Rattle.mapf_lemmas.proofs.CertificateLemmas.{certificate_holds}
use Rattle.mapf_lemmas.proofs.laws.certificates_show_truth.Goals as goal

pub returns : goal.returns
returns c problem lists lemmas tree claim shows = certificate_holds problem lists lemmas tree claim shows
