use Rattle.mapf_certificate.proofs.CertTexts.{one_cert}
use Rattle.mapf_certificate.proofs.laws.certificates_are_spelled_apart.Goals as goal

pub returns : goal.returns
returns c = one_cert
