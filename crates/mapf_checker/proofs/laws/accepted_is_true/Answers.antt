use Rattle.mapf_checker.proofs.VerdictLemmas.{accepted_is_true}
use Rattle.mapf_checker.proofs.laws.accepted_is_true.Goals as goal

pub returns : goal.returns
returns c = accepted_is_true c.shown_claims_hold.ensures c.certificates_show_truth.ensures
