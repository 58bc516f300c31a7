use Rattle.mapf_checker.proofs.VerdictLemmas.{fitting_claims_have_verdicts}
use Rattle.mapf_checker.proofs.laws.fitting_claims_have_verdicts.Goals as goal

pub returns : goal.returns
returns c = fitting_claims_have_verdicts
