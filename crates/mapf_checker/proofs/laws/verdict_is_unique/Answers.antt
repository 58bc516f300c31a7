use Rattle.mapf_checker.proofs.UniqueLemmas.{verdict_is_unique}
use Rattle.mapf_checker.proofs.laws.verdict_is_unique.Goals as goal

pub returns : goal.returns
returns c = verdict_is_unique c.plans_are_spelled_apart.ensures c.certificates_are_spelled_apart.ensures c.sums_are_one.ensures
