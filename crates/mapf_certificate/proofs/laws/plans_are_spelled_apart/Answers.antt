use Rattle.mapf_certificate.proofs.OnePlan.{one_plan}
use Rattle.mapf_certificate.proofs.laws.plans_are_spelled_apart.Goals as goal

pub returns : goal.returns
returns c = one_plan
