use Rattle.mapf_model.proofs.ClaimLemmas.{holds_of_plans, shown_at_root}
use Rattle.mapf_model.proofs.laws.shown_claims_hold.Goals as goal

pub returns : goal.returns
returns c problem claim tree shows = holds_of_plans problem claim (λ plan valid. shown_at_root problem plan valid claim tree shows)
