use Rattle.mapf_lemmas.proofs.PlanLemmas.{priced_bound}
use Rattle.mapf_lemmas.proofs.laws.prices_bound.Goals as goal

pub returns : goal.returns
returns c problem list plan costs agents costed are = priced_bound problem plan costs costed agents are list
