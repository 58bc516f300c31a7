use Rattle.mapf_lemmas.proofs.CaseLemmas.{child_kept}
use Rattle.mapf_lemmas.proofs.laws.splits_lose_no_plan.Goals as goal

pub returns : goal.returns
returns c scope constraints split plan costs known proper costed obey = child_kept scope plan costs costed known constraints obey split proper
