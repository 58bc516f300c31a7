use Rattle.mapf_player.proofs.VisitLemmas.{visits_are_one}
use Rattle.mapf_player.proofs.laws.visits_are_one.Goals as goal

pub returns : goal.returns
returns c = visits_are_one
