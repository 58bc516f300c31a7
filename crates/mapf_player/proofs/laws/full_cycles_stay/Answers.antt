use Rattle.mapf_player.proofs.StayLemmas.{full_cycles_stay}
use Rattle.mapf_player.proofs.laws.full_cycles_stay.Goals as goal

pub returns : goal.returns
returns c = full_cycles_stay
