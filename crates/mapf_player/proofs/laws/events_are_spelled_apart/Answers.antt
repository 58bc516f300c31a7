use Rattle.mapf_player.proofs.EventLemmas.{events_are_spelled_apart}
use Rattle.mapf_player.proofs.laws.events_are_spelled_apart.Goals as goal

pub returns : goal.returns
returns c = events_are_spelled_apart
