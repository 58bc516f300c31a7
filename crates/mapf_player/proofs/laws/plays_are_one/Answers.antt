use Rattle.mapf_player.proofs.PlayLemmas.{plays_are_one}
use Rattle.mapf_player.proofs.laws.plays_are_one.Goals as goal

pub returns : goal.returns
returns c = plays_are_one
