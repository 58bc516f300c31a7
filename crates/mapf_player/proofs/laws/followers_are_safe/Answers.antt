use Rattle.mapf_player.proofs.FollowLemmas.{always_safe}
use Rattle.mapf_player.proofs.laws.followers_are_safe.Goals as goal

pub returns : goal.returns
returns c = always_safe
