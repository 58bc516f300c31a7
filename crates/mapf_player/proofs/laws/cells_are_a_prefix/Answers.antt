use Rattle.mapf_player.proofs.DispatchLemmas.{cells_are_a_prefix}
use Rattle.mapf_player.proofs.laws.cells_are_a_prefix.Goals as goal

pub returns : goal.returns
returns c = cells_are_a_prefix
