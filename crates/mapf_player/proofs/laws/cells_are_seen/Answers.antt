use Rattle.mapf_player.proofs.PlayLemmas.{agents_are_seen, terrain_is_seen}
use Rattle.mapf_player.proofs.laws.cells_are_seen.Goals as goal

pub returns-clause-agents : goal.returns-clause-agents
returns-clause-agents c = agents_are_seen

pub returns-clause-terrain : goal.returns-clause-terrain
returns-clause-terrain c = terrain_is_seen
