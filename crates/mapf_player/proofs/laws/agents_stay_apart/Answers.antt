use Rattle.mapf_player.proofs.DispatchLemmas.{progress_stays_in_order, no_two_agents_meet, nobody_enters_an_occupied_cell}
use Rattle.mapf_player.proofs.laws.agents_stay_apart.Goals as goal

pub returns-clause-order : goal.returns-clause-order
returns-clause-order c = progress_stays_in_order

pub returns-clause-apart : goal.returns-clause-apart
returns-clause-apart c = no_two_agents_meet

pub returns-clause-free : goal.returns-clause-free
returns-clause-free c = nobody_enters_an_occupied_cell
