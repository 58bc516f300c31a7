use Rattle.std.proofs.lemmas.Bool.{leb-false}
use Rattle.mapf_spacetime.proofs.WayLemmas.{past_cost, no_walk}
use Rattle.mapf_spacetime.proofs.path_search.is_within.Goals as goal

pub returns-in-Some-clause-no : goal.returns-in-Some-clause-no
returns-in-Some-clause-no g c over free = past_cost c.args.task.now c.args.cost c.in-Some.value c.args.state.now c.in-Some.ensures.some (leb-false c.in-Some.value c.args.cost over)

pub returns-in-None-clause-no : goal.returns-in-None-clause-no
returns-in-None-clause-no g c over free = no_walk c.args.task.now c.args.cost c.args.state.now free c.in-None.ensures.none
