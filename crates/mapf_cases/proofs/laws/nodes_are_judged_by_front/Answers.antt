use Rattle.mapf_cases.proofs.NodeLemmas.{front_decides, shows_none, shows_some, one_tree}
use Rattle.mapf_cases.proofs.laws.nodes_are_judged_by_front.Goals as goal

pub returns-clause-front : goal.returns-clause-front
returns-clause-front c = front_decides

pub returns-clause-none : goal.returns-clause-none
returns-clause-none c = shows_none

pub returns-clause-some : goal.returns-clause-some
returns-clause-some c = shows_some

pub returns-clause-tree : goal.returns-clause-tree
returns-clause-tree c = one_tree
