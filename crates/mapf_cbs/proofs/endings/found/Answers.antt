use Rattle.mapf_cbs.proofs.EndingLemmas.{end_found}
use Rattle.mapf_cbs.proofs.endings.found.Goals as goal

pub tree_nodes-requires-clause-same : goal.tree_nodes-requires-clause-same
tree_nodes-requires-clause-same c = c.requires.same

pub tree_nodes-requires-clause-some : goal.tree_nodes-requires-clause-some
tree_nodes-requires-clause-some c = c.requires.some

pub tree_nodes-requires-clause-later : goal.tree_nodes-requires-clause-later
tree_nodes-requires-clause-later c = c.requires.later

pub tree_nodes-requires-clause-one : goal.tree_nodes-requires-clause-one
tree_nodes-requires-clause-one c = c.requires.one

pub returns : goal.returns
returns c problem limit e = end_found problem limit c.args.lists.items c.args.statuses.now c.args.plan e c.in_ok-tree.tree c.in_ok-tree.ensures
