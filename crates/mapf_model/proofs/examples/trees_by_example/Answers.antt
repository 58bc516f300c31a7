use Rattle.mapf_model.proofs.ExampleLemmas.{a_clash_shows_impossibility, each_child_bars_its_agent, children_inherit_labels, splits_are_judged_by_their_own_bars}
use Rattle.mapf_model.proofs.examples.trees_by_example.Goals as goal

pub returns-clause-clash : goal.returns-clause-clash
returns-clause-clash c = a_clash_shows_impossibility

pub returns-clause-children : goal.returns-clause-children
returns-clause-children c = each_child_bars_its_agent

pub returns-clause-labels : goal.returns-clause-labels
returns-clause-labels c = children_inherit_labels

pub returns-clause-own_bars : goal.returns-clause-own_bars
returns-clause-own_bars c = splits_are_judged_by_their_own_bars
