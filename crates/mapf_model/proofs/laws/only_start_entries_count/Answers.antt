use Rattle.mapf_model.proofs.AlikeLemmas.{only_start_entries_count, children_alike}
use Rattle.mapf_model.proofs.laws.only_start_entries_count.Goals as goal

pub returns-clause-count : goal.returns-clause-count
returns-clause-count c = only_start_entries_count

pub returns-clause-children : goal.returns-clause-children
returns-clause-children c = children_alike
