use Rattle.mapf_single_labels.specs.Ranges.{greatest_entry_label, greatest_label}
use Rattle.mapf_single_labels.specs.Tasks.{start_price}
use Rattle.mapf_single_labels.proofs.TaskLemmas.{bound_up_to}
use Rattle.mapf_single_labels.proofs.lemma.start_bound.Goals as goal

pub returns-clause-small : goal.returns-clause-small
returns-clause-small c =
    bound_up_to (start_price c.args.task.now) greatest_label c.start_label.result c.plus.result (cc) c.start_label.ensures.small

pub returns-clause-plain : goal.returns-clause-plain
returns-clause-plain c unit =
    bound_up_to (start_price c.args.task.now) greatest_entry_label c.start_label.result c.plus.result (cc) (c.start_label.ensures.plain unit)
