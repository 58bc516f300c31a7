use Rattle.mapf_single_labels.proofs.TaskLemmas.{bound_up_to}
use Rattle.mapf_joint_labels.specs.Two.{start_price}
use Rattle.mapf_joint_labels.proofs.two.start_bound.Goals as goal

pub returns-clause-small : goal.returns-clause-small
returns-clause-small c =
    bound_up_to (start_price c.args.pair.now) 8589934590000 c.label_of_starts.result c.plus.result (cc) c.label_of_starts.ensures.small

pub returns-clause-plain : goal.returns-clause-plain
returns-clause-plain c unit =
    bound_up_to (start_price c.args.pair.now) 19999999998 c.label_of_starts.result c.plus.result (cc) (c.label_of_starts.ensures.plain unit)
