use Rattle.mapf_model.proofs.ExampleLemmas.{waiting_bounds_a_label, no_label_is_raised_at_a_free_goal}
use Rattle.mapf_model.proofs.examples.labels_by_example.Goals as goal

pub returns-clause-waiting : goal.returns-clause-waiting
returns-clause-waiting c = waiting_bounds_a_label

pub returns-clause-raised : goal.returns-clause-raised
returns-clause-raised c = no_label_is_raised_at_a_free_goal
