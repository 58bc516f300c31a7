use Rattle.mapf_model.proofs.ExampleLemmas.{one_start_is_no_plan, swapping_is_no_plan}
use Rattle.mapf_model.proofs.examples.plans_by_example.Goals as goal

pub returns-clause-one_start : goal.returns-clause-one_start
returns-clause-one_start c = one_start_is_no_plan

pub returns-clause-swap : goal.returns-clause-swap
returns-clause-swap c = swapping_is_no_plan
