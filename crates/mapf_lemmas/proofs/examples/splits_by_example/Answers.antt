use Rattle.mapf_lemmas.proofs.ConstraintExamples.{cost_splits_by_the_cost, costs_needs_its_lemma, costs_raises_the_other}
use Rattle.mapf_lemmas.proofs.examples.splits_by_example.Goals as goal

pub returns-clause-cost : goal.returns-clause-cost
returns-clause-cost c = cost_splits_by_the_cost

pub returns-clause-lemma : goal.returns-clause-lemma
returns-clause-lemma c = costs_needs_its_lemma

pub returns-clause-costs : goal.returns-clause-costs
returns-clause-costs c = costs_raises_the_other
