use Rattle.mapf_lemmas.proofs.PriceExamples.{bounds_round_up, unpriced_counts_in_units}
use Rattle.mapf_lemmas.proofs.examples.leaves_by_example.Goals as goal

pub returns-clause-rounding : goal.returns-clause-rounding
returns-clause-rounding c = bounds_round_up

pub returns-clause-units : goal.returns-clause-units
returns-clause-units c = unpriced_counts_in_units
