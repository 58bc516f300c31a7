use Rattle.mapf_lemmas.proofs.PriceExamples.{rest_pays_later_prices, edges_cost_in_both_directions}
use Rattle.mapf_lemmas.proofs.examples.prices_by_example.Goals as goal

pub returns-clause-rest : goal.returns-clause-rest
returns-clause-rest c = rest_pays_later_prices

pub returns-clause-edge : goal.returns-clause-edge
returns-clause-edge c = edges_cost_in_both_directions
