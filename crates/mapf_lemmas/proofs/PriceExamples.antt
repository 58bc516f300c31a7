-- What paths pay and leaves count on small problems.
use Rattle.std.proofs.Common.{refl, inr}
use Rattle.mapf_lemmas.specs.Examples.{RestPaysLaterPrices, EdgesCostInBothDirections, BoundsRoundUp}
use Rattle.mapf_lemmas.specs.Examples.{UnpricedCountsInUnits}

pub rest_pays_later_prices : RestPaysLaterPrices
rest_pays_later_prices = (refl, refl, refl, refl)

pub edges_cost_in_both_directions : EdgesCostInBothDirections
edges_cost_in_both_directions = (refl, refl, refl, refl, refl, refl)

pub bounds_round_up : BoundsRoundUp
bounds_round_up = (refl, refl)

pub unpriced_counts_in_units : UnpricedCountsInUnits
unpriced_counts_in_units = inr (refl, refl)
