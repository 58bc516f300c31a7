use Rattle.std.proofs.Common.{take}
use Rattle.mapf_single_labels.specs.KeyedPrices.{GiveRestPrices}
use Rattle.mapf_single_labels.proofs.price_table.rests_of.Given as goal

abbrev pub invariant-loop-price : goal.invariant-loop-price
invariant-loop-price l = GiveRestPrices (take l.price-index l.prices) l.keyed.items
