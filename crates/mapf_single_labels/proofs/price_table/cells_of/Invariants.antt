use Rattle.std.proofs.Common.{take}
use Rattle.mapf_single_labels.specs.KeyedPrices.{GiveCellPrices}
use Rattle.mapf_single_labels.proofs.price_table.cells_of.Given as goal

abbrev pub invariant-loop-price : goal.invariant-loop-price
invariant-loop-price l = GiveCellPrices (take l.price-index l.prices) l.keyed.items
