use Rattle.std.proofs.Common.{◌≡◌, take}
use Rattle.mapf_lemmas.specs.Prices.{total_price}
use Rattle.mapf_single_labels.proofs.price_table.total_of.Given as goal

abbrev pub invariant-loop-price : goal.invariant-loop-price
invariant-loop-price l = l.total ≡ total_price (take l.price-index l.prices)
