-- Tables of prices.
use Rattle.std.specs.Prelude.{◌≡◌}
use Rattle.mapf_lemmas.specs.Prices.{total_price}
use Rattle.mapf_single_labels.specs.declared.price_table.PriceTable.TheInside.{Inside}
use Rattle.mapf_single_labels.specs.KeyedPrices.{GiveCellPrices, GiveEdgePrices, GiveRestPrices}
use Rattle.mapf_single_labels.specs.Ranges.{IsListInRange}

-- the list is in range, and the sorted prices are those of the list
pub record IsTable (table : Inside) : Type 0 where
  pub range : IsListInRange table.list
  pub total : table.total ≡ total_price table.list.prices
  pub cells : GiveCellPrices table.list.prices table.cells
  pub edges : GiveEdgePrices table.list.prices table.edges
  pub rests : GiveRestPrices table.list.prices table.rests
