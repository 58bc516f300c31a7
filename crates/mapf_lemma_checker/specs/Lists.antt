-- The price lists that a judge keeps.
use Rattle.std.specs.Prelude.{◌≡◌, List, All}
use Rattle.mapf_cases.specs.declared.known.ListTotal.{ListTotal}
use Rattle.mapf_cases.specs.Leaves.{AreTotalsOf, IsUnitInRange}
use Rattle.mapf_lemmas.specs.Prices.{PriceList, no_list}
use Rattle.mapf_lemma_checker.specs.LemmaParts.{AreCellPricesSmall}

-- these totals are those of the lists, with units in range, cells cost little in each, and the table for lemmas without
-- a list has no prices
pub record AreKept (lists : List PriceList) (totals : List ListTotal) (none : PriceList) : Type 0 where
  pub totals_are : AreTotalsOf lists totals
  pub units : All IsUnitInRange totals
  pub small : All AreCellPricesSmall lists
  pub none_is : none ≡ no_list
