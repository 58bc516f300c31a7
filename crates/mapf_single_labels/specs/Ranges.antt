-- The ranges of units, prices, labels and ticks in a certificate of version 3. (Own)
use Rattle.std.specs.Prelude.{ℕ, ◌≤◌, ⊤}
use Rattle.mapf_lemmas.specs.Prices.{PriceList, total_price}
use Rattle.mapf_model.specs.declared.label.Entry.{Entry}
use Rattle.mapf_model.specs.declared.label.Label.{Label}
use Rattle.mapf_model.specs.declared.label.Label.TheVariants.{Ticks, Never}
use Rattle.mapf_model.specs.Limits.{greatest_cost}

-- what one tick of cost may be worth
abbrev pub greatest_unit : ℕ
greatest_unit = 1000

-- the sum of the prices of a list
abbrev pub greatest_total : ℕ
greatest_total = 100000000000000000

-- the label of an entry, in units
abbrev pub greatest_entry_label : ℕ
greatest_entry_label = 9999999999

-- the label of a state, listed or not, in units: the greatest unit times the greatest number of 32 bits
abbrev pub greatest_label : ℕ
greatest_label = 4294967295000

-- what a step costs, in units: the greatest unit and twice the greatest sum of prices
abbrev pub greatest_step : ℕ
greatest_step = 200000000000001000

-- a price list whose unit and whose sum of prices are in range
pub record IsListInRange (list : PriceList) : Type 0 where
  pub unit : list.unit ≤ greatest_unit
  pub total : total_price list.prices ≤ greatest_total

-- a label of at most so many units, or an infinite one
abbrev pub IsLabelUpTo : ℕ → Label → Type 0
IsLabelUpTo most (Ticks n) = n ≤ most
IsLabelUpTo most Never = ⊤

-- the tick and the label of the entry are in range
abbrev pub IsPricedEntryInRange : Entry → Type 0
IsPricedEntryInRange entry = (entry.tick ≤ greatest_cost) × IsLabelUpTo greatest_entry_label entry.label
