-- Prices under keys by which they are sorted.
use Rattle.std.specs.Prelude.{◌≡◌, ℕ, ◌+◌, ◌-◌, ◌*◌, ◌^◌, ◌<◌, ◌≤◌, ◌&&◌, ◌==◌, List, length, sum_by, take}
use Rattle.std.specs.Prelude.{nat_le, nat_lt, if◌then◌else◌}
use Rattle.std.specs.Prelude.{slice_index, slice_index_or}
use Rattle.mapf_lemmas.specs.declared.price.Price.{Price}
use Rattle.mapf_lemmas.specs.Prices.{cell_price, edge_price, rest_price, total_price}
use Rattle.mapf_single_labels.specs.declared.keyed_price.KeyedPrice.{KeyedPrice}

-- the key of two numbers
abbrev pub key_of : ℕ → ℕ → ℕ
key_of first second = first * 2 ^ 32 + second

-- the key by which a price is sorted
abbrev pub key_of_price : KeyedPrice → ℕ
key_of_price price = price.key

-- the amount of a price
abbrev pub amount_of : KeyedPrice → ℕ
amount_of price = price.amount

-- its amount, if it has this key and other number
abbrev pub amount_at : ℕ → ℕ → KeyedPrice → ℕ
amount_at key other price = if (price.key == key) && (price.other == other) then price.amount else 0

-- its amount, if its key is greater than the first of these and not greater than the second
abbrev pub amount_between : ℕ → ℕ → KeyedPrice → ℕ
amount_between after to price = if nat_lt after price.key && nat_le price.key to then price.amount else 0

-- the keys before this index are less than this one
abbrev pub AreKeysBelow : List KeyedPrice → ℕ → ℕ → Type 0
AreKeysBelow prices place key =
    (k : ℕ) (d : KeyedPrice) → k < place → k < length prices → (slice_index_or prices k d).key < key

-- the keys from this index on are not less than this one
abbrev pub AreKeysNotBelow : List KeyedPrice → ℕ → ℕ → Type 0
AreKeysNotBelow prices place key =
    (k : ℕ) (d : KeyedPrice) → place ≤ k → k < length prices → key ≤ (slice_index_or prices k d).key

-- the keys before this index are not greater than this one
abbrev pub AreKeysNotAbove : List KeyedPrice → ℕ → ℕ → Type 0
AreKeysNotAbove prices place key =
    (k : ℕ) (d : KeyedPrice) → k < place → k < length prices → (slice_index_or prices k d).key ≤ key

-- the keys from this index on are greater than this one
abbrev pub AreKeysAbove : List KeyedPrice → ℕ → ℕ → Type 0
AreKeysAbove prices place key =
    (k : ℕ) (d : KeyedPrice) → place ≤ k → k < length prices → key < (slice_index_or prices k d).key

-- at each index the sum of the prices before it, up to the number of prices if there is one
pub record AreSumsBefore (prices : List KeyedPrice) (before : List ℕ) : Type 0 where
  pub count : 0 < length prices → length before ≡ length prices + 1
  pub each : (k : ℕ) → k < length before → slice_index before k ≡ sum_by amount_of (take k prices)

-- the keyed prices give the price of each cell at each tick, by tick and cell
pub record GiveCellPrices (prices : List Price) (keyed : List KeyedPrice) : Type 0 where
  pub each : (cell tick : ℕ) → cell < 2 ^ 32 → tick < 2 ^ 32 →
      sum_by (amount_at (key_of tick cell) 0) keyed ≡ cell_price prices cell tick
  pub total : sum_by amount_of keyed ≤ total_price prices

-- the keyed prices give the price of each edge at each tick, by tick and the cell of the smaller number
pub record GiveEdgePrices (prices : List Price) (keyed : List KeyedPrice) : Type 0 where
  pub each : (low high tick : ℕ) → low < 2 ^ 32 → high < 2 ^ 32 → tick < 2 ^ 32 → low ≤ high →
      sum_by (amount_at (key_of tick low) high) keyed ≡ edge_price prices low high tick
  pub total : sum_by amount_of keyed ≤ total_price prices

-- the keyed prices give what rest costs in each cell after each tick, by cell and tick
pub record GiveRestPrices (prices : List Price) (keyed : List KeyedPrice) : Type 0 where
  pub each : (cell tick : ℕ) → cell < 2 ^ 32 → tick < 2 ^ 32 →
      sum_by (amount_between (key_of cell tick) (key_of cell (2 ^ 32 - 1))) keyed ≡ rest_price prices cell tick
  pub total : sum_by amount_of keyed ≤ total_price prices
