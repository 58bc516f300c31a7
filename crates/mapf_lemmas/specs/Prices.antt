-- Prices of cells and edges at ticks, and what a path pays. (Lam et al. 2022: the dual of a linear program; the list:
-- own)
use Rattle.std.specs.Prelude.{ℕ, ◌+◌, ◌*◌, List, [], ◌&&◌, ◌||◌, ◌==◌, nat_lt, if◌then◌else◌, sum_by}
use Rattle.mapf_lemmas.specs.declared.price.Price.{Price}
use Rattle.mapf_lemmas.specs.declared.price.Price.TheVariants.{Cell, Edge}
use Rattle.mapf_model.specs.Grid.{GridMap, IsFree, AreAdjacent}
use Rattle.mapf_model.specs.Path.{at}

-- what one tick of cost is worth, and the prices
pub record PriceList : Type 0 where
  pub unit : ℕ
  pub prices : List Price

-- no list: a tick is worth 1, and nothing has a price
abbrev pub no_list : PriceList
no_list = record { unit = 1; prices = [] }

-- the amount of a price
abbrev pub amount_of : Price → ℕ
amount_of (Cell cell tick amount) = amount
amount_of (Edge from to tick amount) = amount

-- what a path pays of one price: all of it if it is in the cell, or moves along the edge, at the tick
abbrev pub paid_of : List ℕ → Price → ℕ
paid_of path (Cell cell tick amount) = if at path tick == cell then amount else 0
paid_of path (Edge from to tick amount) =
    if (((at path tick == from) && (at path (tick + 1) == to))
    || ((at path tick == to) && (at path (tick + 1) == from)))
    then amount else 0

-- what a path pays in all
abbrev pub paid : List Price → List ℕ → ℕ
paid prices path = sum_by (paid_of path) prices

-- the priced cost of a path of this cost: what its ticks are worth, and what it pays
abbrev pub priced_cost : PriceList → List ℕ → ℕ → ℕ
priced_cost list path cost = list.unit * cost + paid list.prices path

-- the sum of all prices
abbrev pub total_price : List Price → ℕ
total_price prices = sum_by amount_of prices

-- what the price asks for being in this cell at this tick
abbrev pub asked_in : ℕ → ℕ → Price → ℕ
asked_in here now (Cell cell tick amount) = if (cell == here) && (tick == now) then amount else 0
asked_in here now (Edge from to tick amount) = 0

-- the price of being in the cell at the tick
abbrev pub cell_price : List Price → ℕ → ℕ → ℕ
cell_price prices cell tick = sum_by (asked_in cell tick) prices

-- what the price asks for moving between these cells from this tick to the next
abbrev pub asked_between : ℕ → ℕ → ℕ → Price → ℕ
asked_between here there now (Cell cell tick amount) = 0
asked_between here there now (Edge from to tick amount) =
    if (tick == now) && (((here == from) && (there == to)) || ((here == to) && (there == from))) then amount else 0

-- the price of moving between the cells from the tick to the next, in either direction
abbrev pub edge_price : List Price → ℕ → ℕ → ℕ → ℕ
edge_price prices from to tick = sum_by (asked_between from to tick) prices

-- what the price asks for staying in this cell for ever after this tick
abbrev pub asked_after : ℕ → ℕ → Price → ℕ
asked_after here now (Cell cell tick amount) = if (cell == here) && nat_lt now tick then amount else 0
asked_after here now (Edge from to tick amount) = 0

-- the price of staying in the cell for ever after the tick
abbrev pub rest_price : List Price → ℕ → ℕ → ℕ
rest_price prices cell tick = sum_by (asked_after cell tick) prices

-- the priced cell is free, and the cells of a priced edge are adjacent
abbrev pub IsPriceOn : GridMap → Price → Type 0
IsPriceOn grid (Cell cell tick amount) = IsFree grid cell
IsPriceOn grid (Edge from to tick amount) = AreAdjacent grid from to
