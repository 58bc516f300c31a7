-- What is left to pay of a path, tick by tick.
use Rattle.std.proofs.Common.{◌≡◌, ℕ, ◌+◌, ◌*◌, ◌≤◌, Bool, true, false, List, [], ◌∷◌, sum_by, nat_lt, refl, arith}
use Rattle.std.specs.Prelude.{◌&&◌, ◌||◌, ◌==◌, if◌then◌else◌}
use Rattle.std.proofs.lemmas.List.Sums.{sum_by-cons}
use Rattle.std.proofs.lemmas.Bool.{ltb-true}
use Rattle.std.proofs.lemmas.Bool.Decides.{nat_tests}
use Rattle.mapf_lemmas.specs.declared.price.Price.{Price}
use Rattle.mapf_lemmas.specs.declared.price.Price.TheVariants.{Cell, Edge}
use Rattle.mapf_lemmas.specs.Prices.{PriceList, paid_of, paid, asked_in, cell_price, asked_between, edge_price, asked_after, rest_price}
use Rattle.mapf_model.specs.Path.{at}

-- sums of equal terms, of terms that are sums, and of smaller terms
module _ {X : Type 0} where
  pub sum_by-plus : (f g h : X → ℕ) → ((x : X) → f x ≡ g x + h x) → (xs : List X) → sum_by f xs ≡ sum_by g xs + sum_by h xs
  sum_by-plus f g h same [] = omega arith
  sum_by-plus f g h same (x ∷ xs) = rw (sum_by-cons f x xs, sum_by-cons g x xs, sum_by-cons h x xs) (omega (arith, same x, sum_by-plus f g h same xs))

  pub sum_by-at_most : (f g : X → ℕ) → ((x : X) → f x ≤ g x) → (xs : List X) → sum_by f xs ≤ sum_by g xs
  sum_by-at_most f g less [] = omega arith
  sum_by-at_most f g less (x ∷ xs) = rw (sum_by-cons f x xs, sum_by-cons g x xs) (omega (arith, less x, sum_by-at_most f g less xs))

-- what the path pays of one price after it has arrived in its cell of this tick
abbrev pub left_of : List ℕ → ℕ → Price → ℕ
left_of path now (Cell cell tick amount) = if (at path tick == cell) && nat_lt now tick then amount else 0
left_of path now (Edge from to tick amount) =
    if (nat_lt now (tick + 1)) && (((at path tick == from) && (at path (tick + 1) == to)) || ((at path tick == to) && (at path (tick + 1) == from)))
    then amount else 0

abbrev pub left_to_pay : List Price → List ℕ → ℕ → ℕ
left_to_pay prices path now = sum_by (left_of path now) prices

-- what is left of the priced cost after this tick, so many ticks before the last arrival
abbrev pub left : PriceList → List ℕ → ℕ → ℕ → ℕ
left list path ticks now = list.unit * ticks + left_to_pay list.prices path now

module _ (path : List ℕ) (now : ℕ) where
  left_step : (price : Price) → left_of path now price ≡ (asked_between (at path now) (at path (now + 1)) now price + asked_in (at path (now + 1)) (now + 1) price) + left_of path (now + 1) price
  left_step (Cell cell tick amount) = grind (arith, nat_tests)
  left_step (Edge from to tick amount) = grind (arith, nat_tests)

  still_pays : ((tick : ℕ) → now ≤ tick → at path tick ≡ at path now) → (price : Price) → asked_after (at path now) now price ≤ left_of path now price
  still_pays still (Cell cell tick amount) = by (nat_lt now tick) refl
    where
      by : (later : Bool) → nat_lt now tick ≡ later → (if (cell == at path now) && later then amount else 0) ≤ (if (at path tick == cell) && later then amount else 0)
      by true after = rw (still tick (omega (arith, ltb-true now tick after))) (grind (arith, nat_tests))
      by false before = grind (arith, nat_tests)
  still_pays still (Edge from to tick amount) = omega arith

-- before the first tick all is left to pay but the price of the start
paid_step : (path : List ℕ) (price : Price) → paid_of path price ≡ asked_in (at path 0) 0 price + left_of path 0 price
paid_step path (Cell cell tick amount) = grind (arith, nat_tests)
paid_step path (Edge from to tick amount) = grind (arith, nat_tests)

module _ (prices : List Price) (path : List ℕ) where
  pub paid_at_start : paid prices path ≡ cell_price prices (at path 0) 0 + left_to_pay prices path 0
  paid_at_start = sum_by-plus (paid_of path) (asked_in (at path 0) 0) (left_of path 0) (paid_step path) prices

  pub left_after_step : (now : ℕ) → left_to_pay prices path now ≡ (edge_price prices (at path now) (at path (now + 1)) now + cell_price prices (at path (now + 1)) (now + 1)) + left_to_pay prices path (now + 1)
  left_after_step now =
      let edge = asked_between (at path now) (at path (now + 1)) now in
      let cell = asked_in (at path (now + 1)) (now + 1) in
      let both = sum_by-plus (λ price. edge price + cell price) edge cell (λ price. refl) prices in
      let all = sum_by-plus (left_of path now) (λ price. edge price + cell price) (left_of path (now + 1)) (left_step path now) prices in
      omega (arith, both, all)

  pub rest_is_left : (now : ℕ) → ((tick : ℕ) → now ≤ tick → at path tick ≡ at path now) → rest_price prices (at path now) now ≤ left_to_pay prices path now
  rest_is_left now still = sum_by-at_most (asked_after (at path now) now) (left_of path now) (still_pays path now still) prices
