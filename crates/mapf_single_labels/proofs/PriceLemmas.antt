-- Sorted prices and the list that they come from.
use Rattle.std.proofs.Common.{◌≡◌, ℕ, ◌+◌, ◌-◌, ◌^◌, ◌<◌, ◌&&◌, ◌||◌, ◌==◌, Bool, true, false, if◌then◌else◌, List, [], ◌∷◌, ◌++◌, refl, sym, ◌∙◌, ap, ⊎_elim, arith}
use Rattle.std.proofs.lemmas.Bool.{cases_eq, eq-eqb, ne_eqb}
use Rattle.std.proofs.lemmas.List.Sums.{sum_by_push}
use Rattle.std.proofs.lemmas.List.Sorted.{sum_by-IsPermutation}
use Rattle.std.specs.List.Sorted.{IsPermutation}
use Rattle.mapf_lemmas.specs.declared.price.Price.{Price}
use Rattle.mapf_lemmas.specs.declared.price.Price.TheVariants.{Cell, Edge}
use Rattle.mapf_lemmas.specs.Prices.{amount_of, asked_in, asked_between, edge_price}
use Rattle.mapf_single_labels.specs.declared.keyed_price.KeyedPrice.{KeyedPrice}
use Rattle.mapf_single_labels.specs.KeyedPrices.{amount_at, amount_between, key_of, key_of_price, AreKeysBelow, AreKeysNotBelow, GiveCellPrices, GiveEdgePrices, GiveRestPrices}
use Rattle.mapf_single_labels.specs.KeyedPrices as sorted
use Rattle.mapf_single_labels.proofs.SumLemmas.{same_sums}

abbrev pub keyed_price : ℕ → ℕ → ℕ → KeyedPrice
keyed_price key other amount = record { key = key; other = other; amount = amount }

-- the keys of two numbers are equal if the numbers are
same_key : (a b c d : ℕ) → b < 2 ^ 32 → d < 2 ^ 32 → (key_of a b == key_of c d) ≡ ((a == c) && (b == d))
same_key a b c d small little = ⊎_elim
    (λ (first : a ≡ c). ⊎_elim
    (λ (second : b ≡ d). rw (eq-eqb a c first, eq-eqb b d second) (eq-eqb (key_of a b) (key_of c d) (omega arith)))
    (λ (other : b ≡ d → ⊥). rw (eq-eqb a c first, ne_eqb b d other) (ne_eqb (key_of a b) (key_of c d) (λ same. other (omega arith))))
    (cases_eq b d))
    (λ (other : a ≡ c → ⊥). rw (ne_eqb a c other) (ne_eqb (key_of a b) (key_of c d) (λ same. other (omega arith))))
    (cases_eq a c)

cell_asked : (there now amount cell tick : ℕ) → there < 2 ^ 32 → cell < 2 ^ 32 → amount_at (key_of tick cell) 0 (keyed_price (key_of now there) 0 amount) ≡ asked_in cell tick (Cell there now amount)
cell_asked there now amount cell tick small little = ⊎_elim
    (λ (first : there ≡ cell). ⊎_elim
    (λ (second : now ≡ tick). rw (same_key now there tick cell small little, eq-eqb there cell first, eq-eqb now tick second) refl)
    (λ (other : now ≡ tick → ⊥). rw (same_key now there tick cell small little, eq-eqb there cell first, ne_eqb now tick other) refl)
    (cases_eq now tick))
    (λ (other : there ≡ cell → ⊥). ⊎_elim
    (λ (second : now ≡ tick). rw (same_key now there tick cell small little, ne_eqb there cell other, eq-eqb now tick second) refl)
    (λ (also : now ≡ tick → ⊥). rw (same_key now there tick cell small little, ne_eqb there cell other, ne_eqb now tick also) refl)
    (cases_eq now tick))
    (cases_eq there cell)

pub cells_more : (prices : List Price) (keyed : List KeyedPrice) (there now amount : ℕ) → there < 2 ^ 32 → GiveCellPrices prices keyed → GiveCellPrices (prices ++ Cell there now amount ∷ []) (keyed ++ keyed_price (key_of now there) 0 amount ∷ [])
cells_more prices keyed there now amount small give = record {
  each = λ cell tick little late.
      let before = give.each cell tick little late in
      let here = cell_asked there now amount cell tick small little in
      let one = sum_by_push (amount_at (key_of tick cell) 0) keyed (keyed_price (key_of now there) 0 amount) in
      let other = sum_by_push (asked_in cell tick) prices (Cell there now amount) in
      one ∙ (λ i. before i + here i) ∙ sym other;
  total =
      let before = give.total in
      let one = sum_by_push sorted.amount_of keyed (keyed_price (key_of now there) 0 amount) in
      let other = sum_by_push amount_of prices (Cell there now amount) in
      omega arith;
}

pub cells_other : (prices : List Price) (keyed : List KeyedPrice) (from to now amount : ℕ) → GiveCellPrices prices keyed → GiveCellPrices (prices ++ Edge from to now amount ∷ []) keyed
cells_other prices keyed from to now amount give = record {
  each = λ cell tick little late.
      let before = give.each cell tick little late in
      let other = sum_by_push (asked_in cell tick) prices (Edge from to now amount) in
      omega (arith, before, other);
  total =
      let before = give.total in
      let other = sum_by_push amount_of prices (Edge from to now amount) in
      omega arith;
}

-- an edge has one price in both directions
asked_back : (from to tick : ℕ) (price : Price) → asked_between from to tick price ≡ asked_between to from tick price
asked_back from to tick (Cell cell now amount) = refl
asked_back from to tick (Edge a b now amount) = ap (λ test. if (now == tick) && test then amount else 0) (back (from == a) (to == b) (from == b) (to == a))
  where
    back : (p q r s : Bool) → ((p && q) || (r && s)) ≡ ((s && r) || (q && p))
    back true true true true = refl
    back true true true false = refl
    back true true false true = refl
    back true true false false = refl
    back true false true true = refl
    back true false true false = refl
    back true false false true = refl
    back true false false false = refl
    back false true true true = refl
    back false true true false = refl
    back false true false true = refl
    back false true false false = refl
    back false false true true = refl
    back false false true false = refl
    back false false false true = refl
    back false false false false = refl

pub edge_price_back : (prices : List Price) (from to tick : ℕ) → edge_price prices from to tick ≡ edge_price prices to from tick
edge_price_back prices from to tick = same_sums (asked_between from to tick) (asked_between to from tick) (asked_back from to tick) prices

-- prices in another order
module _ (prices : List Price) (one other : List KeyedPrice) (permuted : IsPermutation one other) where
  pub cells_permuted : GiveCellPrices prices one → GiveCellPrices prices other
  cells_permuted give = record {
    each = λ cell tick small late. sum_by-IsPermutation (amount_at (key_of tick cell) 0) one other permuted ∙ give.each cell tick small late;
    total = rw (sum_by-IsPermutation sorted.amount_of one other permuted) give.total;
  }

  pub edges_permuted : GiveEdgePrices prices one → GiveEdgePrices prices other
  edges_permuted give = record {
    each = λ low high tick small below late ordered. sum_by-IsPermutation (amount_at (key_of tick low) high) one other permuted ∙ give.each low high tick small below late ordered;
    total = rw (sum_by-IsPermutation sorted.amount_of one other permuted) give.total;
  }

  pub rests_permuted : GiveRestPrices prices one → GiveRestPrices prices other
  rests_permuted give = record {
    each = λ cell tick small late. sum_by-IsPermutation (amount_between (key_of cell tick) (key_of cell (2 ^ 32 - 1))) one other permuted ∙ give.each cell tick small late;
    total = rw (sum_by-IsPermutation sorted.amount_of one other permuted) give.total;
  }
