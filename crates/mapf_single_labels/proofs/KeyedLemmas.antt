-- Sums over sorted prices.
use Rattle.std.proofs.Common.{◌≡◌, ℕ, ◌+◌, ◌-◌, ◌<◌, ◌≤◌, ◌&&◌, ◌==◌, nat_lt, nat_le, List, length, take, get_or, sum_by, slice_index_or, refl, sym, ◌∙◌, ap, subst, ⊎_elim, arith}
use Rattle.std.proofs.lemmas.Bool.{cases_lt, ne_eqb, cond_both, lt-ltb, le-ltb, le-leb, lt-leb}
use Rattle.std.proofs.lemmas.List.{take_all, get_or_default}
use Rattle.std.proofs.lemmas.List.Sums.{sum_by-take-le, sum_by-le-sum_by, sum_by_more_le_part}
use Rattle.std.specs.List.Sorted.{IsNonDecreasingBy}
use Rattle.mapf_single_labels.specs.declared.keyed_price.KeyedPrice.{KeyedPrice}
use Rattle.mapf_single_labels.specs.KeyedPrices.{amount_at, amount_between, amount_of, key_of_price, AreKeysBelow, AreKeysNotBelow, AreKeysAbove, AreKeysNotAbove, AreSumsBefore}
use Rattle.mapf_single_labels.proofs.SumLemmas.{none_first, none_later, range_sum}

abbrev pub no_price : KeyedPrice
no_price = record { key = 0; other = 0; amount = 0 }

none_of_other_key : (key other : ℕ) (price : KeyedPrice) → (price.key ≡ key → ⊥) → amount_at key other price ≡ 0
none_of_other_key key other price differ = rw (ne_eqb price.key key differ) refl

part_at : (key other : ℕ) (price : KeyedPrice) → amount_at key other price ≤ amount_of price
part_at key other price = cond_both ((price.key == key) && (price.other == other)) price.amount 0 (λ n. n ≤ price.amount) (λ yes. omega arith) (λ no. omega arith)

part_between : (after to : ℕ) (price : KeyedPrice) → amount_between after to price ≤ amount_of price
part_between after to price = cond_both (nat_lt after price.key && nat_le price.key to) price.amount 0 (λ n. n ≤ price.amount) (λ yes. omega arith) (λ no. omega arith)

pub small_sum : (prices : List KeyedPrice) (key other n : ℕ) → sum_by (amount_at key other) (take n prices) ≤ sum_by amount_of prices
small_sum prices key other n =
    let part = sum_by-take-le (amount_at key other) prices n in
    let whole = sum_by-le-sum_by (amount_at key other) amount_of prices (part_at key other) in
    omega arith

pub small_more : (prices : List KeyedPrice) (key other n : ℕ) (d : KeyedPrice) → n < length prices → sum_by (amount_at key other) (take n prices) + (slice_index_or prices n d).amount ≤ sum_by amount_of prices
small_more prices key other n d within = sum_by_more_le_part (amount_at key other) amount_of prices n d within (part_at key other)

-- the prices before the first of a key
pub none_before : (prices : List KeyedPrice) (first key other : ℕ) → first ≤ length prices → AreKeysBelow prices first key → 0 ≡ sum_by (amount_at key other) (take first prices)
none_before prices first key other within below =
    sym (none_first (amount_at key other) (amount_at key other) prices no_price first within (λ k less. none_of_other_key key other (slice_index_or prices k no_price) (λ same. let low = below k no_price less (omega arith) in omega arith)))

-- the prices from one of another key on, after those of the key
pub at_end : (prices : List KeyedPrice) → IsNonDecreasingBy key_of_price prices → (first key other : ℕ) → AreKeysNotBelow prices first key → (place : ℕ) → first ≤ place → place < length prices → ((slice_index_or prices place no_price).key ≡ key → ⊥) →
    sum_by (amount_at key other) (take place prices) ≡ sum_by (amount_at key other) prices
at_end prices sorted first key other others place low within differ =
    let whole : place + (length prices - place) ≡ length prices = omega arith in
    let rest = none_later (amount_at key other) (amount_at key other) prices no_price place (length prices - place) (omega arith) (λ k from less.
    none_of_other_key key other (slice_index_or prices k no_price) (λ same.
    let here = others place no_price low within in
    let rise = sorted place k no_price from (omega arith) in
    differ (omega arith))) in
    sym (subst (λ m. sum_by (amount_at key other) (take m prices) ≡ sum_by (amount_at key other) (take place prices)) whole rest) ∙ ap (sum_by (amount_at key other)) (take_all (length prices) prices (omega arith))

-- the sum over a range of keys
pub between : (prices : List KeyedPrice) (after to first end : ℕ) → after ≤ to → first ≤ length prices → end ≤ length prices → AreKeysNotAbove prices first after → AreKeysAbove prices first after → AreKeysNotAbove prices end to → AreKeysAbove prices end to →
    (first ≤ end) × (sum_by (amount_between after to) prices + sum_by amount_of (take first prices) ≡ sum_by amount_of (take end prices))
between prices after to first end order within inside below above under over =
    let ordered : first ≤ end = in_order in (
      ordered,
      range_sum amount_of (amount_between after to) prices no_price first end ordered inside
          (λ k less. let low = below k no_price less (omega arith) in rw (le-ltb after (slice_index_or prices k no_price).key low) refl)
          (λ k from less.
          let low = above k no_price from (omega arith) in
          let high = under k no_price less (omega arith) in
          rw (lt-ltb after (slice_index_or prices k no_price).key low, le-leb (slice_index_or prices k no_price).key to high) refl)
          (λ k from less.
          let high = over k no_price from less in
          rw (lt-ltb after (slice_index_or prices k no_price).key (omega arith), lt-leb (slice_index_or prices k no_price).key to high) refl),
    )
  where
    in_order : first ≤ end
    in_order = ⊎_elim
        (λ (less : end < first). let low = below end no_price less (omega arith) in let high = over end no_price (omega arith) (omega arith) in absurd (omega arith))
        (λ (more : first ≤ end). more)
        (cases_lt end first)

pub between_sums : (prices : List KeyedPrice) (before : List ℕ) (after to first end one two : ℕ) → AreSumsBefore prices before → 0 < length prices → after ≤ to → (first ≤ length prices) × AreKeysNotAbove prices first after × AreKeysAbove prices first after →
    (end ≤ length prices) × AreKeysNotAbove prices end to × AreKeysAbove prices end to → one ≡ get_or before first one → two ≡ get_or before end two → (one ≤ two) × (two - one ≡ sum_by (amount_between after to) prices)
between_sums prices before after to first end one two sums some order (within, below, above) (inside, under, over) is_one is_two =
    let count = sums.count some in
    let (ordered, total) = between prices after to first end order within inside below above under over in
    let first_sum : one ≡ sum_by amount_of (take first prices) = is_one ∙ get_or_default before first one 0 (omega arith) ∙ sums.each first (omega arith) in
    let end_sum : two ≡ sum_by amount_of (take end prices) = is_two ∙ get_or_default before end two 0 (omega arith) ∙ sums.each end (omega arith) in
    (omega arith, omega arith)

pub small_between : (prices : List KeyedPrice) (after to : ℕ) → sum_by (amount_between after to) prices ≤ sum_by amount_of prices
small_between prices after to = sum_by-le-sum_by (amount_between after to) amount_of prices (part_between after to)
