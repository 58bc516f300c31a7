use Rattle.std.proofs.Common.{rules, ◌≡◌, refl, false, Ordering, Less, Equal, Greater}
use Rattle.std.specs.Ordering.{is_lt, ordering_then}
use Rattle.std.proofs.lemmas.List.Sorted.{IsNonDecreasingBy-from_sort}
use Rattle.std.proofs.lemmas.Fn.{always_returns_same}
use Rattle.mapf_single_labels.specs.KeyedPrices.{key_of_price}
use Rattle.mapf_single_labels.proofs.keyed_price.sorted.Goals as goal

-- one order that decides first doesn't say less where both together don't
first_not_less : (a b : Ordering) → is_lt (ordering_then a b) ≡ false → is_lt a ≡ false
first_not_less Less b h = h
first_not_less Equal b h = refl
first_not_less Greater b h = refl

-- a key of one price is not less than one before it, since the whole triple is not
pub returns-clause-rising : goal.returns-clause-rising
returns-clause-rising c = IsNonDecreasingBy-from_sort key_of_price _ (λ k d low lt. first_not_less _ _ (first_not_less _ _ (c.sort_unstable_by_key.ensures.sorted (λ price. (price.key, price.other, price.amount)) (always_returns_same _ (λ a r. r ≡ (a.0.now.key, a.0.now.other, a.0.now.amount)) _ (λ a r f called. search rules)) k d low lt)))
