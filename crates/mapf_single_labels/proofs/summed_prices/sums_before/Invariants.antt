use Rattle.std.proofs.Common.{◌≡◌, ℕ, ◌+◌, ◌<◌, length, take, sum_by, get_or}
use Rattle.mapf_single_labels.specs.KeyedPrices.{amount_of}
use Rattle.mapf_single_labels.proofs.summed_prices.sums_before.Given as goal

abbrev pub invariant-loop-price : goal.invariant-loop-price
invariant-loop-price l = record {
  sum : l.sum ≡ sum_by amount_of (take l.price-index l.prices);
  count : length l.before.items ≡ l.price-index + 1;
  each : (k : ℕ) → k < length l.before.items → get_or l.before.items k 0 ≡ sum_by amount_of (take k l.prices);
}
