use Rattle.std.proofs.Common.{◌≡◌, ◌-◌, ◌≤◌, length, take, sum_by}
use Rattle.mapf_single_labels.specs.KeyedPrices.{amount_at}
use Rattle.mapf_single_labels.proofs.point_prices.sum_from.Given as goal

abbrev pub invariant-loop-place : goal.invariant-loop-place
invariant-loop-place l = record {
  low : l.first ≤ l.place;
  high : l.place ≤ length l.prices;
  sum : l.sum ≡ sum_by (amount_at l.key l.other) (take l.place l.prices);
}

abbrev pub decreases-loop-place : goal.decreases-loop-place
decreases-loop-place l = length l.prices - l.place
