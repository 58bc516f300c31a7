use Rattle.std.proofs.Common.{arith}
use Rattle.mapf_single_labels.proofs.KeyedLemmas.{no_price, none_before, at_end, small_sum, small_more}
use Rattle.mapf_single_labels.proofs.point_prices.sum_from.Goals as goal

pub loop-place-init : goal.loop-place-init
loop-place-init c = record {
  low = omega arith;
  high = c.requires.within;
  sum = none_before c.args.prices.now c.args.first c.args.key c.args.other c.requires.within c.requires.below;
}

pub overflow_add-sum : goal.overflow_add-sum
overflow_add-sum c =
    let most = small_more c.args.prices.now c.args.key c.args.other c.loop-place.place no_price c.loop-place-test.true in
    let total = c.requires.total in
    let sum = c.loop-place.invariant.sum in
    omega (arith, most, total, sum)

pub returns-else-prices-place-clause-value : goal.returns-else-prices-place-clause-value
returns-else-prices-place-clause-value c =
    rw c.loop-place.invariant.sum
    (at_end c.args.prices.now c.requires.sorted c.args.first c.args.key c.args.other c.requires.others c.loop-place.place c.loop-place.invariant.low c.loop-place-test.true c.if-prices-place.false)

pub returns-else-prices-place-clause-small : goal.returns-else-prices-place-clause-small
returns-else-prices-place-clause-small c =
    let most = small_sum c.args.prices.now c.args.key c.args.other c.loop-place.place in
    let total = c.requires.total in
    let sum = c.loop-place.invariant.sum in
    omega (arith, most, total, sum)

pub returns-after-loop-place-clause-small : goal.returns-after-loop-place-clause-small
returns-after-loop-place-clause-small c =
    let most = small_sum c.args.prices.now c.args.key c.args.other c.loop-place.place in
    let total = c.requires.total in
    let sum = c.loop-place.invariant.sum in
    omega (arith, most, total, sum)
