use Rattle.std.proofs.Common.{subst}
use Rattle.mapf_single_labels.specs.KeyedPrices.{AreSumsBefore}
use Rattle.mapf_single_labels.proofs.summed_prices.SummedPrices.of.Goals as goal

pub invariant_of-result : goal.invariant_of-result
invariant_of-result c = (
  c.sorted-prices.ensures.rising,
  subst (λ prices. AreSumsBefore prices c.in_ok-before.before.items) c.deref.ensures.value c.in_ok-before.ensures,
)
