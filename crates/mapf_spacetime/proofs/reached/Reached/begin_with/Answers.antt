use Rattle.mapf_spacetime.proofs.StampLemmas.{none_last, below_of_base}
use Rattle.mapf_spacetime.proofs.reached.Reached.begin_with.Goals as goal

pub invariant_of-self : goal.invariant_of-self
invariant_of-self c = (
  none_last c.next_base-self-inside.result c.next_base-self-inside.new.stamps.items c.exchange_states.new.list.items c.next_base-self-inside.ensures.above,
  below_of_base c.next_base-self-inside.result c.next_base-self-inside.new.stamps.items c.next_base-self-inside.ensures.above,
  c.next_base-self-inside.ensures.base,
)
