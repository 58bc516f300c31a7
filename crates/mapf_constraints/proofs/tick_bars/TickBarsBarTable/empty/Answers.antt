use Rattle.mapf_constraints.proofs.ChainLemmas.{no_bars}
use Rattle.mapf_constraints.proofs.tick_bars.TickBarsBarTable.empty.Goals as goal

pub invariant_of-result : goal.invariant_of-result
invariant_of-result c = no_bars c.new.result.items c.new.ensures.items
