use Rattle.mapf_constraints.proofs.ChainLemmas.{no_bars}
use Rattle.mapf_constraints.proofs.tick_bars.TickBarsBarTable.clear.Goals as goal

pub invariant_of-self : goal.invariant_of-self
invariant_of-self c = no_bars c.clear.new.self.items c.clear.ensures.items
