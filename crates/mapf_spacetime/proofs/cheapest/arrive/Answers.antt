use Rattle.mapf_spacetime.proofs.cheapest.arrive.Goals as goal

pub least_walk-requires-clause-arrives : goal.least_walk-requires-clause-arrives
least_walk-requires-clause-arrives g c = c.requires.arrived.leads

pub least_walk-requires-clause-within : goal.least_walk-requires-clause-within
least_walk-requires-clause-within g c = c.requires.arrived.within
