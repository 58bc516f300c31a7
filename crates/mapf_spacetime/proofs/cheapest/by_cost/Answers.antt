use Rattle.std.proofs.Common.{arith}
use Rattle.mapf_spacetime.proofs.cheapest.by_cost.Goals as goal

pub walked-requires-clause-rest : goal.walked-requires-clause-rest
walked-requires-clause-rest g c =
    let early = c.rest.ensures.early c.horizon.result c.horizon.ensures.above in
    c.rest.ensures.rest c.min-bound.result (omega arith)

pub above-requires-clause-rest : goal.above-requires-clause-rest
above-requires-clause-rest g c =
    let early = c.rest.ensures.early c.horizon.result c.horizon.ensures.above in
    c.rest.ensures.rest c.min-bound.result (omega arith)
