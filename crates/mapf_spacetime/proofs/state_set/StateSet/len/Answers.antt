use Rattle.std.proofs.Common.{length, length-append, length-take-le, take, ap, arith}
use Rattle.mapf_spacetime.proofs.state_set.StateSet.len.Goals as goal

pub returns : goal.returns
returns c =
    let few = length-take-le c.self.inside.count c.self.inside.few (omega (arith, c.self.invariant.0, c.self.invariant.1)) in
    let all = length-append (take c.self.inside.count c.self.inside.few) c.self.inside.more.keys in
    let value = ap length c.self.view_is in
    let rest = c.len.ensures.len in
    omega (arith, few, all, value, rest)
