use Rattle.mapf_constraints.proofs.BarLemmas.{IsHorizon-with}
use Rattle.mapf_constraints.proofs.later.horizon_with.Goals as goal

pub returns : goal.returns
returns c before after is same = rw (c.max.ensures, c.tick.ensures) (IsHorizon-with before after c.args.bar.now same c.args.horizon is)
