use Rattle.std.proofs.Common.{◌↔◌, Contains, IsTrue, sym, subst}
use Rattle.mapf_checker.proofs.index.BarIndex.has.Goals as goal

pub returns : goal.returns
returns c bars indexed =
    let constraint = c.args.constraint.now in
    subst (λ b. IsTrue b ↔ Contains (bars constraint.agent) constraint.bar) (sym c.contains.ensures) (indexed constraint.agent constraint.bar)
