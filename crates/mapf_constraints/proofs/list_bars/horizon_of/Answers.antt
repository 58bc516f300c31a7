use Rattle.mapf_constraints.proofs.BarLemmas.{AreSameBars-take}
use Rattle.mapf_constraints.proofs.list_bars.horizon_of.Goals as goal

pub loop-bar-preserved : goal.loop-bar-preserved
loop-bar-preserved c =
    c.horizon_with-horizon.ensures _ _ c.loop-bar.invariant
    (AreSameBars-take c.args.bars.now c.loop-bar.bar-index c.bar-item.result c.loop-bar-test.true c.bar-item.is)
