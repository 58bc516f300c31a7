use Rattle.std.proofs.lemmas.List.{take_all}
use Rattle.mapf_constraints.proofs.BarLemmas.{AreSameBars-take}
use Rattle.mapf_constraints.proofs.list_bars.last_among.Goals as goal

pub loop-bar-preserved : goal.loop-bar-preserved
loop-bar-preserved c =
    c.last_with-last.ensures _ _ c.loop-bar.invariant
    (AreSameBars-take c.args.bars.now c.loop-bar.bar-index c.bar-item.result c.loop-bar-test.true c.bar-item.is)

pub returns : goal.returns
returns c = rw (take_all c.loop-bar.bar-index c.args.bars.now c.loop-bar-test.false) at c.loop-bar.invariant
