use Rattle.std.proofs.lemmas.List.{take_all}
use Rattle.mapf_constraints.proofs.ChainLemmas.{bars_of-take}
use Rattle.mapf_constraints.proofs.tick_bars.last_among.Goals as goal

pub loop-link-preserved : goal.loop-link-preserved
loop-link-preserved c =
    c.last_with-last.ensures _ _ c.loop-link.invariant
    (bars_of-take c.args.links.now c.loop-link.link-index c.link-item.result c.loop-link-test.true c.link-item.is)

pub returns : goal.returns
returns c = rw (take_all c.loop-link.link-index c.args.links.now c.loop-link-test.false) at c.loop-link.invariant
