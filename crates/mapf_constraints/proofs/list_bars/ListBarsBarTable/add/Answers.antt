use Rattle.mapf_constraints.proofs.BarLemmas.{AreSameBars-push}
use Rattle.mapf_constraints.proofs.list_bars.ListBarsBarTable.add.Goals as goal

pub returns-clause-added : goal.returns-clause-added
returns-clause-added c = rw (c.in_ok-push.ensures.items, ← c.self.view_is) (AreSameBars-push c.self.inside.bars.items c.args.bar)
