use Rattle.mapf_checker.proofs.IndexLemmas.{added, can_undo}
use Rattle.mapf_checker.proofs.index.BarIndex.add.Goals as goal

pub returns-clause-added : goal.returns-clause-added
returns-clause-added c bars indexed =
    let constraint = c.args.constraint.now in
    added bars constraint.agent constraint.bar c.args.self.now (record { constraints = c.insert.new.self }) indexed c.in_ok-is_new.ensures.updates

pub returns-clause-undo : goal.returns-clause-undo
returns-clause-undo c bars indexed =
    let constraint = c.args.constraint.now in
    can_undo bars constraint.agent constraint.bar c.args.self.now indexed c.in_ok-is_new.is_new c.in_ok-is_new.ensures.added
