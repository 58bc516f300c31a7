use Rattle.std.proofs.lemmas.Bool.{MatchBool-at_true, MatchBool-at_false}
use Rattle.mapf_checker.proofs.IndexLemmas.{removed, again}
use Rattle.mapf_checker.proofs.index.BarIndex.undo.Goals as goal

pub returns-then-undo : goal.returns-then-undo
returns-then-undo c bars indexed can =
    let constraint = c.args.constraint.now in
    removed bars constraint.agent constraint.bar c.args.self.now (record { constraints = c.remove.new.self }) indexed (MatchBool-at_true _ _ c.if-undo.true can) c.remove.ensures.updates

pub returns-else-undo : goal.returns-else-undo
returns-else-undo c bars indexed can =
    let constraint = c.args.constraint.now in
    again bars constraint.agent constraint.bar c.args.self.now indexed (MatchBool-at_false _ _ c.if-undo.false can)
