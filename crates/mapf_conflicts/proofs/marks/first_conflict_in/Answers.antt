use Rattle.std.proofs.Common.{IfNone, subst}
use Rattle.mapf_model.specs.Conflicts.{HaveSomeConflict}
use Rattle.mapf_conflicts.proofs.marks.first_conflict_in.Goals as goal

pub returns-clause-none : goal.returns-clause-none
returns-clause-none c = subst (λ paths. IfNone c.first_among.result (HaveSomeConflict paths → ⊥)) c.of.ensures c.first_among.ensures.none
