use Rattle.std.proofs.Common.{IfNone, subst, ◌∙◌}
use Rattle.std.proofs.lemmas.List.{map-id}
use Rattle.mapf_model.specs.Conflicts.{HaveSomeConflict}
use Rattle.mapf_conflicts.proofs.first.first_conflict.Goals as goal

pub returns-clause-none : goal.returns-clause-none
returns-clause-none c = subst (λ plan. IfNone c.first_among.result (HaveSomeConflict plan → ⊥)) (c.of.ensures ∙ map-id c.paths.result.now ∙ c.paths.ensures.value) c.first_among.ensures.none
