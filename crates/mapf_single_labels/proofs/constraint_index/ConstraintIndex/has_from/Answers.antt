use Rattle.mapf_single_labels.proofs.ConstraintLemmas.{barred_from, first_from, none_from}
use Rattle.mapf_single_labels.proofs.constraint_index.ConstraintIndex.has_from.Goals as goal

pub returns-in-Some : goal.returns-in-Some
returns-in-Some c listed indexed = (
  λ yes. barred_from listed c.args.self.now indexed c.args.cell c.args.tick _ _ c.in-Some.field-0.now c.in-Some.ensures.steps (c.range.ensures.in_range tt) (c.is_on.ensures.0 yes),
  λ there. c.is_on.ensures.1 (first_from listed c.args.self.now indexed c.args.cell c.args.tick _ _ c.in-Some.field-0.now c.in-Some.ensures.steps (c.range.ensures.in_range tt) there),
)

pub returns-in-None : goal.returns-in-None
returns-in-None c listed indexed = (
  λ no. absurd cc,
  λ there. absurd (none_from listed c.args.self.now indexed c.args.cell c.args.tick (λ q low. (c.range.ensures.in_range tt).5 c.in-None.ensures.steps.0 q (low, tt)) there),
)
