use Rattle.std.proofs.Common.{eq-eqb, eqb-true}
use Rattle.mapf_checker.proofs.IndexLemmas.{barred_from, first_from, none_from}
use Rattle.mapf_checker.proofs.index.BarIndex.has_from.Goals as goal

pub returns-then-of-agent : goal.returns-then-of-agent
returns-then-of-agent c bars indexed = (
  λ yes. barred_from bars c.args.self.now indexed c.args.agent c.args.cell c.args.tick _ _ c.in-Some.field-0.now c.in-Some.ensures.steps (c.range.ensures.in_range tt) c.if-of-agent.true (c.is_on.ensures.0 yes),
  λ there. c.is_on.ensures.1 (first_from bars c.args.self.now indexed c.args.agent c.args.cell c.args.tick _ _ c.in-Some.field-0.now c.in-Some.ensures.steps (c.range.ensures.in_range tt) there).1,
)

pub returns-else-of-agent : goal.returns-else-of-agent
returns-else-of-agent c bars indexed = (
  λ yes. absurd (c.if-of-agent.false (eqb-true _ _ yes)),
  λ there. eq-eqb _ _ (first_from bars c.args.self.now indexed c.args.agent c.args.cell c.args.tick _ _ c.in-Some.field-0.now c.in-Some.ensures.steps (c.range.ensures.in_range tt) there).0,
)

pub returns-in-None : goal.returns-in-None
returns-in-None c bars indexed = (
  λ no. absurd cc,
  λ there. absurd (none_from bars c.args.self.now indexed c.args.agent c.args.cell c.args.tick (λ q low. (c.range.ensures.in_range tt).5 c.in-None.ensures.steps.0 q (low, tt)) there),
)
