use Rattle.std.proofs.Common.{eq-eqb}
use Rattle.mapf_cases.proofs.RuleLemmas.{next_stands, next_serves, none_from}
use Rattle.mapf_cases.proofs.rule_index.RuleIndex.stands_from.Goals as goal

pub returns-then-of-agent-clause-sound : goal.returns-then-of-agent-clause-sound
returns-then-of-agent-clause-sound c constraints indexed found =
    next_stands constraints c.args.self.now indexed c.args.agent c.args.first.now c.args.needed.now _ _ c.in-Some.field-0.now c.in-Some.ensures.steps (c.range.ensures.in_range tt) c.if-of-agent.true (c.stands_for.ensures.0 found)

pub returns-then-of-agent-clause-complete : goal.returns-then-of-agent-clause-complete
returns-then-of-agent-clause-complete c constraints rule indexed stands serves =
    c.stands_for.ensures.1 (next_serves constraints c.args.self.now indexed c.args.agent c.args.first.now c.args.needed.now _ _ c.in-Some.field-0.now c.in-Some.ensures.steps (c.range.ensures.in_range tt) rule stands serves).1

pub returns-else-of-agent-clause-complete : goal.returns-else-of-agent-clause-complete
returns-else-of-agent-clause-complete c constraints rule indexed stands serves =
    eq-eqb _ _ (next_serves constraints c.args.self.now indexed c.args.agent c.args.first.now c.args.needed.now _ _ c.in-Some.field-0.now c.in-Some.ensures.steps (c.range.ensures.in_range tt) rule stands serves).0

pub returns-in-None-clause-complete : goal.returns-in-None-clause-complete
returns-in-None-clause-complete c constraints rule indexed stands serves =
    absurd (none_from constraints c.args.self.now indexed c.args.agent c.args.first.now c.args.needed.now (λ q low. (c.range.ensures.in_range tt).5 c.in-None.ensures.steps.0 q (low, tt)) rule stands serves)
