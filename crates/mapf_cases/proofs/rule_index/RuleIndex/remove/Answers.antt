use Rattle.std.proofs.lemmas.Bool.{MatchBool-at_true, MatchBool-at_false}
use Rattle.mapf_cases.proofs.RuleLemmas.{removed, again}
use Rattle.mapf_cases.proofs.rule_index.RuleIndex.remove.Goals as goal

pub returns-then-is_new : goal.returns-then-is_new
returns-then-is_new c constraints indexed can =
    removed constraints c.args.agent c.args.rule.now c.args.self.now (record { rules = c.remove.new.self }) indexed (MatchBool-at_true _ _ c.if-is_new.true can) c.remove.ensures.updates

pub returns-else-is_new : goal.returns-else-is_new
returns-else-is_new c constraints indexed can =
    again constraints c.args.agent c.args.rule.now c.args.self.now indexed (MatchBool-at_false _ _ c.if-is_new.false can)
