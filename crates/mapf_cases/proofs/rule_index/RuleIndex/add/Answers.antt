use Rattle.mapf_cases.proofs.RuleLemmas.{added, can_remove}
use Rattle.mapf_cases.proofs.rule_index.RuleIndex.add.Goals as goal

pub returns-clause-added : goal.returns-clause-added
returns-clause-added c constraints indexed =
    added constraints c.args.agent c.args.rule.now c.args.self.now (record { rules = c.insert.new.self }) indexed c.in_ok-insert.ensures.updates

pub returns-clause-undo : goal.returns-clause-undo
returns-clause-undo c constraints indexed =
    can_remove constraints c.args.agent c.args.rule.now c.args.self.now indexed c.in_ok-insert.field-0 c.in_ok-insert.ensures.added
