use Rattle.std.proofs.Common.{sym, ◌∙◌}
use Rattle.mapf_text.proofs.ScenarioLemmas.{filled-none, filled-line, filled-blank}
use Rattle.mapf_text.proofs.scenario.next_filled_line.Goals as goal

pub returns-then-not-is_blank_line : goal.returns-then-not-is_blank_line
returns-then-not-is_blank_line c = sym c.loop-line.invariant ∙ filled-line _ _ _ c.in-Some.ensures.lines (sym c.if-not-is_blank_line.ensures)

pub loop-line-preserved : goal.loop-line-preserved
loop-line-preserved c = sym (filled-blank _ _ _ c.in-Some.ensures.lines (sym c.if-not-is_blank_line.ensures)) ∙ c.loop-line.invariant

pub returns : goal.returns
returns c = sym c.loop-line.invariant ∙ filled-none _ c.in_default.ensures.lines
