use Rattle.std.proofs.Common.{◌+◌, sym, ap, ◌∙◌}
use Rattle.std.proofs.lemmas.Result.{err_from_is_err_and}
use Rattle.mapf_text.specs.Scenarios.{filled_lines}
use Rattle.mapf_text.proofs.RowLemmas.{line_at}
use Rattle.mapf_text.proofs.ScenarioLemmas.{agents-push, few_rows, fault_at}
use Rattle.mapf_text.proofs.scenario.read_agents.Goals as goal

pub returns-in_default-next_filled_line : goal.returns-in_default-next_filled_line
returns-in_default-next_filled_line c = few_rows _ _ _ _ _ c.loop-row-test.true c.loop-row.invariant.agents (sym c.loop-row.invariant.rest ∙ c.in_default-next_filled_line.ensures)

pub returns-in_err-read_row : goal.returns-in_err-read_row
returns-in_err-read_row c =
    let line = line_at (filled_lines c.args.text.now) c.loop-row.row c.in-Some.line.now _ (sym c.loop-row.invariant.rest ∙ c.in-Some.ensures) in
    let p = err_from_is_err_and c.from_residual.result c.from_residual.ensures.1 in
    rw (p.1, p.2) (fault_at _ _ _ _ _ _ _ _ c.loop-row-test.true c.loop-row.invariant.agents line c.in_err-read_row.ensures)

pub loop-row-preserved : goal.loop-row-preserved
loop-row-preserved c =
    let line = line_at (filled_lines c.args.text.now) c.loop-row.row c.in-Some.line.now _ (sym c.loop-row.invariant.rest ∙ c.in-Some.ensures) in
    record {
      agents = rw c.push_reserved.ensures.items (agents-push _ _ _ _ _ _ _ c.loop-row.invariant.agents line c.in_ok-read_row.ensures);
      rest = sym line.back;
      len = c.push_reserved.ensures.len ∙ ap (λ n. n + 1) c.loop-row.invariant.len;
      capacity = c.push_reserved.ensures.capacity ∙ c.loop-row.invariant.capacity;
    }
