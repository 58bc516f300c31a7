use Rattle.std.proofs.Common.{sym, ◌∙◌, arith}
use Rattle.mapf_text.specs.Lines.{lines_of}
use Rattle.mapf_text.proofs.RowLemmas.{line_at, rows-push, too_few, unknown_at}
use Rattle.mapf_text.proofs.map.read_rows.Goals as goal

pub returns-in_default-next_line-clause-found : goal.returns-in_default-next_line-clause-found
returns-in_default-next_line-clause-found c = too_few _ _ _ _ _ c.loop-y-test.true c.loop-y.invariant.rows (sym c.loop-y.invariant.rest ∙ c.in_default-next_line.ensures.lines)

pub returns-in-Err-clause-found : goal.returns-in-Err-clause-found
returns-in-Err-clause-found c =
    let line = line_at (lines_of c.args.text.now) c.loop-y.y c.in-Some.row.now _ (sym c.loop-y.invariant.rest ∙ c.in-Some.ensures.lines) in
    unknown_at _ _ _ _ _ _ _ _ c.loop-y-test.true c.loop-y.invariant.rows line c.if-row-size.false c.in-Err.ensures.unknown

pub loop-y-preserved : goal.loop-y-preserved
loop-y-preserved c =
    let line = line_at (lines_of c.args.text.now) c.loop-y.y c.in-Some.row.now _ (sym c.loop-y.invariant.rest ∙ c.in-Some.ensures.lines) in
    let shorter = c.in-Some.ensures.shorter in
    let done = c.in_default-push_row.ensures in
    record {
      rows = rows-push _ _ _ _ _ _ _ c.loop-y.invariant.rows line c.if-row-size.false done.flags;
      rest = sym line.back;
      len = omega (arith, done.len, c.if-row-size.false, c.loop-y.invariant.len);
      capacity = done.capacity ∙ c.loop-y.invariant.capacity;
      shorter = omega arith;
    }
