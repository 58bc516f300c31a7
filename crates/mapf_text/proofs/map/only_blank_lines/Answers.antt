use Rattle.std.proofs.Common.{◌+◌, ap, sym, ◌∙◌, arith, below_more}
use Rattle.mapf_text.specs.Lines.{lines_of}
use Rattle.mapf_text.specs.Words.{is_blank_line}
use Rattle.mapf_text.proofs.RowLemmas.{line_at}
use Rattle.mapf_text.proofs.map.only_blank_lines.Goals as goal

pub loop-line-preserved : goal.loop-line-preserved
loop-line-preserved c =
    let (n, number, short, rest, blank) = c.loop-line.invariant in
    let line = line_at (lines_of c.args.text.now) n c.in-Some.line.now _ (sym rest ∙ c.in-Some.ensures.lines) in
    let fewer = c.in-Some.ensures.shorter in
    (n + 1, omega arith, omega arith, sym line.back, below_more _ _ blank (ap is_blank_line line.at ∙ sym c.if-not-is_blank_line.ensures))
