use Rattle.std.proofs.Common.{rules, [], ap, refl}
use Rattle.mapf_fields.specs.Numbers.{pair}
use Rattle.mapf_fields.proofs.Prefixes.{fails, prefix_held, then_pushed}
use Rattle.mapf_fields.proofs.ListPieces.{list_more, list_prefix}
use Rattle.mapf_certificate.proofs.text_writer.TextWriter.cells.Goals as goal

pub returns-in_err-reserve-clause-text : goal.returns-in_err-reserve-clause-text
returns-in_err-reserve-clause-text g c =
    let text = pair c.args.self.now.width c.cell-item.result in
    fails _ _ _ _ _ _ _ c.from_residual.ensures.1 (list_prefix (pair c.args.self.now.width) c.args.cells.now c.loop-cell.cell-index c.cell-item.result c.loop-cell-test.true c.cell-item.is
    _ _ _ _ _ text refl c.loop-cell.invariant.text (prefix_held _ _ _ [] text c.in_err-reserve.ensures.text))

pub loop-cell-preserved : goal.loop-cell-preserved
loop-cell-preserved g c = record {
  works = search rules;
  width = search rules;
  text = list_more (pair c.args.self.now.width) c.args.cells.now c.loop-cell.cell-index c.cell-item.result c.loop-cell-test.true c.cell-item.is
      _ _ _ _ _ _ (pair c.loop-cell.self.width c.cell-item.result) (ap (λ w. pair w c.cell-item.result) c.loop-cell.invariant.width) c.loop-cell.invariant.text
      (then_pushed _ _ _ _ _ (pair c.loop-cell.self.width c.cell-item.result) c.in_ok-reserve.ensures.text c.push_cell.ensures.text);
}
