use Rattle.std.proofs.Common.{length, refl, sym, ◌∙◌, ap, slice_set, arith}
use Rattle.std.proofs.lemmas.Option.{slice_get_read}
use Rattle.mapf_conflicts.proofs.ReplacementLemmas.{cells_next}
use Rattle.mapf_conflicts.proofs.patched_paths.write_cells.Goals as goal

pub loop-replacement-preserved : goal.loop-replacement-preserved
loop-replacement-preserved c =
    let all = c.args.replacements.now in
    let i = c.loop-replacement.replacement-index in
    let one = c.replacement-item.result in
    let is = slice_get_read all (length all) i one refl (omega arith) c.replacement-item.is in
    ap (λ cells. slice_set cells one.agent c.at.result) c.loop-replacement.invariant
    ∙ ap (slice_set (_) one.agent) c.at.ensures ∙ sym (cells_next c.args.base.now all i one c.args.tick is)
