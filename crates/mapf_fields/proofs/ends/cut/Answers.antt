use Rattle.std.proofs.Common.{length, take, drop, length-drop, Some, ◌+◌, ◌-◌, arith, sym, ap, ◌∙◌}
use Rattle.std.proofs.lemmas.List.{take_all}
use Rattle.mapf_fields.proofs.Cuts.{cut_is, cut_none}
use Rattle.mapf_fields.proofs.ends.cut.Goals as goal

pub returns-in-None-clause-value : goal.returns-in-None-clause-value
returns-in-None-clause-value c = sym (cut_none c.args.bytes.now c.in-None.ensures)

pub returns-in-Some-clause-value : goal.returns-in-Some-clause-value
returns-in-Some-clause-value c =
    let bs = c.args.bytes.now in
    let n = c.in-Some.n in
    let rest = drop (n + 1) bs in
    ap (λ r. Some (take n bs, r)) (take_all (length bs - (n + 1)) rest (omega (arith, length-drop (n + 1) bs))) ∙ sym (cut_is bs (take n bs) rest c.in-Some.ensures.1)
