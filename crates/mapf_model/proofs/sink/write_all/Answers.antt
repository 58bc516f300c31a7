use Rattle.std.proofs.Common.{arith, sym, subst, rules, length-drop}
use Rattle.std.proofs.Math.Seq.{take-add}
use Rattle.std.proofs.lemmas.List.{take_rest}
use Rattle.std.proofs.KnownBytes.{Appends-trans}
use Rattle.std.specs.Io.KnownBytes.{Appends}
use Rattle.mapf_model.proofs.sink.write_all.Goals as goal

pub loop-at-preserved : goal.loop-at-preserved
loop-at-preserved g c =
    let at = c.loop-at.at in
    let n = c.in_ok-n.n in
    let whole = c.args.bytes.now in
    let more = rw take_rest at c.in_ok-n.ensures.bytes in
    let some = rw take_rest at c.in_ok-n.ensures.bound in
    record {
      works = search rules;
      pushed = subst (Appends _ _) (sym (take-add at n whole)) (Appends-trans _ _ _ _ _ c.loop-at.invariant.pushed more);
      within = omega (arith, length-drop at whole, some);
    }
