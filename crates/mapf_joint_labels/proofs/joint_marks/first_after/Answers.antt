use Rattle.std.proofs.Common.{◌+◌, ◌-◌, ◌/◌, ◌<◌, length, ap, arith}
use Rattle.std.proofs.lemmas.List.{get_or_default}
use Rattle.mapf_lemmas.specs.declared.joint.JointEntry.{JointEntry}
use Rattle.mapf_joint_labels.proofs.OrderLemmas.{ticks_rise}
use Rattle.mapf_joint_labels.proofs.joint_marks.first_after.Goals as goal

pub loop-from-preserved-then-entries-middle : goal.loop-from-preserved-then-entries-middle
loop-from-preserved-then-entries-middle c =
    let entries = c.args.entries.now in
    let i = c.loop-from.invariant in
    let middle = c.loop-from.from + (c.loop-from.to - c.loop-from.from) / 2 in
    let here = c.index-entries-middle.result in
    let some = c.loop-from-test.true in
    let most = i.within in
    let e = c.if-entries-middle.true in
    let is = ap (λ (x : JointEntry). x.tick) c.index-entries-middle.is in
    let within : middle < length entries = omega (arith, some, most) in
    record {
      order = omega (arith, some);
      within = i.within;
      before = λ k d below.
          let same = ap (λ (x : JointEntry). x.tick) (get_or_default entries middle here d within) in
          let rise = ticks_rise entries c.requires k middle d (omega (arith, below)) within in
          omega (arith, e, is, same, rise);
      others = i.others;
    }

pub loop-from-preserved : goal.loop-from-preserved
loop-from-preserved c =
    let entries = c.args.entries.now in
    let i = c.loop-from.invariant in
    let middle = c.loop-from.from + (c.loop-from.to - c.loop-from.from) / 2 in
    let here = c.index-entries-middle.result in
    let some = c.loop-from-test.true in
    let most = i.within in
    let e = c.if-entries-middle.false in
    let is = ap (λ (x : JointEntry). x.tick) c.index-entries-middle.is in
    let within : middle < length entries = omega (arith, some, most) in
    record {
      order = omega (arith, some);
      within = omega (arith, within);
      before = i.before;
      others = λ k d past inside.
          let same = ap (λ (x : JointEntry). x.tick) (get_or_default entries middle here d within) in
          let rise = ticks_rise entries c.requires middle k d past inside in
          omega (arith, e, is, same, rise);
    }
