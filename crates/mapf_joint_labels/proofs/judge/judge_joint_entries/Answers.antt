use Rattle.std.proofs.Common.{◌≡◌, ℕ, ◌<◌, ◌≤◌, length, slice_index_or, sym, ap, subst, ⊎_elim, arith}
use Rattle.std.proofs.lemmas.Bool.{cases_lt}
use Rattle.std.proofs.lemmas.List.{get_or_default}
use Rattle.mapf_lemmas.specs.declared.joint.JointEntry.{JointEntry}
use Rattle.mapf_joint_labels.specs.Pairs.{AreMarks, IsSoundIn}
use Rattle.mapf_joint_labels.proofs.OrderLemmas.{ticks_rise}
use Rattle.mapf_joint_labels.proofs.judge.judge_joint_entries.Goals as goal

pub loop-k-preserved : goal.loop-k-preserved
loop-k-preserved c =
    let pair = c.args.pair.now in
    let entries = pair.joint.now in
    let k = c.loop-k.k in
    let here = c.index-pair-k.result in
    let within : k < length entries = c.loop-k-test.true in
    let marks = c.advance.ensures.marks in
    let now = marks.joint_tick in
    record {
      marks = subst (λ (t : ℕ). AreMarks pair c.advance.new.marks t) (sym now) marks;
      room = c.advance.ensures.room;
      later = λ j d from inside.
          let rise = ticks_rise entries c.requires.pair.rising_joint k j d (omega (arith, from)) inside in
          let is = ap (λ (x : JointEntry). x.tick) (get_or_default entries k here d within) in
          omega (arith, now, rise, is);
      sound = λ j d below. ⊎_elim
          (λ (before : j < k). c.loop-k.invariant.sound j d before)
          (λ (past : k ≤ j).
          let same : j ≡ k = omega (arith, past, below) in
          subst (λ n. IsSoundIn pair (slice_index_or entries n d)) (sym same)
          (subst (IsSoundIn pair) (get_or_default entries k here d within) (c.is_sound.ensures.0 c.if-not-is_sound.false)))
          (cases_lt j k);
    }
