use Rattle.std.proofs.Common.{ℕ, ◌+◌, refl, sym, subst}
use Rattle.std.proofs.lemmas.Bool.{iff_false, not-true, not_from_false, false_from_ne_true}
use Rattle.mapf_lemmas.specs.JointLabels.{IsJointLabel}
use Rattle.mapf_lemmas.specs.SingleLabels.{step_price}
use Rattle.mapf_lemmas.specs.declared.joint.JointState.TheVariants.{Both}
use Rattle.mapf_model.specs.declared.label.Label.{Label}
use Rattle.mapf_model.specs.declared.label.Label.TheVariants.{Ticks}
use Rattle.mapf_model.specs.Labels.{IsAtMost, label_plus}
use Rattle.mapf_joint_labels.specs.Pairs.{lists_of, task_of}
use Rattle.mapf_joint_labels.proofs.together.holds.Goals as goal

pub returns-then-not-are_apart : goal.returns-then-not-are_apart
returns-then-not-are_apart c = (λ _ may_first may_second apart. absurd (iff_false c.are_apart.ensures c.if-not-are_apart.true apart), λ _. refl)

pub returns-then-is_within : goal.returns-then-is_within
returns-then-is_within c =
    let pair = c.args.pair.now in
    let entry = c.args.entry.now in
    let after = c.both_label-after.result in
    let is = subst (λ (t : ℕ). IsJointLabel (task_of pair) (lists_of pair) (Both c.args.next.now.first c.args.next.now.second) t after) c.requires.marks.joint_tick c.both_label-after.ensures in (
      λ _ may_first may_second apart. (after, is, subst (λ (p : ℕ). IsAtMost entry.label (label_plus (Ticks p) after)) c.moves_price-price.ensures (c.is_within.ensures.0 c.if-is_within.true)),
      λ _. refl,
    )

pub returns : goal.returns
returns c =
    let pair = c.args.pair.now in
    let entry = c.args.entry.now in
    let after = c.both_label-after.result in
    let is = subst (λ (t : ℕ). IsJointLabel (task_of pair) (lists_of pair) (Both c.args.next.now.first c.args.next.now.second) t after) c.requires.marks.joint_tick c.both_label-after.ensures in (
      λ denied may_first may_second apart. absurd (iff_false c.may_move.ensures (not-true c.may_move.result denied) (may_first, may_second)),
      λ sound. not_from_false c.may_move.result (false_from_ne_true c.may_move.result (λ may.
          let moves = c.may_move.ensures.0 may in
          let (label, is_label, low) = sound moves.0 moves.1 (c.are_apart.ensures.0 c.if-not-are_apart.false) in
          let same = c.lemmas_are_decided.ensures.joint (task_of pair) (lists_of pair) (Both c.args.next.now.first c.args.next.now.second) (entry.tick + 1) label after is_label is in
          iff_false c.is_within.ensures c.if-is_within.false
          (subst (λ (p : ℕ). IsAtMost entry.label (label_plus (Ticks p) after)) (sym c.moves_price-price.ensures)
          (subst (λ (l : Label). IsAtMost entry.label (label_plus (Ticks (step_price pair.first_task.now.list entry.cells.first c.args.next.now.first entry.tick + step_price pair.first_task.now.list entry.cells.second c.args.next.now.second entry.tick)) l)) same low)))),
    )
