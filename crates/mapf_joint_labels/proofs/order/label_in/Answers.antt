use Rattle.std.proofs.Common.{◌≡◌, ℕ, ◌<◌, ◌≤◌, ◌∙◌, length, slice_index_or, sym, ap, subst, arith}
use Rattle.std.proofs.lemmas.Bool.{iff_false}
use Rattle.std.proofs.lemmas.List.{get_or_default}
use Rattle.mapf_lemmas.specs.declared.joint.JointEntry.{JointEntry}
use Rattle.mapf_joint_labels.specs.JointOrder.{IsJointOf}
use Rattle.mapf_joint_labels.proofs.OrderLemmas.{joint_none, joint_some}
use Rattle.mapf_joint_labels.proofs.order.label_in.Goals as goal
use Rattle.mapf_joint_labels.proofs.order.label_in.Goals.{in_default-via-in-Some+else-is_of, in_default-via-in_default}

pub returns-in-Some : goal.returns-in-Some
returns-in-Some c =
    let lookup = c.in-Some.ensures.lookup in
    sym (joint_some c.args.entries.now c.args.state.now c.args.tick c.place_in.result c.in-Some.entry.now c.requires.rising lookup.3.0 (λ d. sym (lookup.3.1 d)) (c.is_of.ensures.0 c.if-is_of.true))

pub returns-in_default : goal.returns-in_default
returns-in_default c =
    let entries = c.args.entries.now in
    let state = c.args.state.now in
    let tick = c.args.tick in
    let place = c.place_in.result in
    let at : (k : ℕ) (d : JointEntry) → k < length entries → IsJointOf state tick (slice_index_or entries k d) → place ≡ k = λ k d within of.
    c.place_in.ensures k (record { rising = c.requires.rising; inside = c.requires.run k d within of; is = λ e. subst (IsJointOf state tick) (get_or_default entries k d e within) of }) in
    sym (joint_none entries state tick (λ k d within of.
    let here = at k d within of in
    elim c.in_default.branch [
      | in_default-via-in-Some+else-is_of w ↦
          let lookup = w.in-Some.ensures.lookup in
          let found : w.in-Some.entry.now ≡ slice_index_or entries k d = lookup.3.1 d ∙ ap (λ n. slice_index_or entries n d) here in
          iff_false w.is_of.ensures w.if-is_of.false (subst (IsJointOf state tick) (sym found) of)
      | in_default-via-in_default w ↦
          let none : length entries ≤ place = rw w.in_default.is at c.get.ensures.lookup.3 in
          omega (arith, none, here, within)
    ]))
