use Rattle.std.proofs.Common.{◌<◌, ◌≤◌, ⊎_elim, arith}
use Rattle.std.proofs.lemmas.Bool.{cases_lt}
use Rattle.mapf_lemmas.specs.declared.joint.JointEntry.{JointEntry}
use Rattle.mapf_lemmas.specs.declared.joint.JointState.TheVariants.{Both}
use Rattle.mapf_model.specs.declared.label.Label.TheVariants.{Never}
use Rattle.mapf_joint_labels.proofs.joint_marks.JointMarks.mark.Goals as goal

pub returns-clause-marking : goal.returns-clause-marking
returns-clause-marking c = λ k u v within of now inside.
    let d : JointEntry = record { state = Both 0 0; tick = 0; label = Never } in
    let from = c.first_at-from.result in
    let to = c.first_after-to.result in
    let is = now d in
    let low : from ≤ k = ⊎_elim
    (λ (early : k < from). let b = c.first_at-from.ensures.before k d early in absurd (omega (arith, b, is)))
    (λ (late : from ≤ k). late)
    (cases_lt k from) in
    let high : k < to = ⊎_elim
    (λ (less : k < to). less)
    (λ (past : to ≤ k). let o = c.first_after-to.ensures.others k d past within in absurd (omega (arith, o, is)))
    (cases_lt k to) in
    let ended = c.begin_runs.ensures.ended k u v low high of inside in
    record { from = c.begin_runs.ensures.begun k u v low high of inside; below = ended.0; within = ended.1 }
