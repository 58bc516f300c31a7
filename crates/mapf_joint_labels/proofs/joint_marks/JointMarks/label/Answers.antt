use Rattle.std.proofs.Common.{◌<◌, ◌∙◌, length, sym, ap, subst}
use Rattle.std.proofs.lemmas.List.{get_or_default}
use Rattle.mapf_lemmas.specs.declared.joint.JointEntry.{JointEntry}
use Rattle.mapf_joint_labels.specs.declared.runs.Run.{Run}
use Rattle.mapf_joint_labels.specs.JointMarks.{IsMarking, Marks}
use Rattle.mapf_joint_labels.specs.JointOrder.{IsIn}
use Rattle.mapf_joint_labels.proofs.joint_marks.JointMarks.label.Goals as goal

pub label_in-requires-clause-run : goal.label_in-requires-clause-run
label_in-requires-clause-run c = λ k d within of.
    let entries = c.args.entries.now in
    let marks : Marks = record { runs = c.self.inside.runs; tick = c.self.inside.tick } in
    let marking : IsMarking entries marks = subst (IsMarking entries) (sym c.self.view_is) c.requires.marking in
    let marked : c.args.first < length c.self.inside.runs = subst (λ (m : Marks). c.args.first < length m.runs) (sym c.self.view_is) c.requires.marked in
    subst (λ (r : Run). IsIn r (length entries) k) (sym c.get.ensures)
    (marking k c.args.first c.args.second within
    (λ e. ap (λ (x : JointEntry). x.state) (get_or_default entries k e d within) ∙ of.0)
    (λ e. ap (λ (x : JointEntry). x.tick) (get_or_default entries k e d within) ∙ of.1)
    marked)
