use Rattle.std.proofs.Common.{◌∙◌, length, sym, subst, arith}
use Rattle.mapf_lemmas.specs.SingleLabels.{IsSingleLabel, Task}
use Rattle.mapf_lemmas.specs.declared.joint.JointState.TheVariants.{SecondAlone}
use Rattle.mapf_joint_labels.specs.declared.runs.Run.{Run}
use Rattle.mapf_joint_labels.specs.JointOrder.{IsIn}
use Rattle.mapf_joint_labels.specs.Pairs.{lists_of, task_of}
use Rattle.mapf_joint_labels.proofs.PairLemmas.{default_label, listed_label, second_is}
use Rattle.mapf_joint_labels.proofs.pair.Pair.second_label.Goals as goal

pub label_in-requires-clause-run : goal.label_in-requires-clause-run
label_in-requires-clause-run c = λ k d within of. subst (λ (r : Run). IsIn r (length c.args.self.now.joint.now) k) (sym c.whole.ensures) (record { from = omega arith; below = within; within = omega arith })

pub returns-in-Some : goal.returns-in-Some
returns-in-Some c =
    let pair = c.args.self.now in
    listed_label (task_of pair) (lists_of pair) (SecondAlone c.args.cell) c.args.tick c.in-Some.label (sym c.label_in.ensures ∙ c.in-Some.is)

pub returns-in-None : goal.returns-in-None
returns-in-None c =
    let pair = c.args.self.now in
    default_label (task_of pair) (lists_of pair) (SecondAlone c.args.cell) c.args.tick c.label_at.result (sym c.label_in.ensures ∙ c.in-None.is) (subst (λ (t : Task). IsSingleLabel t (lists_of pair).second c.args.cell c.args.tick c.label_at.result) (sym (second_is pair c.requires)) c.label_at.ensures)
