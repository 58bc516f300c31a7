use Rattle.std.proofs.Common.{◌≡◌, ◌∙◌, ap, subst, sym, arith}
use Rattle.mapf_lemmas.specs.Prices.{PriceList}
use Rattle.mapf_lemmas.specs.declared.joint.JointState.TheVariants.{Both}
use Rattle.mapf_single_labels.specs.Ranges.{IsLabelUpTo, greatest_entry_label}
use Rattle.mapf_single_labels.proofs.TaskLemmas.{up_to_more, sum_up_to}
use Rattle.mapf_joint_labels.proofs.TwoLemmas.{listed_small}
use Rattle.mapf_joint_labels.proofs.two.label_of_starts.Goals as goal

pub returns-in-Some-clause-small : goal.returns-in-Some-clause-small
returns-in-Some-clause-small c =
    let small = listed_small c.args.pair.now c.requires (Both c.agent.result.start c.agent-2.result.start) 0 c.in-Some.label (sym c.label_in.ensures ∙ c.in-Some.is) in
    up_to_more c.in-Some.label greatest_entry_label 8589934590000 small (omega arith)

pub returns-in-Some-clause-plain : goal.returns-in-Some-clause-plain
returns-in-Some-clause-plain c unit =
    let small = listed_small c.args.pair.now c.requires (Both c.agent.result.start c.agent-2.result.start) 0 c.in-Some.label (sym c.label_in.ensures ∙ c.in-Some.is) in
    up_to_more c.in-Some.label greatest_entry_label 19999999998 small (omega arith)

pub returns-in-None-clause-plain : goal.returns-in-None-clause-plain
returns-in-None-clause-plain c unit =
    let other : c.args.pair.now.second_task.now.list.unit ≡ 1 = ap (λ (l : PriceList). l.unit) c.requires.list ∙ unit in
    subst (IsLabelUpTo 19999999998) (sym c.plus.ensures)
    (sum_up_to c.start_label-first.result c.start_label.result greatest_entry_label greatest_entry_label (c.start_label-first.ensures.plain unit) (c.start_label.ensures.plain other))
