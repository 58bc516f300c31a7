use Rattle.std.proofs.Common.{◌≡◌, ◌∙◌, ℕ, ◌+◌, IsTrue, ◌↔◌, refl, sym, ap, subst}
use Rattle.std.proofs.lemmas.Bool.{iff_false, not-true, not_from_false, false_from_ne_true, eqb-true, eqb-false}
use Rattle.mapf_lemmas.specs.Prices.{PriceList}
use Rattle.mapf_lemmas.specs.SingleLabels.{MayStep, Task, step_price}
use Rattle.mapf_model.specs.declared.label.Label.{Label}
use Rattle.mapf_model.specs.declared.label.Label.TheVariants.{Ticks}
use Rattle.mapf_model.specs.Labels.{IsAtMost, label_plus}
use Rattle.mapf_joint_labels.specs.Pairs.{alone, lists_of, own_task, task_of}
use Rattle.mapf_joint_labels.proofs.PairLemmas.{own_list}
use Rattle.mapf_joint_labels.proofs.alone.holds_alone.Goals as goal

pub returns-then-eq : goal.returns-then-eq
returns-then-eq c = (λ _ may other. absurd (other (eqb-true _ _ (sym c.eq.ensures ∙ c.if-eq.true) ∙ c.other_goal.ensures)), λ _. refl)

pub returns-then-is_within : goal.returns-then-is_within
returns-then-is_within c =
    let pair = c.args.pair.now in
    let entry = c.args.entry.now in
    let after = c.alone_label-after.result in
    let price : c.step-price.result ≡ step_price pair.first_task.now.list entry.cell c.args.next entry.tick =
    c.step-price.ensures.value ∙ ap (λ (l : PriceList). step_price l entry.cell c.args.next entry.tick) (c.prices.ensures ∙ ap (λ (t : Task). t.list) c.task-task.ensures ∙ own_list (task_of pair) c.args.side) in (
      λ _ may other. (after, c.alone_label-after.ensures, subst (λ (p : ℕ). IsAtMost entry.label (label_plus (Ticks p) after)) price (c.is_within.ensures.0 c.if-is_within.true)),
      λ _. refl,
    )

pub returns : goal.returns
returns c =
    let pair = c.args.pair.now in
    let entry = c.args.entry.now in
    let side = c.args.side in
    let after = c.alone_label-after.result in
    let price : c.step-price.result ≡ step_price pair.first_task.now.list entry.cell c.args.next entry.tick =
    c.step-price.ensures.value ∙ ap (λ (l : PriceList). step_price l entry.cell c.args.next entry.tick) (c.prices.ensures ∙ ap (λ (t : Task). t.list) c.task-task.ensures ∙ own_list (task_of pair) side) in
    let decided : IsTrue c.may_step.result ↔ MayStep (own_task (task_of pair) side) entry.cell c.args.next entry.tick = subst (λ (t : Task). IsTrue c.may_step.result ↔ MayStep t entry.cell c.args.next entry.tick) c.task-task.ensures c.may_step.ensures in (
      λ denied may other. absurd (iff_false decided (not-true c.may_step.result denied) may),
      λ sound. not_from_false c.may_step.result (false_from_ne_true c.may_step.result (λ may.
          let (label, is_label, low) = sound (decided.0 may) (λ same. eqb-false _ _ (sym c.eq.ensures ∙ c.if-eq.false) (same ∙ sym c.other_goal.ensures)) in
          let same = c.lemmas_are_decided.ensures.joint (task_of pair) (lists_of pair) (alone side c.args.next) (entry.tick + 1) label after is_label c.alone_label-after.ensures in
          iff_false c.is_within.ensures c.if-is_within.false
          (subst (λ (p : ℕ). IsAtMost entry.label (label_plus (Ticks p) after)) (sym price)
          (subst (λ (l : Label). IsAtMost entry.label (label_plus (Ticks (step_price pair.first_task.now.list entry.cell c.args.next entry.tick)) l)) same low)))),
    )
