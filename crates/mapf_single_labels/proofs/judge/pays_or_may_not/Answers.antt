use Rattle.std.proofs.Common.{◌≡◌, ◌↔◌, not, IsTrue, sym, ◌∙◌, ap, subst}
use Rattle.std.proofs.lemmas.Bool.{iff_false, not-true, not_from_false, false_from_ne_true}
use Rattle.mapf_lemmas.specs.Prices.{PriceList}
use Rattle.mapf_lemmas.specs.SingleLabels.{step_price}
use Rattle.mapf_model.specs.declared.label.Entry.{Entry}
use Rattle.mapf_model.specs.declared.label.Label.{Label}
use Rattle.mapf_model.specs.declared.label.Label.TheVariants.{Ticks}
use Rattle.mapf_model.specs.Labels.{IsAtMost, label_plus}
use Rattle.mapf_single_labels.specs.Tasks.{IsConsistentWith}
use Rattle.mapf_single_labels.proofs.judge.pays_or_may_not.Goals as goal

pub returns-then-is_at_most : goal.returns-then-is_at_most
returns-then-is_at_most c =
    let task = c.args.task.now in
    let e : Entry = record { cell = c.entry.inside.cell; tick = c.entry.inside.tick; label = c.entry.inside.label } in
    let price : c.of-price.result ≡ Ticks (step_price task.list e.cell c.args.next e.tick) = c.of-price.ensures ∙ ap Ticks (c.step.ensures.value ∙ ap (λ (l : PriceList). step_price l c.entry.inside.cell c.args.next c.entry.inside.tick) c.prices.ensures) in
    let sum : c.plus.result ≡ label_plus (Ticks (step_price task.list e.cell c.args.next e.tick)) c.args.after = c.plus.ensures ∙ ap (λ (l : Label). label_plus l c.args.after) price in
    subst (λ (x : Entry). IsTrue c.is_at_most.result ↔ IsConsistentWith task x c.args.next c.args.after) c.entry.view_is (
      λ yes may. subst (IsAtMost e.label) sum (c.is_at_most.ensures.0 yes),
      λ consistent. c.if-is_at_most.true,
    )

pub returns-else-is_at_most : goal.returns-else-is_at_most
returns-else-is_at_most c =
    let task = c.args.task.now in
    let e : Entry = record { cell = c.entry.inside.cell; tick = c.entry.inside.tick; label = c.entry.inside.label } in
    let price : c.of-price.result ≡ Ticks (step_price task.list e.cell c.args.next e.tick) = c.of-price.ensures ∙ ap Ticks (c.step.ensures.value ∙ ap (λ (l : PriceList). step_price l c.entry.inside.cell c.args.next c.entry.inside.tick) c.prices.ensures) in
    let sum : c.plus.result ≡ label_plus (Ticks (step_price task.list e.cell c.args.next e.tick)) c.args.after = c.plus.ensures ∙ ap (λ (l : Label). label_plus l c.args.after) price in
    subst (λ (x : Entry). IsTrue (not c.may_step.result) ↔ IsConsistentWith task x c.args.next c.args.after) c.entry.view_is (
      λ yes may. absurd (iff_false c.may_step.ensures (not-true c.may_step.result yes) may),
      λ consistent. not_from_false c.may_step.result (false_from_ne_true c.may_step.result (λ may. iff_false c.is_at_most.ensures c.if-is_at_most.false (subst (IsAtMost e.label) (sym sum) (consistent (c.may_step.ensures.0 may))))),
    )
