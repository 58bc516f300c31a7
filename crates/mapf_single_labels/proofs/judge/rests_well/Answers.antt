use Rattle.std.proofs.Common.{◌≡◌, ◌↔◌, IsTrue, sym, ◌∙◌, ap, subst}
use Rattle.mapf_lemmas.specs.Prices.{PriceList, rest_price}
use Rattle.mapf_model.specs.declared.label.Entry.{Entry}
use Rattle.mapf_model.specs.declared.label.Label.TheVariants.{Ticks}
use Rattle.mapf_model.specs.Labels.{IsAtMost}
use Rattle.mapf_single_labels.specs.Tasks.{IsRestSound}
use Rattle.mapf_single_labels.proofs.judge.rests_well.Goals as goal

pub returns : goal.returns
returns c =
    let task = c.args.task.now in
    let e : Entry = record { cell = c.entry.inside.cell; tick = c.entry.inside.tick; label = c.entry.inside.label } in
    let price : c.of.result ≡ Ticks (rest_price task.list.prices e.cell e.tick) = c.of.ensures ∙ ap Ticks (c.rest-rest.ensures.value ∙ ap (λ (l : PriceList). rest_price l.prices c.entry.inside.cell c.entry.inside.tick) c.prices.ensures) in
    subst (λ (x : Entry). IsTrue c.is_at_most.result ↔ IsRestSound task x) c.entry.view_is (
      λ yes may. subst (IsAtMost e.label) price (c.is_at_most.ensures.0 yes),
      λ sound. c.is_at_most.ensures.1 (subst (IsAtMost e.label) (sym price) (sound (c.may_rest.ensures.0 c.if-not-may_rest.false))),
    )
