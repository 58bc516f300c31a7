use Rattle.std.proofs.Common.{◌≡◌, ◌∙◌, ℕ, refl, sym, ap, subst}
use Rattle.std.proofs.lemmas.Bool.{iff_false}
use Rattle.mapf_lemmas.specs.Prices.{PriceList, rest_price}
use Rattle.mapf_lemmas.specs.declared.joint.JointState.TheVariants.{SecondAlone}
use Rattle.mapf_model.specs.declared.label.Label.{Label}
use Rattle.mapf_model.specs.declared.label.Label.TheVariants.{Ticks}
use Rattle.mapf_model.specs.Labels.{IsAtMost, label_plus}
use Rattle.mapf_joint_labels.specs.Pairs.{lists_of, task_of}
use Rattle.mapf_joint_labels.proofs.together.first_rests.Goals as goal

pub returns-then-not-may_rest : goal.returns-then-not-may_rest
returns-then-not-may_rest c = (λ _ may. absurd (iff_false c.may_rest.ensures c.if-not-may_rest.true may), λ _. refl)

pub returns : goal.returns
returns c =
    let pair = c.args.pair.now in
    let entry = c.args.entry.now in
    let after = c.second_label.result in
    let price : c.rest-rest.result ≡ rest_price pair.first_task.now.list.prices entry.cells.first entry.tick = c.rest-rest.ensures.value ∙ ap (λ (l : PriceList). rest_price l.prices entry.cells.first entry.tick) c.prices.ensures in (
      λ low may. (after, c.second_label.ensures, subst (λ (p : ℕ). IsAtMost entry.label (label_plus (Ticks p) after)) price (c.is_within.ensures.0 low)),
      λ sound. c.is_within.ensures.1 (
          let (label, is_label, low) = sound (c.may_rest.ensures.0 c.if-not-may_rest.false) in
          let same = c.lemmas_are_decided.ensures.joint (task_of pair) (lists_of pair) (SecondAlone entry.cells.second) entry.tick label after is_label c.second_label.ensures in
          subst (λ (p : ℕ). IsAtMost entry.label (label_plus (Ticks p) after)) (sym price)
          (subst (λ (l : Label). IsAtMost entry.label (label_plus (Ticks (rest_price pair.first_task.now.list.prices entry.cells.first entry.tick)) l)) same low)),
    )
