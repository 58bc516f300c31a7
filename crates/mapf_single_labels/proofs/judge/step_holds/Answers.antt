use Rattle.std.proofs.Common.{ℕ, ◌+◌, subst}
use Rattle.mapf_lemmas.specs.SingleLabels.{IsSingleLabel, step_price}
use Rattle.mapf_model.specs.declared.label.Label.{Label}
use Rattle.mapf_model.specs.declared.label.Label.TheVariants.{Ticks}
use Rattle.mapf_model.specs.Labels.{IsAtMost, entries_of, label_plus}
use Rattle.mapf_single_labels.proofs.judge.step_holds.Goals as goal

pub returns : goal.returns
returns c =
    let task = c.args.task.now in
    let entry = c.args.entry.now in
    let entries = entries_of c.args.entries.now in
    let is = subst (λ (tick : ℕ). IsSingleLabel task entries c.args.next tick c.label-after.result) c.requires.after c.label-after.ensures.is in (
      λ yes may. (c.label-after.result, is, c.pays_or_may_not.ensures.0 yes may),
      λ holds. c.pays_or_may_not.ensures.1 (λ may.
          let (after, is_after, at_most) = holds may in
          let same = c.lemmas_are_decided.ensures.single task entries c.args.next (entry.tick + 1) after c.label-after.result is_after is in
          subst (λ (l : Label). IsAtMost entry.label (label_plus (Ticks (step_price task.list entry.cell c.args.next entry.tick)) l)) same at_most),
    )
