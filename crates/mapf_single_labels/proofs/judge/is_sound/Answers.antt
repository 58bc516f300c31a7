use Rattle.std.proofs.Common.{◌↔◌, IsTrue, subst}
use Rattle.std.proofs.lemmas.Bool.{iff_false, true_from_ne_false}
use Rattle.mapf_lemmas.specs.SingleLabels.{IsBarred}
use Rattle.mapf_model.specs.declared.label.Entry.{Entry}
use Rattle.mapf_model.specs.Grid.{IsFree}
use Rattle.mapf_single_labels.proofs.TaskLemmas.{raised, raised_free, IsRaised}
use Rattle.mapf_single_labels.proofs.judge.is_sound.Goals as goal

pub is_open_sound-requires-clause-free : goal.is_open_sound-requires-clause-free
is_open_sound-requires-clause-free c =
    let task = c.args.task.now in
    let over = raised task c.entry.inside.cell c.entry.inside.tick c.entry.inside.label c.default_label-default.result c.default_label-default.ensures.is (iff_false c.is_at_most.ensures c.if-is_at_most.false) in
    subst (λ (e : Entry). IsFree task.grid e.cell) c.entry.view_is (raised_free task c.entry.inside.cell c.entry.inside.tick c.entry.inside.label over)

pub returns-then-is_open_sound : goal.returns-then-is_open_sound
returns-then-is_open_sound c =
    let task = c.args.task.now in
    let over = raised task c.entry.inside.cell c.entry.inside.tick c.entry.inside.label c.default_label-default.result c.default_label-default.ensures.is (iff_false c.is_at_most.ensures c.if-is_at_most.false) in
    let raised_here = subst (λ (e : Entry). IsRaised task e.cell e.tick e.label) c.entry.view_is over in
    let sound = c.is_open_sound.ensures.0 c.if-is_open_sound.true in (
      λ yes. record { raised = raised_here; at_rest = λ free may. sound.0 may; onward = λ free next may. sound.1 next may },
      λ all. c.if-is_open_sound.true,
    )

pub returns-else-is_open_sound : goal.returns-else-is_open_sound
returns-else-is_open_sound c =
    let task = c.args.task.now in
    let over = raised task c.entry.inside.cell c.entry.inside.tick c.entry.inside.label c.default_label-default.result c.default_label-default.ensures.is (iff_false c.is_at_most.ensures c.if-is_at_most.false) in
    let raised_here = subst (λ (e : Entry). IsRaised task e.cell e.tick e.label) c.entry.view_is over in
    let barred = subst (λ (e : Entry). IsTrue c.is_barred.result ↔ IsBarred task e.cell e.tick) c.entry.view_is c.is_barred.ensures in (
      λ yes. let there = barred.0 yes in record { raised = raised_here; at_rest = λ free. absurd (free there); onward = λ free. absurd (free there) },
      λ sound. true_from_ne_false c.is_barred.result (λ no.
          let free = iff_false barred no in
          iff_false c.is_open_sound.ensures c.if-is_open_sound.false (sound.at_rest free, sound.onward free)),
    )
