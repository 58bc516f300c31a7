use Rattle.std.proofs.Common.{◌∙◌, ◌↔◌, ◌+◌, IsTrue, sym, ap, subst}
use Rattle.std.proofs.lemmas.Bool.{iff_false, eqb-false}
use Rattle.mapf_lemmas.specs.JointLabels.{IsJointWithin}
use Rattle.mapf_lemmas.specs.Prices.{PriceList}
use Rattle.mapf_lemmas.specs.SingleLabels.{IsBarred, Task, step_price}
use Rattle.mapf_model.specs.Grid.{GridMap, IsFree}
use Rattle.mapf_joint_labels.specs.Pairs.{RestsAlone, alone, lists_of, own_task, task_of}
use Rattle.mapf_joint_labels.proofs.PairLemmas.{from_sound, own_grid, own_list, to_sound}
use Rattle.mapf_joint_labels.proofs.alone.is_sound_alone.Goals as goal

pub returns-then-rests_alone : goal.returns-then-rests_alone
returns-then-rests_alone c =
    let pair = c.args.pair.now in
    let side = c.args.side in
    let entry = c.args.entry.now in
    let task = own_task (task_of pair) side in
    let free = subst (λ (g : GridMap). IsFree g entry.cell) (c.grid.ensures ∙ ap (λ (t : Task). t.grid) c.task-task.ensures ∙ own_grid (task_of pair) side) (c.is_free.ensures.0 c.if-not-is_free.false) in
    let rests = subst (λ (t : Task). RestsAlone t entry) c.task-task.ensures (c.rests_alone.ensures.0 c.if-rests_alone.true) in
    let barred : IsTrue c.is_barred.result ↔ IsBarred task entry.cell entry.tick = subst (λ (t : Task). IsTrue c.is_barred.result ↔ IsBarred t entry.cell entry.tick) c.task-task.ensures c.is_barred.ensures in (
      λ yes. to_sound pair side entry free (λ other unbarred. record {
        at_rest = rests;
        onward = λ next may differs. subst (λ (l : PriceList). IsJointWithin (task_of pair) (lists_of pair) entry.label (step_price l entry.cell next entry.tick) (alone side next) (entry.tick + 1)) (sym (own_list (task_of pair) side)) (c.goes_on_alone.ensures.0 yes next may differs);
      }),
      λ sound. c.goes_on_alone.ensures.1 (λ next may differs.
          let whole = from_sound pair side entry sound (λ same. eqb-false _ _ (sym c.eq.ensures ∙ c.if-eq.false) (same ∙ sym c.other_goal.ensures)) (iff_false barred c.if-is_barred.false) in
          subst (λ (l : PriceList). IsJointWithin (task_of pair) (lists_of pair) entry.label (step_price l entry.cell next entry.tick) (alone side next) (entry.tick + 1)) (own_list (task_of pair) side) (whole.onward next may differs)),
    )
