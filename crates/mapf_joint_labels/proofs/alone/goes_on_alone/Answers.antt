use Rattle.std.proofs.Common.{◌≡◌, ◌∙◌, ◌<◌, ◌≤◌, None, Some, Contains, length, slice_index_or, refl, sym, ap, subst, ⊎_elim, arith}
use Rattle.std.proofs.lemmas.Bool.{cases_lt, iff_false}
use Rattle.std.proofs.lemmas.List.{get_or_default}
use Rattle.std.proofs.lemmas.Option.{same_Some}
use Rattle.mapf_lemmas.specs.SingleLabels.{Task}
use Rattle.mapf_model.specs.Grid.{IsFree}
use Rattle.mapf_model.specs.Neighbours.{neighbourhood}
use Rattle.mapf_model.proofs.StepLemmas.{step_neighbour}
use Rattle.mapf_joint_labels.specs.Pairs.{HoldsAlone, own_task, task_of}
use Rattle.mapf_joint_labels.proofs.alone.goes_on_alone.Goals as goal
use Rattle.mapf_joint_labels.proofs.alone.goes_on_alone.Goals.{in-Some+else-not-holds_alone, in_default}

pub beside-requires : goal.beside-requires
beside-requires c = subst (λ (t : Task). IsFree t.grid c.args.entry.now.cell) (sym c.task-task.ensures) c.requires.free

pub returns-then-not-holds_alone : goal.returns-then-not-holds_alone
returns-then-not-holds_alone c = (λ no. absurd cc, λ all. absurd (iff_false c.holds_alone.ensures c.if-not-holds_alone.true (all c.in-Some.next)))

pub loop-place-preserved : goal.loop-place-preserved
loop-place-preserved c = λ k x below is. ⊎_elim
    (λ (earlier : k < c.loop-place.place-index). c.loop-place.invariant k x earlier is)
    (λ (past : c.loop-place.place-index ≤ k).
    let places = c.beside.result in
    let index = c.loop-place.place-index in
    let five = ap length c.beside.ensures.cells in
    let within : index < length places = omega (arith, c.loop-place-test.true, five) in
    let same : k ≡ index = omega (arith, past, below) in
    let found : slice_index_or places index None ≡ Some x = subst (λ n. slice_index_or places n None ≡ Some x) same is in
    let item : slice_index_or places index c.place-item.result ≡ Some x = get_or_default places index c.place-item.result None within ∙ found in
    elim c.match-place.branch [
      | in-Some+else-not-holds_alone w ↦
          let at = same_Some w.in-Some.next x (sym w.in-Some.is ∙ item) in
          subst (HoldsAlone c.args.pair.now c.args.side c.args.entry.now) at (w.holds_alone.ensures.0 w.if-not-holds_alone.false)
      | in_default w ↦ absurd (w.in_default.not-Some x item)
    ])
    (cases_lt k c.loop-place.place-index)

pub returns : goal.returns
returns c = (
  λ _ x may other.
      let task = own_task (task_of c.args.pair.now) c.args.side in
      let five = ap length c.beside.ensures.cells in
      let cells = c.beside.ensures.cells ∙ ap (λ (t : Task). neighbourhood t.grid.width c.args.entry.now.cell) c.task-task.ensures in
      let wide = subst (λ (t : Task). 0 < t.grid.width) c.task-task.ensures c.beside.ensures.wide in
      let (k, within, is) = subst (λ places. Contains places (Some x)) (sym cells) (step_neighbour task.grid c.args.entry.now.cell wide c.requires.free x may.step) in
      c.loop-place.invariant k x (omega (arith, c.loop-place-test.false, five, within)) (get_or_default c.beside.result k None (Some x) within ∙ is) may other,
  λ _. refl,
)
