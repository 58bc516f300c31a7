use Rattle.std.proofs.Common.{◌≡◌, ◌∙◌, ◌<◌, ◌≤◌, None, Some, Contains, length, slice_index_or, refl, sym, ap, subst, ⊎_elim, arith}
use Rattle.std.proofs.lemmas.Bool.{cases_lt, iff_false}
use Rattle.std.proofs.lemmas.List.{get_or_default}
use Rattle.std.proofs.lemmas.Option.{same_Some}
use Rattle.mapf_model.specs.Grid.{GridMap, IsFree}
use Rattle.mapf_model.proofs.StepLemmas.{step_neighbour, step_end}
use Rattle.mapf_joint_labels.specs.Pairs.{HoldsFor}
use Rattle.mapf_joint_labels.proofs.together.keeps.Goals as goal
use Rattle.mapf_joint_labels.proofs.together.keeps.Goals.{in-Some+else-not-holds, in_default}

pub returns-then-not-is_free : goal.returns-then-not-is_free
returns-then-not-is_free c = (
  λ _ x may_first may_second apart.
      let grid = c.args.pair.now.first_task.now.grid in
      absurd (iff_false c.is_free.ensures c.if-not-is_free.true (subst (λ (g : GridMap). IsFree g c.args.first) (sym c.grid.ensures) (step_end grid c.args.entry.now.cells.first c.args.first may_first.step))),
  λ _. refl,
)

pub returns-then-not-holds : goal.returns-then-not-holds
returns-then-not-holds c = (λ no. absurd cc, λ all. absurd (iff_false c.holds.ensures c.if-not-holds.true (all c.in-Some.second)))

pub loop-place-preserved : goal.loop-place-preserved
loop-place-preserved c = λ k x below is. ⊎_elim
    (λ (earlier : k < c.loop-place.place-index). c.loop-place.invariant k x earlier is)
    (λ (past : c.loop-place.place-index ≤ k).
    let places = c.beside.result in
    let index = c.loop-place.place-index in
    let five = ap length c.beside.ensures.cells in
    let within : index < length places = omega (arith, c.loop-place-test.true, five) in
    let same : k ≡ index = omega (arith, past, below) in
    let found : slice_index_or places index None ≡ Some x = subst (λ n. slice_index_or places n None ≡ Some x) same is in
    let item : slice_index_or places index c.place-item.result ≡ Some x = get_or_default places index c.place-item.result None within ∙ found in
    elim c.match-place.branch [
      | in-Some+else-not-holds w ↦
          let at = same_Some w.in-Some.second x (sym w.in-Some.is ∙ item) in
          subst (HoldsFor c.args.pair.now c.args.entry.now c.args.first) at (w.holds.ensures.0 w.if-not-holds.false)
      | in_default w ↦ absurd (w.in_default.not-Some x item)
    ])
    (cases_lt k c.loop-place.place-index)

pub returns : goal.returns
returns c = (
  λ _ x may_first may_second apart.
      let grid = c.args.pair.now.second_task.now.grid in
      let five = ap length c.beside.ensures.cells in
      let (k, within, is) = subst (λ places. Contains places (Some x)) (sym c.beside.ensures.cells) (step_neighbour grid c.args.entry.now.cells.second c.beside.ensures.wide c.requires.second x may_second.step) in
      c.loop-place.invariant k x (omega (arith, c.loop-place-test.false, five, within)) (get_or_default c.beside.result k None (Some x) within ∙ is) may_first may_second apart,
  λ _. refl,
)
