use Rattle.std.proofs.Common.{◌≡◌, ◌∙◌, ◌<◌, ◌≤◌, ℕ, None, Some, Contains, length, slice_index_or, refl, sym, ap, subst, ⊎_elim, arith}
use Rattle.std.proofs.lemmas.Bool.{cases_lt, iff_false}
use Rattle.std.proofs.lemmas.List.{get_or_default}
use Rattle.std.proofs.lemmas.Option.{same_Some}
use Rattle.mapf_model.proofs.StepLemmas.{step_neighbour}
use Rattle.mapf_joint_labels.specs.Pairs.{HoldsFor}
use Rattle.mapf_joint_labels.proofs.together.goes_on.Goals as goal
use Rattle.mapf_joint_labels.proofs.together.goes_on.Goals.{in-Some+else-not-keeps, in_default}

pub returns-then-not-keeps : goal.returns-then-not-keeps
returns-then-not-keeps c = (λ no. absurd cc, λ all. absurd (iff_false c.keeps.ensures c.if-not-keeps.true (all c.in-Some.first)))

pub loop-place-preserved : goal.loop-place-preserved
loop-place-preserved c = λ k w below is. ⊎_elim
    (λ (earlier : k < c.loop-place.place-index). c.loop-place.invariant k w earlier is)
    (λ (past : c.loop-place.place-index ≤ k).
    let places = c.beside.result in
    let index = c.loop-place.place-index in
    let five = ap length c.beside.ensures.cells in
    let within : index < length places = omega (arith, c.loop-place-test.true, five) in
    let same : k ≡ index = omega (arith, past, below) in
    let found : slice_index_or places index None ≡ Some w = subst (λ n. slice_index_or places n None ≡ Some w) same is in
    let item : slice_index_or places index c.place-item.result ≡ Some w = get_or_default places index c.place-item.result None within ∙ found in
    elim c.match-place.branch [
      | in-Some+else-not-keeps s ↦
          let at = same_Some s.in-Some.first w (sym s.in-Some.is ∙ item) in
          subst (λ n. (x : ℕ) → HoldsFor c.args.pair.now c.args.entry.now n x) at (s.keeps.ensures.0 s.if-not-keeps.false)
      | in_default s ↦ absurd (s.in_default.not-Some w item)
    ])
    (cases_lt k c.loop-place.place-index)

pub returns : goal.returns
returns c = (
  λ _ w x may_first may_second apart.
      let grid = c.args.pair.now.first_task.now.grid in
      let five = ap length c.beside.ensures.cells in
      let (k, within, is) = subst (λ places. Contains places (Some w)) (sym c.beside.ensures.cells) (step_neighbour grid c.args.entry.now.cells.first c.beside.ensures.wide c.requires.first w may_first.step) in
      c.loop-place.invariant k w (omega (arith, c.loop-place-test.false, five, within)) (get_or_default c.beside.result k None (Some w) within ∙ is) x may_first may_second apart,
  λ _. refl,
)
