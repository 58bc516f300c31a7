use Rattle.std.proofs.Common.{◌≡◌, ◌∙◌, ◌<◌, ◌≤◌, None, Some, length, slice_index_or, refl, sym, subst, ⊎_elim, arith}
use Rattle.std.proofs.lemmas.Bool.{cases_lt}
use Rattle.std.proofs.lemmas.List.{get_or_default}
use Rattle.std.proofs.lemmas.Option.{same_Some}
use Rattle.mapf_joint_labels.specs.Never.{HasNext}
use Rattle.mapf_joint_labels.proofs.never.CellSet.keeps.Goals as goal
use Rattle.mapf_joint_labels.proofs.never.CellSet.keeps.Goals.{in-Some+else-not-has_next, in_default}

pub loop-place-preserved : goal.loop-place-preserved
loop-place-preserved c = λ k x below is. ⊎_elim
    (λ (earlier : k < c.loop-place.place-index). c.loop-place.invariant k x earlier is)
    (λ (past : c.loop-place.place-index ≤ k).
    let places = c.args.seconds.now in
    let index = c.loop-place.place-index in
    let within : index < length places = c.loop-place-test.true in
    let same : k ≡ index = omega (arith, past, below) in
    let found : slice_index_or places index None ≡ Some x = subst (λ n. slice_index_or places n None ≡ Some x) same is in
    let item : c.place-item.result ≡ Some x = c.place-item.is ∙ get_or_default places index _ None within ∙ found in
    elim c.match-place.branch [
      | in-Some+else-not-has_next w ↦
          let at = same_Some w.in-Some.second x (sym w.in-Some.is ∙ item) in
          subst (HasNext c.args.self.now c.args.here.now c.args.first) at (w.has_next.ensures.0 w.if-not-has_next.false)
      | in_default w ↦ absurd (w.in_default.not-Some x item)
    ])
    (cases_lt k c.loop-place.place-index)

pub returns : goal.returns
returns c = (
  λ _ _ x (k, within, is). c.loop-place.invariant k x (let all = c.loop-place-test.false in omega (arith, all, within)) (get_or_default c.args.seconds.now k None (Some x) within ∙ is),
  λ _. refl,
)
