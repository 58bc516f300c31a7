use Rattle.std.proofs.Common.{◌≡◌, ◌∙◌, ◌<◌, ◌≤◌, None, Some, Contains, length, slice_index_or, refl, sym, ap, subst, ⊎_elim, arith}
use Rattle.std.proofs.lemmas.Bool.{cases_lt, iff_false}
use Rattle.std.proofs.lemmas.List.{get_or_default}
use Rattle.std.proofs.lemmas.Option.{same_Some}
use Rattle.mapf_model.specs.Neighbours.{neighbourhood}
use Rattle.mapf_model.proofs.StepLemmas.{neighbour_step, step_neighbour, step_end}
use Rattle.mapf_joint_labels.specs.Never.{KeepsIn}
use Rattle.mapf_joint_labels.proofs.never.CellSet.stays.Goals as goal
use Rattle.mapf_joint_labels.proofs.never.CellSet.stays.Goals.{in-Some+else-not-keeps, in_default}

pub returns-then-not-keeps : goal.returns-then-not-keeps
returns-then-not-keeps c =
    let grid = c.args.self.now.grid.now in
    let here = c.args.here.now in
    let first = c.in-Some.first in
    let index = c.loop-place.place-index in
    let width = c.width-width.ensures.width in
    let wide : 0 < grid.width = omega (arith, width, c.width-width.ensures.positive) in
    let firsts = c.neighbourhood.ensures ∙ ap (λ w. neighbourhood w here.first) width in
    let seconds = c.neighbourhood-seconds.ensures ∙ ap (λ w. neighbourhood w here.second) width in
    let five = ap length c.neighbourhood.ensures in
    let within : index < length c.neighbourhood.result = omega (arith, c.loop-place-test.true, five) in
    let item : slice_index_or c.neighbourhood.result index (Some first) ≡ Some first = get_or_default c.neighbourhood.result index (Some first) c.place-item.result within ∙ c.in-Some.is in
    let at = subst (λ places. Contains places (Some first)) firsts (index, within, item) in (
      λ no. absurd cc,
      λ stays_in. absurd (iff_false c.keeps.ensures c.if-not-keeps.true (λ free x held free_x apart.
          stays_in first x (neighbour_step grid here.first wide c.requires.first first at free)
          (neighbour_step grid here.second wide c.requires.second x (subst (λ places. Contains places (Some x)) seconds held) free_x) apart)),
    )

pub loop-place-preserved : goal.loop-place-preserved
loop-place-preserved c = λ k w below is. ⊎_elim
    (λ (earlier : k < c.loop-place.place-index). c.loop-place.invariant k w earlier is)
    (λ (past : c.loop-place.place-index ≤ k).
    let places = c.neighbourhood.result in
    let index = c.loop-place.place-index in
    let five = ap length c.neighbourhood.ensures in
    let within : index < length places = omega (arith, c.loop-place-test.true, five) in
    let same : k ≡ index = omega (arith, past, below) in
    let found : slice_index_or places index None ≡ Some w = subst (λ n. slice_index_or places n None ≡ Some w) same is in
    let item : slice_index_or places index c.place-item.result ≡ Some w = get_or_default places index c.place-item.result None within ∙ found in
    elim c.match-place.branch [
      | in-Some+else-not-keeps s ↦
          let at = same_Some s.in-Some.first w (sym s.in-Some.is ∙ item) in
          subst (λ n. KeepsIn c.args.self.now c.args.here.now n c.neighbourhood-seconds.result) at (s.keeps.ensures.0 s.if-not-keeps.false)
      | in_default s ↦ absurd (s.in_default.not-Some w item)
    ])
    (cases_lt k c.loop-place.place-index)

pub returns : goal.returns
returns c = (
  λ _ w x step_w step_x apart.
      let grid = c.args.self.now.grid.now in
      let here = c.args.here.now in
      let width = c.width-width.ensures.width in
      let wide : 0 < grid.width = omega (arith, width, c.width-width.ensures.positive) in
      let firsts = c.neighbourhood.ensures ∙ ap (λ w. neighbourhood w here.first) width in
      let seconds = c.neighbourhood-seconds.ensures ∙ ap (λ w. neighbourhood w here.second) width in
      let five = ap length c.neighbourhood.ensures in
      let held_x = subst (λ places. Contains places (Some x)) (sym seconds) (step_neighbour grid here.second wide c.requires.second x step_x) in
      let (k, within, is) = subst (λ places. Contains places (Some w)) (sym firsts) (step_neighbour grid here.first wide c.requires.first w step_w) in
      c.loop-place.invariant k w (omega (arith, c.loop-place-test.false, five, within)) (get_or_default c.neighbourhood.result k None (Some w) within ∙ is)
      (step_end grid here.first w step_w) x held_x (step_end grid here.second x step_x) apart,
  λ _. refl,
)
