use Rattle.std.proofs.Common.{◌≡◌, ◌<◌, ◌≤◌, ◌∙◌, Some, None, Contains, length, slice_index_or, refl, ap, sym, subst, ⊎_elim, arith}
use Rattle.std.proofs.lemmas.Bool.{cases_lt, iff_false}
use Rattle.std.proofs.lemmas.List.{get_or_default}
use Rattle.std.proofs.lemmas.Option.{same_Some}
use Rattle.mapf_model.specs.declared.label.Entry.{Entry}
use Rattle.mapf_model.specs.Grid.{IsFree, Step}
use Rattle.mapf_model.proofs.StepLemmas.{step_neighbour}
use Rattle.mapf_single_labels.specs.Tasks.{IsConsistentStep}
use Rattle.mapf_single_labels.proofs.judge.goes_on.Goals as goal
use Rattle.mapf_single_labels.proofs.judge.goes_on.Goals.{in-Some+else-not-step_holds, in_default}

pub returns-then-not-step_holds : goal.returns-then-not-step_holds
returns-then-not-step_holds c = (λ no. absurd cc, λ all. absurd (iff_false c.step_holds.ensures c.if-not-step_holds.true (all c.in-Some.next)))

pub loop-k-preserved : goal.loop-k-preserved
loop-k-preserved c = λ place next below is. ⊎_elim
    (λ (earlier : place < c.loop-k.k). c.loop-k.invariant place next earlier is)
    (λ (past : c.loop-k.k ≤ place).
    let five = ap length c.beside-places.ensures.cells in
    let within : c.loop-k.k < length c.beside-places.result = omega (arith, c.loop-k-test.true) in
    let same : place ≡ c.loop-k.k = omega arith in
    let found : slice_index_or c.beside-places.result c.loop-k.k None ≡ Some next = subst (λ n. slice_index_or c.beside-places.result n None ≡ Some next) same is in
    elim c.match-places-k.branch [
      | in-Some+else-not-step_holds w ↦
          let at = same_Some w.in-Some.next next (sym w.in-Some.is ∙ get_or_default c.beside-places.result c.loop-k.k _ None within ∙ found) in
          subst (IsConsistentStep c.args.task.now c.args.entries.now c.args.entry.now) at (w.step_holds.ensures.0 w.if-not-step_holds.false)
      | in_default w ↦ absurd (w.in_default.not-Some next (get_or_default c.beside-places.result c.loop-k.k _ None within ∙ found))
    ])
    (cases_lt place c.loop-k.k)

pub returns : goal.returns
returns c = (
  λ _ next may.
      let grid = c.args.task.now.grid in
      let cell = c.entry.inside.cell in
      let here = ap (λ (e : Entry). e.cell) c.entry.view_is in
      let cells = c.beside-places.ensures.cells in
      let five = ap length cells in
      let free = subst (IsFree grid) (sym here) c.requires.free in
      let step = subst (λ from. Step grid from next) (sym here) may.step in
      let (place, within, is) = subst (λ places. Contains places (Some next)) (sym cells) (step_neighbour grid cell c.beside-places.ensures.wide free next step) in
      c.loop-k.invariant place next (omega arith) (get_or_default c.beside-places.result place None (Some next) within ∙ is) may,
  λ _. refl,
)
