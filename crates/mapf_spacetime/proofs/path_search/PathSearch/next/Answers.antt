use Rattle.std.proofs.Common.{◌≡◌, ◌<◌, ◌≤◌, ◌∙◌, Some, None, Contains, length, slice_index_or, ap, sym, subst, ⊎_elim, arith}
use Rattle.std.proofs.lemmas.Bool.{cases_lt}
use Rattle.std.proofs.lemmas.List.{get_or_default}
use Rattle.std.proofs.lemmas.Option.{same_Some}
use Rattle.mapf_model.specs.Neighbours.{neighbourhood}
use Rattle.mapf_model.proofs.StepLemmas.{step_neighbour, neighbourhood_rises, rising_places}
use Rattle.mapf_spacetime.specs.PathSearch.{IsNoWayOn}
use Rattle.mapf_spacetime.proofs.path_search.PathSearch.next.Goals as goal
use Rattle.mapf_spacetime.proofs.path_search.PathSearch.next.Goals.{in-Some+else-leads, in_default}

pub loop-place-init : goal.loop-place-init
loop-place-init g c = λ place to none. absurd (omega arith)

pub leads-requires-clause-beside : goal.leads-requires-clause-beside
leads-requires-clause-beside g c =
    let items = c.beside-place-items.result in
    let to = c.in-Some.to in
    let five = ap length c.beside-place-items.ensures.cells in
    let within : c.loop-place.place-index < length items = omega arith in
    let held : Contains items (Some to) = (c.loop-place.place-index, within, get_or_default items c.loop-place.place-index (Some to) c.place-item.result within ∙ c.in-Some.is) in
    subst (λ places. Contains places (Some to)) c.beside-place-items.ensures.cells held

pub loop-place-preserved : goal.loop-place-preserved
loop-place-preserved g c = λ place to below is. ⊎_elim
    (λ (earlier : place < c.loop-place.place-index). c.loop-place.invariant place to earlier is)
    (λ (past : c.loop-place.place-index ≤ place).
    let items = c.beside-place-items.result in
    let index = c.loop-place.place-index in
    let five = ap length c.beside-place-items.ensures.cells in
    let within : index < length items = omega arith in
    let same : place ≡ index = omega arith in
    let found : slice_index_or items index c.place-item.result ≡ Some to =
    get_or_default items index c.place-item.result None within ∙ subst (λ n. slice_index_or items n None ≡ Some to) same is in
    elim c.match-place.branch [
      | in-Some+else-leads w ↦
          let at : w.in-Some.to ≡ to = same_Some w.in-Some.to to (sym w.in-Some.is ∙ found) in
          subst (IsNoWayOn c.args.task.now c.args.cost c.args.self.now.failed c.args.from.now) at (w.leads.ensures.no w.if-leads.false)
      | in_default w ↦ absurd (w.in_default.not-Some to found)
    ])
    (cases_lt place c.loop-place.place-index)

-- an earlier cell from which the agent can arrive would have been taken, and the later cells have greater numbers
pub returns-then-leads-clause-least : goal.returns-then-leads-clause-least
returns-then-leads-clause-least g c = λ other less may arrives.
    let grid = c.args.task.now.grid in
    let cell = c.args.from.now.cell in
    let wide = c.beside-place-items.ensures.wide in
    let items = c.beside-place-items.result in
    let index = c.loop-place.place-index in
    let to = c.in-Some.to in
    let cells = c.beside-place-items.ensures.cells in
    let five = ap length cells in
    let (place, within, is) = subst (λ places. Contains places (Some other)) (sym cells) (step_neighbour grid cell wide c.requires.free other may.step) in
    let at_place = get_or_default items place None (Some other) within ∙ is in
    let at_index = get_or_default items index None c.place-item.result (omega arith) ∙ c.in-Some.is in
    ⊎_elim
    (λ (earlier : place < index). c.loop-place.invariant place other earlier at_place may arrives)
    (λ (past : index ≤ place).
    let le = (rising_places 0 (neighbourhood grid.width cell) index place to other (neighbourhood_rises grid.width cell wide) past
    (subst (λ places. slice_index_or places index None ≡ Some to) cells at_index)
    (subst (λ places. slice_index_or places place None ≡ Some other) cells at_place)).1 in
    absurd (omega arith))
    (cases_lt place index)

pub returns-clause-none : goal.returns-clause-none
returns-clause-none g c = λ to may arrives.
    let grid = c.args.task.now.grid in
    let cell = c.args.from.now.cell in
    let items = c.beside-place-items.result in
    let cells = c.beside-place-items.ensures.cells in
    let five = ap length cells in
    let (place, within, is) = subst (λ places. Contains places (Some to)) (sym cells) (step_neighbour grid cell c.beside-place-items.ensures.wide c.requires.free to may.step) in
    c.loop-place.invariant place to (omega arith) (get_or_default items place None (Some to) within ∙ is) may arrives
