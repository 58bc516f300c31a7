use Rattle.std.proofs.Common.{◌≡◌, ◌+◌, ◌-◌, sym, subst, ap, ◌∙◌, length, Contains, arith}
use Rattle.mapf_model.specs.Grid.{IsFree}
use Rattle.mapf_model.specs.Labels.{MayGo}
use Rattle.mapf_model.specs.declared.state.State.{State}
use Rattle.mapf_spacetime.specs.Task.{Goes, IsWithin, state_at}
use Rattle.mapf_spacetime.specs.PathSearch.{CanArrive, IsSearching, with_failure, state_of}
use Rattle.mapf_spacetime.proofs.ValueLemmas.{value_free}
use Rattle.mapf_spacetime.proofs.WayLemmas.{step_searching, back_searching, nowhere}
use Rattle.mapf_spacetime.proofs.path_search.PathSearch.go_on.Goals as goal

pub next-requires-clause-free : goal.next-requires-clause-free
next-requires-clause-free g c =
    let task = c.args.task.now in
    let cells = c.args.self.now.cells in
    let some = c.requires.searching.from.some in
    let (value, is, le) = c.requires.searching.from.within (length cells - 1) (omega arith) in
    subst (λ here. IsFree task.grid here.cell) (sym c.last-here.ensures) (value_free task (state_of cells (length cells - 1)) value is)

pub returns-in-Some-clause-searching : goal.returns-in-Some-clause-searching
returns-in-Some-clause-searching g c =
    let task = c.args.task.now in
    let way = c.args.self.now in
    let to = c.in-Some.to in
    let here = c.last-here.result in
    let some = c.requires.searching.from.some in
    let next : here.tick + 1 ≡ length way.cells = (let tick = ap (λ s. s.tick) c.last-here.ensures in omega arith) in
    let may = subst (λ (s : State). MayGo task.grid task.bars s.cell to s.tick) c.last-here.ensures c.in-Some.ensures.may in
    let goes : Goes task (state_of way.cells (length way.cells - 1)) (state_at to (length way.cells)) = record { may = may; tick = omega arith } in
    λ yes. subst (IsSearching task c.args.cost) (sym c.in_ok-step.ensures)
    (step_searching task c.args.cost way c.requires.searching to c.requires.unfinished goes
    (subst (λ n. IsWithin task c.args.cost (state_at to n)) next c.in-Some.ensures.within)
    (subst (λ n. Contains way.failed (state_at to n) → ⊥) next c.in-Some.ensures.fresh)
    (λ other less may arrives.
    let back : length way.cells ≡ (length way.cells - 1) + 1 = omega arith in
    let least = rw c.last-here.ensures at c.in-Some.ensures.least in
    let still = subst (λ n. CanArrive task c.args.cost (state_at other n)) back arrives in
    c.requires.searching.stuck (state_at other ((length way.cells - 1) + 1)) (least other less may still) still))

pub turn_back-requires : goal.turn_back-requires
turn_back-requires g c =
    let way = c.args.self.now in
    let some = c.requires.searching.from.some in
    subst (λ here. Contains way.failed here → ⊥) (sym c.last-here.ensures) (c.requires.searching.fresh (length way.cells - 1) (omega arith))

pub returns-clause-searching : goal.returns-clause-searching
returns-clause-searching g c =
    let task = c.args.task.now in
    let way = c.args.self.now in
    let here = c.last-here.result in
    let turned = c.in_ok-turn_back.ensures.turned ∙ ap (with_failure way) c.last-here.ensures in
    let none = rw c.last-here.ensures at c.in_default.ensures.none in
    let some = c.requires.searching.from.some in
    let size = c.len.ensures in
    λ yes. subst (IsSearching task c.args.cost) (sym turned) (back_searching task c.args.cost way c.requires.searching 0 c.requires.unfinished (omega arith) none)

pub returns-then-len-eq1-clause-none : goal.returns-then-len-eq1-clause-none
returns-then-len-eq1-clause-none g c =
    let task = c.args.task.now in
    let way = c.args.self.now in
    let none = rw c.last-here.ensures at c.in_default.ensures.none in
    let size = c.len.ensures in
    λ no. nowhere task c.args.cost way c.requires.searching 0 c.requires.unfinished (omega arith) none
