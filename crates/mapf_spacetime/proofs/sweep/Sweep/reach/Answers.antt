use Rattle.std.proofs.Common.{◌++◌, ◌∷◌, [], ap, sym, subst, refl, ◌∙◌, length, arith, append-nil, append_assoc, length-append}
use Rattle.mapf_spacetime.specs.CellSets.{HasNone}
use Rattle.mapf_spacetime.specs.Sweeps.{AreStatesAt}
use Rattle.mapf_spacetime.specs.Task.{state_at}
use Rattle.mapf_spacetime.proofs.SweepLemmas.{all_taken, has_room, none_taken, one_taken}
use Rattle.mapf_spacetime.proofs.sweep.Sweep.reach.Goals as goal

pub loop-cell-init : goal.loop-cell-init
loop-cell-init c = record {
  taken = ([], none_taken c.self.inside.tick c.self.inside.next_cells, sym (append-nil c.self.inside.states.items));
  room = refl;
  bound = refl;
  cut = refl;
  first = refl;
  now = refl;
}

pub loop-cell-smaller : goal.loop-cell-smaller
loop-cell-smaller c =
    let (states, taken, is) = c.loop-cell.invariant.taken in
    let here = c.in-Some.ensures.some in
    let count = taken.count c.in-Some.cell here in
    let inside = has_room c.loop-cell.self-inside.next_cells c.in-Some.cell here in
    let size = ap length is in
    let sum = length-append c.self.inside.states.items states in
    let pushed = ap length c.in_ok-push.ensures.items in
    let one = length-append c.loop-cell.self-inside.states.items (state_at c.in-Some.cell c.self.inside.tick ∷ []) in
    let room = c.in-Some.ensures.room in
    omega arith

pub loop-cell-preserved : goal.loop-cell-preserved
loop-cell-preserved c =
    let (states, taken, is) = c.loop-cell.invariant.taken in
    let next = state_at c.in-Some.cell c.self.inside.tick in
    let did = c.in-Some.ensures in
    record {
      taken = (
        states ++ next ∷ [],
        one_taken c.self.inside.tick c.self.inside.next_cells c.loop-cell.self-inside.next_cells c.take_least.new.self states c.in-Some.cell taken did.some did.least did.kept did.only,
        c.in_ok-push.ensures.items ∙ ap (λ l. l ++ next ∷ []) is ∙ append_assoc c.self.inside.states.items states (next ∷ []),
      );
      room = did.room ∙ c.loop-cell.invariant.room;
      bound = c.loop-cell.invariant.bound;
      cut = c.loop-cell.invariant.cut;
      first = c.loop-cell.invariant.first;
      now = c.loop-cell.invariant.now;
    }

pub returns-clause-reached : goal.returns-clause-reached
returns-clause-reached c =
    let (states, taken, is) = c.loop-cell.invariant.taken in
    let none : HasNone c.loop-cell.self-inside.next_cells = c.in_default.ensures.none in (
      states,
      subst (λ s. AreStatesAt s.tick s.next_cells states) c.self.view_is (all_taken c.self.inside.tick c.self.inside.next_cells c.loop-cell.self-inside.next_cells states taken none),
      is ∙ ap (λ s. s.states ++ states) c.self.view_is,
    )

pub returns-clause-none : goal.returns-clause-none
returns-clause-none c = subst HasNone (sym c.in_default.ensures.same) c.in_default.ensures.none
