use Rattle.std.proofs.Common.{◌≡◌, ◌+◌, ◌<◌, ◌∷◌, suc, drop, Contains, slice_index_or, length, ap, refl, sym, subst, ◌∙◌, arith}
use Rattle.std.proofs.Math.Seq.{drop-cons}
use Rattle.mapf_spacetime.specs.Frontiers.{IsFrontier}
use Rattle.mapf_spacetime.specs.Task.{state_at}
use Rattle.mapf_spacetime.proofs.LevelLemmas.{first_frontier, inner_closed, low_steps}
use Rattle.mapf_spacetime.proofs.FrontierLemmas.{settle}
use Rattle.mapf_spacetime.proofs.frontier.Frontier.begin_above.Goals as goal
use Rattle.mapf_spacetime.proofs.frontier.Frontier.begin_above.Goals.{then-not-is_below+in_ok-take_all, else-not-is_below}

pub loop-place-init : goal.loop-place-init
loop-place-init g c =
    let task = c.args.task.now in
    let sweep = c.args.sweep.now in
    let reached = sym c.in_ok-begin_with.ensures in
    let cost : sweep.bound + 1 ≡ c.args.cost = sym c.requires.cost in
    let below = ap length reached ∙ sym c.len-self-inside.ensures in
    record {
      frontier = subst (λ s. IsFrontier task s.reached s)
          (λ i. record { reached = reached i; open_states = sym c.clear.ensures.items i; next_states = sym c.clear-2.ensures.items i; later_states = sym c.clear-3.ensures.items i; cost = cost i; below = below i })
          (first_frontier task sweep c.requires.whole);
      reached = refl;
      cost = refl;
    }

pub take_all-requires-clause-within : goal.take_all-requires-clause-within
take_all-requires-clause-within g c =
    let sweep = c.args.sweep.now in
    let from = c.index-states-place.result in
    let same = c.states.ensures ∙ ap (λ s. s.reached) c.self-in-loop-place.view_is ∙ c.loop-place.invariant.reached in
    let count = ap length same in
    let len = c.len-self-inside.ensures in
    let test = c.loop-place-test.true in
    let held : Contains c.states.result.now from = (c.loop-place.place, omega arith, sym c.index-states-place.is) in
    let (value, is, le) = c.requires.whole.reached.within from (subst (λ l. Contains l from) (same ∙ c.in_ok-begin_with.ensures) held) in
    let cost = c.requires.cost in
    let now = c.loop-place.invariant.cost in
    (value, is, omega arith)

pub take_all-requires-clause-low : goal.take_all-requires-clause-low
take_all-requires-clause-low g c to may (value, is, less) =
    let task = c.args.task.now in
    let sweep = c.args.sweep.now in
    let from = c.index-states-place.result in
    let same = c.states.ensures ∙ ap (λ s. s.reached) c.self-in-loop-place.view_is ∙ c.loop-place.invariant.reached in
    let count = ap length same in
    let len = c.len-self-inside.ensures in
    let test = c.loop-place-test.true in
    let held : Contains c.states.result.now from = (c.loop-place.place, omega arith, sym c.index-states-place.is) in
    let cost = c.requires.cost in
    let now = c.loop-place.invariant.cost in
    subst (λ l. Contains l (state_at to (from.tick + 1))) (sym (c.loop-place.invariant.reached ∙ c.in_ok-begin_with.ensures))
    (low_steps task sweep c.requires.whole from (subst (λ l. Contains l from) (same ∙ c.in_ok-begin_with.ensures) held) to may value is (omega arith))

pub is_below-requires : goal.is_below-requires
is_below-requires g c =
    let from = c.index-states-place.result in
    let same = c.states.ensures ∙ ap (λ s. s.reached) c.self-in-loop-place.view_is ∙ c.loop-place.invariant.reached in
    let count = ap length same in
    let len = c.len-self-inside.ensures in
    let test = c.loop-place-test.true in
    let held : Contains c.states.result.now from = (c.loop-place.place, omega arith, sym c.index-states-place.is) in
    let (value, is, le) = c.requires.whole.reached.within from (subst (λ l. Contains l from) (same ∙ c.in_ok-begin_with.ensures) held) in
    let sum = is.sum in
    let cost = c.requires.cost in
    let small = c.requires.small in
    omega arith

pub loop-place-preserved : goal.loop-place-preserved
loop-place-preserved g c =
    let task = c.args.task.now in
    let sweep = c.args.sweep.now in
    let reached = c.begin_with.new.self in
    let place = c.loop-place.place in
    let from = c.index-states-place.result in
    let same = c.states.ensures ∙ ap (λ s. s.reached) c.self-in-loop-place.view_is ∙ c.loop-place.invariant.reached in
    let count = ap length same in
    let len = c.len-self-inside.ensures in
    let test = c.loop-place-test.true in
    let held : Contains c.states.result.now from = (place, omega arith, sym c.index-states-place.is) in
    let in_sweep = subst (λ l. Contains l from) (same ∙ c.in_ok-begin_with.ensures) held in
    let inside : place < length reached = omega arith in
    let here : slice_index_or reached place from ≡ from = sym (c.index-states-place.is ∙ ap (λ l. slice_index_or l place from) same) in
    let next : suc place ≡ place + 1 = omega arith in
    let left : drop place reached ≡ from ∷ drop (place + 1) reached = drop-cons reached place from inside ∙ (λ i. here i ∷ drop (next i) reached) in
    let f = subst (λ l. IsFrontier task l c.loop-place.self) left c.loop-place.invariant.frontier in
    elim c.if-not-is_below.branch [
      | then-not-is_below+in_ok-take_all w ↦
          let did = w.in_ok-take_all.ensures in
          rw w.self-is (record {
            frontier = did.frontier (drop (place + 1) reached) f;
            reached = did.keeps.reached ∙ c.loop-place.invariant.reached;
            cost = did.keeps.cost ∙ c.loop-place.invariant.cost;
          })
      | else-not-is_below w ↦
          let (value, is, less) = c.is_below.ensures.yes w.if-not-is_below.false in
          let inner = c.saturating_sub-inner.ensures in
          let cost = c.requires.cost in
          let closed = inner_closed task sweep c.requires.whole c.loop-place.self (c.loop-place.invariant.reached ∙ c.in_ok-begin_with.ensures) from in_sweep value is (omega arith) in
          rw w.self-is (record {
            frontier = settle task c.loop-place.self from (drop (place + 1) reached) f closed;
            reached = c.loop-place.invariant.reached;
            cost = c.loop-place.invariant.cost;
          })
    ]
