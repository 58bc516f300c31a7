use Rattle.std.proofs.Common.{◌≡◌, ℕ, ◌+◌, ◌<◌, ◌≤◌, ◌∙◌, Some, None, ◌∷◌, Contains, ⊎_elim, ap, refl, sym, subst, length, slice_index_or, arith}
use Rattle.std.proofs.lemmas.Bool.{cases_lt}
use Rattle.std.proofs.lemmas.List.{get_or_default}
use Rattle.std.proofs.lemmas.Option.{same_Some}
use Rattle.mapf_spacetime.specs.Frontiers.{IsTaken}
use Rattle.mapf_spacetime.specs.Task.{IsBelow, state_at}
use Rattle.mapf_spacetime.proofs.ValueLemmas.{value_free}
use Rattle.mapf_spacetime.proofs.FrontierLemmas.{Keeps-trans, IsTaken-known, close}
use Rattle.mapf_spacetime.proofs.frontier.Frontier.take_all.Goals as goal
use Rattle.mapf_spacetime.proofs.frontier.Frontier.take_all.Goals.{in-Some+in_ok-take, in_default}

pub beside-place-items-requires : goal.beside-place-items-requires
beside-place-items-requires g c = let (value, is, le) = c.requires.within in value_free c.args.task.now c.args.from.now value is

pub loop-place-init : goal.loop-place-init
loop-place-init g c = record {
  frontier = λ busy f. f;
  keeps = record { reached = refl; cost = refl; below = refl; known = λ s known. known };
  taken = λ place to none. absurd (omega arith);
}

pub take-requires-clause-beside : goal.take-requires-clause-beside
take-requires-clause-beside g c =
    let items = c.beside-place-items.result in
    let to = c.in-Some.to in
    let five = ap length c.beside-place-items.ensures.cells in
    let within : c.loop-place.place-index < length items = omega arith in
    let held : Contains items (Some to) = (c.loop-place.place-index, within, get_or_default items c.loop-place.place-index (Some to) c.place-item.result within ∙ c.in-Some.is) in
    subst (λ places. Contains places (Some to)) c.beside-place-items.ensures.cells held

pub loop-place-preserved : goal.loop-place-preserved
loop-place-preserved g c =
    let task = c.args.task.now in
    let from = c.args.from.now in
    let items = c.beside-place-items.result in
    let index = c.loop-place.place-index in
    let five = ap length c.beside-place-items.ensures.cells in
    let within : index < length items = omega arith in
    let here : (place to : ℕ) → place < index + 1 → index ≤ place → slice_index_or items place None ≡ Some to → slice_index_or items index c.place-item.result ≡ Some to =
    λ place to below past is. (
    let same : place ≡ index = omega arith in
    get_or_default items index c.place-item.result None within ∙ subst (λ n. slice_index_or items n None ≡ Some to) same is) in
    elim c.match-place.branch [
      | in-Some+in_ok-take w ↦
          let took = w.in_ok-take.ensures in
          rw w.self-is (record {
            frontier = λ busy f. took.frontier busy (c.loop-place.invariant.frontier busy f);
            keeps = Keeps-trans c.args.self.now c.loop-place.self w.take.new.self c.loop-place.invariant.keeps took.keeps;
            taken = λ place to below is. ⊎_elim
                (λ (earlier : place < index). IsTaken-known task c.loop-place.self w.take.new.self took.keeps.known from to (c.loop-place.invariant.taken place to earlier is))
                (λ (past : index ≤ place).
                let at = same_Some w.in-Some.to to (sym w.in-Some.is ∙ here place to below past is) in
                subst (IsTaken task w.take.new.self from) at took.taken)
                (cases_lt place index);
          })
      | in_default w ↦
          rw w.self-is (record {
            frontier = c.loop-place.invariant.frontier;
            keeps = c.loop-place.invariant.keeps;
            taken = λ place to below is. ⊎_elim
                (λ (earlier : place < index). c.loop-place.invariant.taken place to earlier is)
                (λ (past : index ≤ place). absurd (w.in_default.not-Some to (here place to below past is)))
                (cases_lt place index);
          })
    ]

pub returns-clause-frontier : goal.returns-clause-frontier
returns-clause-frontier g c busy f =
    let task = c.args.task.now in
    let from = c.args.from.now in
    let items = c.beside-place-items.result in
    let states = c.loop-place.self in
    let (value, is, le) = c.requires.within in
    close task states from busy (c.loop-place.invariant.frontier (from ∷ busy) f) value is c.beside-place-items.ensures.wide
    (λ to beside.
    let (place, within, at) = subst (λ places. Contains places (Some to)) (sym c.beside-place-items.ensures.cells) beside in
    let five = ap length c.beside-place-items.ensures.cells in
    c.loop-place.invariant.taken place to (omega arith) (get_or_default items place None (Some to) within ∙ at))

pub take-requires-clause-low : goal.take-requires-clause-low
take-requires-clause-low g c to may below =
    let task = c.args.task.now in
    let next = state_at to (c.args.from.now.tick + 1) in
    let keeps = c.loop-place.invariant.keeps in
    subst (λ l. Contains l next) (sym keeps.reached) (c.requires.low to may (subst (λ n. IsBelow task n next) keeps.cost below))

pub take-requires-clause-free : goal.take-requires-clause-free
take-requires-clause-free g c none other step = c.may_bar-is_barred.ensures none c.args.from.now.cell other step
