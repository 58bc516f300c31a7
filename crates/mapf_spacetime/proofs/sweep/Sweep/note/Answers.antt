use Rattle.std.proofs.Common.{◌+◌, refl, ap, sym, subst, length, Contains, arith}
use Rattle.mapf_model.proofs.StepLemmas.{neighbour_step, free_on_grid}
use Rattle.mapf_spacetime.specs.Sweeps.{Sweeping, AreNext}
use Rattle.mapf_spacetime.specs.Task.{Goes, state_at}
use Rattle.mapf_spacetime.proofs.SweepLemmas.{next_with, next_cut}
use Rattle.mapf_spacetime.proofs.ValueLemmas.{value_free}
use Rattle.mapf_spacetime.proofs.sweep.Sweep.note.Goals as goal

pub allows_if-requires-clause-step : goal.allows_if-requires-clause-step
allows_if-requires-clause-step g c =
    let task = c.args.task.now in
    let from = c.args.from.now in
    let next = state_at c.args.to (from.tick + 1) in
    let (value, is, le) = c.requires.within in
    neighbour_step task.grid from.cell c.requires.wide (value_free task from value is) c.args.to c.requires.beside (value_free task next c.in-Some.value c.in-Some.ensures.some)

pub allows_if-requires-clause-free : goal.allows_if-requires-clause-free
allows_if-requires-clause-free g c none =
    let task = c.args.task.now in
    let from = c.args.from.now in
    let next = state_at c.args.to (from.tick + 1) in
    let (value, is, le) = c.requires.within in
    c.requires.free none c.args.to (neighbour_step task.grid from.cell c.requires.wide (value_free task from value is) c.args.to c.requires.beside (value_free task next c.in-Some.value c.in-Some.ensures.some))

pub insert-requires : goal.insert-requires
insert-requires g c =
    let task = c.args.task.now in
    let next = state_at c.args.to (c.args.from.now.tick + 1) in
    let inside = free_on_grid task.grid c.args.to c.requires.shape (value_free task next c.in-Some.value c.in-Some.ensures.some) in
    let room = c.requires.room in
    let same = ap (λ s. length s.next_cells) c.self.view_is in
    omega arith

pub returns-then-value-self-clause-next : goal.returns-then-value-self-clause-next
returns-then-value-self-clause-next g c =
    let task = c.args.task.now in
    let from = c.args.from.now in
    let next = state_at c.args.to (from.tick + 1) in
    let old : Sweeping = record { states = c.self.inside.states.items; low = c.self.inside.low.items; next_cells = c.self.inside.next_cells; bound = c.self.inside.bound; is_cut = c.self.inside.is_cut; first = c.self.inside.first; tick = c.self.inside.tick } in
    let new : Sweeping = record { states = c.self.inside.states.items; low = c.self.inside.low.items; next_cells = c.insert.new.self; bound = c.self.inside.bound; is_cut = c.self.inside.is_cut; first = c.self.inside.first; tick = c.self.inside.tick } in
    let goes : Goes task from next = record { may = c.if-not-allows_if.ensures.yes refl; tick = refl } in
    next_with task old new from c.args.to (subst (AreNext task from.tick) (sym c.self.view_is) c.requires.next) refl refl refl c.insert.ensures.only
    (from, subst (λ s. Contains s.states from) (sym c.self.view_is) c.requires.reached, goes)
    (c.in-Some.value, c.in-Some.ensures.some, c.if-value-self.true)

pub returns-else-value-self-clause-next : goal.returns-else-value-self-clause-next
returns-else-value-self-clause-next g c =
    let task = c.args.task.now in
    let from = c.args.from.now in
    let next = state_at c.args.to (from.tick + 1) in
    let old : Sweeping = record { states = c.self.inside.states.items; low = c.self.inside.low.items; next_cells = c.self.inside.next_cells; bound = c.self.inside.bound; is_cut = c.self.inside.is_cut; first = c.self.inside.first; tick = c.self.inside.tick } in
    let goes : Goes task from next = record { may = c.if-not-allows_if.ensures.yes refl; tick = refl } in
    next_cut task old from c.args.to (subst (AreNext task from.tick) (sym c.self.view_is) c.requires.next)
    (from, subst (λ s. Contains s.states from) (sym c.self.view_is) c.requires.reached, goes)
    (c.in-Some.value, c.in-Some.ensures.some, c.if-value-self.false)
