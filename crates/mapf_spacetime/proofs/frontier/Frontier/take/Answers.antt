use Rattle.std.proofs.Common.{◌≡◌, ◌+◌, ◌<◌, ◌≤◌, ⊎_elim, inl, ap, refl, subst, arith}
use Rattle.std.proofs.lemmas.Bool.{cases_lt}
use Rattle.mapf_model.proofs.StepLemmas.{neighbour_step}
use Rattle.mapf_spacetime.specs.Task.{state_at, Goes, IsValue}
use Rattle.mapf_spacetime.proofs.ValueLemmas.{value_free, not_higher}
use Rattle.mapf_spacetime.proofs.FrontierLemmas.{take_level, take_next, take_later, take_none}
use Rattle.mapf_spacetime.proofs.frontier.Frontier.take.Goals as goal

pub allows_if-requires-clause-step : goal.allows_if-requires-clause-step
allows_if-requires-clause-step g c =
    let task = c.args.task.now in
    let from = c.args.from.now in
    let next = state_at c.args.to (from.tick + 1) in
    let (value, is, le) = c.requires.within in
    neighbour_step task.grid from.cell c.requires.wide (value_free task from value is) c.args.to c.requires.beside (value_free task next c.in-Some.value c.in-Some.ensures.some)

pub allows_if-requires-clause-free : goal.allows_if-requires-clause-free
allows_if-requires-clause-free g c none =
    let task = c.args.task.now in
    let from = c.args.from.now in
    let next = state_at c.args.to (from.tick + 1) in
    let (value, is, le) = c.requires.within in
    c.requires.free none c.args.to (neighbour_step task.grid from.cell c.requires.wide (value_free task from value is) c.args.to c.requires.beside (value_free task next c.in-Some.value c.in-Some.ensures.some))

pub returns : goal.returns
returns g c =
    let task = c.args.task.now in
    let from = c.args.from.now in
    let states = c.args.self.now in
    let next = state_at c.args.to (from.tick + 1) in
    let may = c.if-not-allows_if.ensures.yes refl in
    let value = c.in-Some.value in
    let is = c.in-Some.ensures.some in
    let goes : Goes task from next = record { may = may; tick = refl } in
    let (before, before_is, le) = c.requires.within in
    let high = not_higher task from next before value before_is is goes in
    ⊎_elim
    (λ (past : states.cost < value). ⊎_elim
    (λ (later : states.cost + 1 < value).
    let same : value ≡ states.cost + 2 = omega arith in
    take_later task states from c.args.to c.requires.reached may (subst (IsValue task next) same is) c.place.new.self (c.in_ok-place.ensures.later later))
    (λ (not_later : value ≤ states.cost + 1).
    let same : value ≡ states.cost + 1 = omega arith in
    take_next task states from c.args.to c.requires.reached may (subst (IsValue task next) same is) c.place.new.self (c.in_ok-place.ensures.next same))
    (cases_lt (states.cost + 1) value))
    (λ (level : value ≤ states.cost).
    let cost = ap (λ s. s.cost) c.self.view_is in
    let no_less = c.if-value-self.false in
    let same : value ≡ states.cost = omega arith in
    take_level task states from c.args.to c.requires.reached may (subst (IsValue task next) same is) c.place.new.self (c.in_ok-place.ensures.level level))
    (cases_lt states.cost value)

pub returns-then-was_reached : goal.returns-then-was_reached
returns-then-was_reached g c = take_none c.args.task.now c.args.self.now c.args.from.now c.args.to (λ may. inl (inl (c.if-was_reached.ensures refl)))
