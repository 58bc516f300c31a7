use Rattle.std.proofs.Common.{◌+◌, refl}
use Rattle.mapf_model.proofs.StepLemmas.{neighbour_step, step_end}
use Rattle.mapf_spacetime.specs.Task.{state_at}
use Rattle.mapf_spacetime.proofs.ValueLemmas.{value_free}
use Rattle.mapf_spacetime.proofs.path_search.PathSearch.leads.Goals as goal

pub allows_if-requires-clause-free : goal.allows_if-requires-clause-free
allows_if-requires-clause-free g c none =
    let task = c.args.task.now in
    let from = c.args.from.now in
    let (value, is, le) = c.if-not-is_within.ensures.within refl in
    c.requires.unbarred none c.args.to (neighbour_step task.grid from.cell c.requires.wide c.requires.free c.args.to c.requires.beside (value_free task (state_at c.args.to (from.tick + 1)) value is))

pub allows_if-requires-clause-step : goal.allows_if-requires-clause-step
allows_if-requires-clause-step g c =
    let task = c.args.task.now in
    let from = c.args.from.now in
    let (value, is, le) = c.if-not-is_within.ensures.within refl in
    neighbour_step task.grid from.cell c.requires.wide c.requires.free c.args.to c.requires.beside (value_free task (state_at c.args.to (from.tick + 1)) value is)

pub returns-then-not-is_within-clause-no : goal.returns-then-not-is_within-clause-no
returns-then-not-is_within-clause-no g c = λ no may arrives.
    absurd (c.if-not-is_within.ensures.no refl (step_end c.args.task.now.grid c.args.from.now.cell c.args.to may.step) arrives)

pub returns-then-has-clause-no : goal.returns-then-has-clause-no
returns-then-has-clause-no g c = rw (← c.self.view_is) (λ no may arrives. c.if-has.ensures.0 refl)

pub returns-clause-no : goal.returns-clause-no
returns-clause-no g c = λ no may arrives. absurd (c.allows_if.ensures.no no may)
