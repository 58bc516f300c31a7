use Rattle.std.proofs.Common.{sym, subst}
use Rattle.mapf_spacetime.specs.Frontiers.{States, IsAtGoal}
use Rattle.mapf_spacetime.proofs.LevelLemmas.{low_arrived}
use Rattle.mapf_spacetime.proofs.frontier.Frontier.keep_low.Goals as goal

pub returns-clause-arrives : goal.returns-clause-arrives
returns-clause-arrives c task h =
    let inside = c.self.inside in
    let states : States = record { reached = inside.reached; open_states = inside.open_states.items; next_states = inside.next_states.items; later_states = inside.later_states.items; cost = inside.cost; below = inside.below } in
    let at_goal : IsAtGoal task states = subst (IsAtGoal task) (sym c.self.view_is) h in
    let did = c.keep_sorted.ensures in
    low_arrived task (record states { open_states = at_goal.all }) at_goal.frontier at_goal.leads at_goal.rest c.keep_sorted.new.self
    (λ s held. (did.same s).0 held)
    (λ s held. (did.same s).1 held)
    did.rising
