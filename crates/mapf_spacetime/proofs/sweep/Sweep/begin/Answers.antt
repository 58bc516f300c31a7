use Rattle.std.proofs.Common.{ap, sym, subst, ◌∙◌, ◌∷◌, []}
use Rattle.mapf_spacetime.specs.Sweeps.{MeetsGoal}
use Rattle.mapf_spacetime.specs.Task.{IsWithin, start_of, state_at}
use Rattle.mapf_spacetime.proofs.SweepLemmas.{meets_at_start}
use Rattle.mapf_spacetime.proofs.sweep.Sweep.begin.Goals as goal

pub returns-clause-arrives : goal.returns-clause-arrives
returns-clause-arrives g c there =
    let task = c.args.task.now in
    let sweep = c.clear.new.self in
    let did = c.in_ok-clear.ensures in
    let states = did.states ∙ ap (λ cell. state_at cell 0 ∷ []) c.start.ensures.start in
    subst (λ n. MeetsGoal task n sweep) (sym did.tick)
    (meets_at_start task sweep states (subst (λ b. IsWithin task b (start_of task)) (sym did.bound) c.requires.within)
    (sym c.start.ensures.start ∙ c.is_arrival.ensures.goal there) (c.is_arrival.ensures.rest there))
