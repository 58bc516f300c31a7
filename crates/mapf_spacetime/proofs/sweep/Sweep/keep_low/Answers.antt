use Rattle.std.proofs.Common.{Contains, sym, subst}
use Rattle.mapf_spacetime.specs.Sweeps.{Sweeping, MeetsGoal}
use Rattle.mapf_spacetime.proofs.SweptLemmas.{arrived, meets_limit}
use Rattle.mapf_spacetime.proofs.sweep.Sweep.keep_low.Goals as goal

pub returns-clause-arrives : goal.returns-clause-arrives
returns-clause-arrives g c =
    let task = c.args.task.now in
    let inside = c.self.inside in
    let sweep : Sweeping = record { states = inside.states.items; low = inside.low.items; next_cells = inside.next_cells; bound = inside.bound; is_cut = inside.is_cut; first = inside.first; tick = inside.tick } in
    let m : MeetsGoal task inside.tick sweep = subst (λ s. MeetsGoal task s.tick s) (sym c.self.view_is) c.requires.meets in
    arrived task inside.tick sweep m c.keep_below.new.self.low c.in_ok-keep_below.ensures.swept

pub returns-clause-limit : goal.returns-clause-limit
returns-clause-limit g c =
    let task = c.args.task.now in
    let inside = c.self.inside in
    let sweep : Sweeping = record { states = inside.states.items; low = inside.low.items; next_cells = inside.next_cells; bound = inside.bound; is_cut = inside.is_cut; first = inside.first; tick = inside.tick } in
    let m : MeetsGoal task inside.tick sweep = subst (λ s. MeetsGoal task s.tick s) (sym c.self.view_is) c.requires.meets in
    meets_limit task inside.tick sweep m c.keep_below.new.self.low c.in_ok-keep_below.ensures.swept
    (λ s held. c.in_ok-keep_below.ensures.kept s (subst (λ x. Contains x.states s) c.self.view_is held))
