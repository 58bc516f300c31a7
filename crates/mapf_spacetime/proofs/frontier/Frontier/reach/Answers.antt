use Rattle.mapf_spacetime.proofs.frontier.Frontier.reach.Goals as goal

pub returns-clause-old : goal.returns-clause-old
returns-clause-old c = rw (← c.self.view_is) (λ old.
    let was = c.in_ok-new.ensures.old old in
    let inside = c.self.inside in (
      λ i. record { reached = was.0 i; open_states = inside.open_states.items; next_states = inside.next_states.items; later_states = inside.later_states.items; cost = inside.cost; below = inside.below },
      was.1,
    ))
