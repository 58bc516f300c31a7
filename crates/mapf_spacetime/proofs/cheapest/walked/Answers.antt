use Rattle.std.proofs.Common.{◌≡◌, ◌+◌, ◌-◌, [], IfNone, sym, subst, arith}
use Rattle.mapf_spacetime.specs.Sweeps.{AreSwept, HasArrived, IsWhole}
use Rattle.mapf_spacetime.specs.Task.{IsValue, start_of}
use Rattle.mapf_spacetime.proofs.SweptLemmas.{none_swept, walk_arrived, walk_limit, whole_swept}
use Rattle.mapf_spacetime.proofs.cheapest.walked.Goals as goal

pub arrive_by-requires-clause-arrived : goal.arrive_by-requires-clause-arrived
arrive_by-requires-clause-arrived g c =
    let task = c.args.task.now in
    walk_arrived task c.args.cost [] c.args.cells.items (none_swept task c.args.cost (subst (IsValue task (start_of task)) (sym c.if-cost-distance.true) c.requires.distance)) c.requires.walk c.requires.rest

pub arrive_by-requires-in-None-clause-limit : goal.arrive_by-requires-in-None-clause-limit
arrive_by-requires-in-None-clause-limit g c =
    let task = c.args.task.now in
    let w : IsWhole task c.arrival.new.self = subst (λ o. IfNone o (IsWhole task c.arrival.new.self)) c.in-None.is c.in_ok-arrival.ensures.whole in
    let bound = subst (λ o. IfNone o (c.arrival.new.self.bound ≡ c.args.cost - 1)) c.in-None.is c.in_ok-arrival.ensures.bound in
    let least = c.requires.least in
    let cost : c.arrival.new.self.bound + 1 ≡ c.args.cost = omega arith in
    walk_limit task c.args.cost c.arrival.new.self.states c.args.cells.items (subst (λ n. AreSwept task n c.arrival.new.self.states) cost (whole_swept task c.arrival.new.self w)) c.requires.walk

pub arrive_by-requires-in-None-clause-arrived : goal.arrive_by-requires-in-None-clause-arrived
arrive_by-requires-in-None-clause-arrived g c =
    let task = c.args.task.now in
    let w : IsWhole task c.arrival.new.self = subst (λ o. IfNone o (IsWhole task c.arrival.new.self)) c.in-None.is c.in_ok-arrival.ensures.whole in
    let bound = subst (λ o. IfNone o (c.arrival.new.self.bound ≡ c.args.cost - 1)) c.in-None.is c.in_ok-arrival.ensures.bound in
    let least = c.requires.least in
    let cost : c.arrival.new.self.bound + 1 ≡ c.args.cost = omega arith in
    subst (HasArrived task c.args.cost) (sym c.states.ensures)
    (walk_arrived task c.args.cost c.arrival.new.self.states c.args.cells.items (subst (λ n. AreSwept task n c.arrival.new.self.states) cost (whole_swept task c.arrival.new.self w)) c.requires.walk c.requires.rest)
