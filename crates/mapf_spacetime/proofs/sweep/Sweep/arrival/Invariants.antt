use Rattle.std.proofs.Common.{◌≡◌, ◌+◌, ◌-◌, true, false}
use Rattle.mapf_spacetime.specs.Sweeps.{IsUnderWay, MeetsGoal}
use Rattle.mapf_spacetime.proofs.sweep.Sweep.arrival.Given as goal

abbrev pub invariant-loop-arrives : goal.invariant-loop-arrives
invariant-loop-arrives g l = record {
  arrives : l.arrives ≡ true → MeetsGoal l.task l.self.tick l.self;
  goes : l.arrives ≡ false → IsUnderWay l.task l.self;
  bound : l.self.bound ≡ l.fn.bound;
}

abbrev pub decreases-loop-arrives : goal.decreases-loop-arrives
decreases-loop-arrives g l = (l.self.bound + 2) - l.self.tick
