use Rattle.std.proofs.Common.{◌≡◌, ◌+◌, ◌-◌, true, false}
use Rattle.mapf_spacetime.specs.PathSearch.{IsSearching}
use Rattle.mapf_spacetime.specs.Sweeps.{IsUnderWay, MeetsGoal}
use Rattle.mapf_spacetime.proofs.turns.by_turns.Given as goal

abbrev pub invariant-loop-arrives : goal.invariant-loop-arrives
invariant-loop-arrives g l = record {
  arrives : l.arrives ≡ true → MeetsGoal l.task l.sweep.tick l.sweep;
  goes : l.arrives ≡ false → IsUnderWay l.task l.sweep;
  bound : l.sweep.bound ≡ l.bound;
  searching : IsSearching l.task l.bound l.walk;
}

abbrev pub decreases-loop-arrives : goal.decreases-loop-arrives
decreases-loop-arrives g l = (l.bound + 2) - l.sweep.tick
