use Rattle.std.proofs.Common.{◌≡◌, []}
use Rattle.mapf_spacetime.specs.Frontiers.{IsFrontier, takes_left}
use Rattle.mapf_spacetime.specs.PathSearch.{IsSearching}
use Rattle.mapf_spacetime.proofs.levels.wide_level.Given as goal

abbrev pub invariant-loop-walk : goal.invariant-loop-walk
invariant-loop-walk g l = record {
  frontier : IsFrontier l.task [] l.frontier;
  cost : l.frontier.cost ≡ l.cost;
  searching : IsSearching l.task l.cost l.walk;
}

abbrev pub decreases-loop-walk : goal.decreases-loop-walk
decreases-loop-walk g l = takes_left l.frontier
