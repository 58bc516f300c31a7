use Rattle.std.proofs.Common.{◌≡◌, ◌+◌, ◌≤◌, []}
use Rattle.mapf_spacetime.specs.Frontiers.{IsFrontier, takes_left}
use Rattle.mapf_spacetime.proofs.frontier.Frontier.expand.Given as goal

abbrev pub invariant-loop : goal.invariant-loop
invariant-loop g l = record {
  frontier : IsFrontier l.task [] l.self;
  cost : l.self.cost ≡ l.initial.self.cost;
  fewer : takes_left l.self + l.counter ≤ takes_left l.initial.self;
}
