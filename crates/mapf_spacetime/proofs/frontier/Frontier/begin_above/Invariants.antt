use Rattle.std.proofs.Common.{◌≡◌, drop}
use Rattle.mapf_spacetime.specs.Frontiers.{IsFrontier}
use Rattle.mapf_spacetime.proofs.frontier.Frontier.begin_above.Given as goal

abbrev pub invariant-loop-place : goal.invariant-loop-place
invariant-loop-place g l = record {
  frontier : IsFrontier l.task (drop l.place l.initial.self.reached) l.self;
  reached : l.self.reached ≡ l.initial.self.reached;
  cost : l.self.cost ≡ l.initial.self.cost;
}
