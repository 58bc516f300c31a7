use Rattle.std.proofs.Common.{◌≡◌, ◌-◌, ◌+◌, ◌<◌, []}
use Rattle.mapf_model.specs.Limits.{most_cells}
use Rattle.mapf_spacetime.specs.Frontiers.{IsFrontier}
use Rattle.mapf_spacetime.specs.States.{IsBelowLimit}
use Rattle.mapf_spacetime.specs.Task.{IsWithin, MayRestFrom, start_of}
use Rattle.mapf_spacetime.proofs.levels.by_levels.Given as goal

abbrev pub invariant-loop-cells : goal.invariant-loop-cells
invariant-loop-cells g l = record {
  frontier : IsFrontier l.task [] l.frontier;
  cost : l.frontier.cost ≡ l.cost;
  within : IsWithin l.task l.cost (start_of l.task);
  rest : MayRestFrom l.task l.cost;
  limit : IsBelowLimit l.task l.cost;
  small : l.cost < l.horizon + most_cells;
}

abbrev pub decreases-loop-cells : goal.decreases-loop-cells
decreases-loop-cells g l = (l.horizon + most_cells) - l.cost
