use Rattle.std.proofs.Common.{◌+◌, ◌-◌, length}
use Rattle.mapf_constraints.specs.BarSets.{AreBefore}
use Rattle.mapf_spacetime.specs.PathSearch.{IsSearching, state_of}
use Rattle.mapf_spacetime.specs.Task.{IsValue}
use Rattle.mapf_spacetime.proofs.DirectLemmas.{only_cells}
use Rattle.mapf_spacetime.proofs.path_search.PathSearch.go_straight.Given as goal

abbrev pub invariant-loop-self : goal.invariant-loop-self
invariant-loop-self g l = record {
  searching : IsSearching l.task l.cost (only_cells l.self-inside.cells.items);
  free : AreBefore (length l.self-inside.cells.items - 1) l.task.bars;
  level : IsValue l.task (state_of l.self-inside.cells.items (length l.self-inside.cells.items - 1)) l.cost;
}

abbrev pub decreases-loop-self : goal.decreases-loop-self
decreases-loop-self g l = l.cost + 1 - length l.self-inside.cells.items
