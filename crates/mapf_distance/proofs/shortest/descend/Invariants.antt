use Rattle.std.proofs.Common.{◌≡◌, ◌+◌, ◌≤◌, slice_index, vec_capacity}
use Rattle.mapf_distance.specs.Search.{estimate}
use Rattle.mapf_distance.proofs.DescentLemmas.{IsDescent}
use Rattle.mapf_distance.proofs.shortest.descend.Given as goal

abbrev pub invariant-loop-steps : goal.invariant-loop-steps
invariant-loop-steps l = record {
  descent : IsDescent l.grid l.search.goal l.search.start l.distance l.steps l.cells.items;
  here : slice_index l.cells.items l.steps ≡ l.here;
  near : estimate l.grid l.here l.search.start ≤ l.steps;
  room : l.distance + 1 ≤ vec_capacity l.cells;
}
