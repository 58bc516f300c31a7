use Rattle.std.proofs.Common.{◌≡◌, ◌+◌, ◌≤◌, slice_index, vec_capacity}
use Rattle.mapf_distance.proofs.DescentLemmas.{IsDescent}
use Rattle.mapf_distance.proofs.distances.Distances.descend.Given as goal

abbrev pub invariant-loop-steps : goal.invariant-loop-steps
invariant-loop-steps l = record {
  descent : IsDescent l.self.grid l.self.goal l.fn.cell l.distance l.steps l.cells.items;
  here : slice_index l.cells.items l.steps ≡ l.here;
  room : l.distance + 1 ≤ vec_capacity l.cells;
}
