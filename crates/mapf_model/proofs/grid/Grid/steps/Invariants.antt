use Rattle.std.proofs.Common.{◌≡◌, ◌≤◌, take}
use Rattle.smallvec.specs.SmallVec.{small_vec_len}
use Rattle.mapf_model.specs.Neighbours.{free_cells}
use Rattle.mapf_model.proofs.grid.Grid.steps.Given as goal

abbrev pub invariant-loop-place : goal.invariant-loop-place
invariant-loop-place l = record {
  items : l.steps.items ≡ free_cells l.self (take l.place-index l.place-items);
  few : small_vec_len l.steps ≤ l.place-index;
  room : 5 ≤ l.steps.capacity;
}
