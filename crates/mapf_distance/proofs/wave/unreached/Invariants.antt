use Rattle.std.proofs.Common.{◌≡◌, ◌≤◌, map, take, vec_len, vec_capacity}
use Rattle.mapf_distance.specs.Marks.{first_entry}
use Rattle.mapf_distance.proofs.wave.unreached.Given as goal

abbrev pub invariant-loop-cell : goal.invariant-loop-cell
invariant-loop-cell l = record {
  entries : l.table.items ≡ map first_entry (take l.cell l.grid.free);
  count : vec_len l.table ≡ l.cell;
  room : l.cells ≤ vec_capacity l.table;
}
