use Rattle.std.proofs.Common.{◌≡◌, ◌*◌, ◌≤◌, length, drop, vec_len, vec_capacity}
use Rattle.mapf_text.specs.Lines.{lines_of}
use Rattle.mapf_text.specs.Maps.{HasRows}
use Rattle.mapf_text.proofs.map.read_rows.Given as goal

abbrev pub invariant-loop-y : goal.invariant-loop-y
invariant-loop-y l = record {
  rows : HasRows (lines_of l.text) l.y l.size.width l.free.items;
  rest : lines_of l.rest ≡ drop l.y (lines_of l.text);
  len : vec_len l.free ≡ l.y * l.size.width;
  capacity : vec_capacity l.free ≡ l.size.width * l.size.height;
  shorter : length l.rest ≤ length l.text;
}
