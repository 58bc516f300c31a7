use Rattle.std.proofs.Common.{◌≡◌, ◌+◌, ◌<◌, ◌++◌, ℕ, map, take, Some, IsSome, slice_index, vec_len, vec_capacity}
use Rattle.mapf_text.specs.Maps.{flag_of}
use Rattle.mapf_text.proofs.map.push_row.Given as goal

abbrev pub invariant-loop-x : goal.invariant-loop-x
invariant-loop-x l = record {
  flags : map Some l.free.items ≡ map Some l.fn.free.items ++ map flag_of (take l.x l.row);
  known : (k : ℕ) → k < l.x → IsSome (flag_of (slice_index l.row k));
  len : vec_len l.free ≡ vec_len l.fn.free + l.x;
  capacity : vec_capacity l.free ≡ vec_capacity l.fn.free;
}
