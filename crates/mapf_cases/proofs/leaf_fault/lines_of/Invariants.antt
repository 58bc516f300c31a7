use Rattle.std.proofs.Common.{◌≡◌, ◌≤◌, ◌+◌, ◌*◌, length, sum_by, take}
use Rattle.mapf_cases.proofs.leaf_fault.lines_of.Given as goal

abbrev pub invariant-loop-group : goal.invariant-loop-group
invariant-loop-group l = record {
  lines : l.lines ≡ sum_by (λ group. length group.uses + 1) (take l.group-index l.groups);
  small : l.lines ≤ l.group-index * 200001;
}
