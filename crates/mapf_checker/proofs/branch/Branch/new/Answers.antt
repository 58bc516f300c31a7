use Rattle.std.proofs.Common.{arith}
use Rattle.mapf_checker.proofs.branch.Branch.new.Goals as goal

pub invariant_of-result : goal.invariant_of-result
invariant_of-result c = rw (c.new.ensures.items, c.new-3.ensures.items) (record {
  first = record { within = omega arith; indexed = c.new-2.ensures; undone = tt };
  kept = c.in_ok-new.ensures.none;
  undone = tt;
})
