use Rattle.std.proofs.Common.{◌≤◌, ◌-◌}
use Rattle.mapf_cbs.specs.Whole.{IsWholeState}
use Rattle.mapf_cbs.proofs.plain.search_plain.Given as goal

abbrev pub invariant-loop-k : goal.invariant-loop-k
invariant-loop-k l = record {
  within : l.tree.splits ≤ l.limit;
  state : IsWholeState l.problem l.tree.nodes.items l.tree.statuses.items l.tree.splits;
}

abbrev pub decreases-loop-k : goal.decreases-loop-k
decreases-loop-k l = l.limit - l.tree.splits
