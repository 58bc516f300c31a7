use Rattle.std.proofs.Common.{◌≡◌, ◌≤◌, ◌-◌}
use Rattle.mapf_distance.specs.Tables.{AreMade}
use Rattle.mapf_cbs.specs.State.{IsState}
use Rattle.mapf_cbs.proofs.solver.search_from.Given as goal

abbrev pub invariant-loop-total : goal.invariant-loop-total
invariant-loop-total g l = record {
  within : l.search.splits ≤ l.limit;
  state : IsState l.problem l.search.nodes.items l.search.statuses.items l.search.waiting l.search.splits;
  problem : l.replanner.problem.now ≡ l.problem;
  tables : AreMade l.problem l.replanner.tables;
}

abbrev pub decreases-loop-total : goal.decreases-loop-total
decreases-loop-total g l = l.limit - l.search.splits
