use Rattle.std.proofs.Common.{◌≡◌, length}
use Rattle.mapf_checker.specs.Branch.{place_of}
use Rattle.mapf_checker.proofs.branch.Branch.backtrack.Given as goal

abbrev pub invariant-loop-edge : goal.invariant-loop-edge
invariant-loop-edge l = record {
  pending : (place_of l.self).pending ≡ (place_of l.fn.self).pending;
  agents : l.self.agents ≡ l.fn.self.agents;
}

abbrev pub decreases-loop-edge : goal.decreases-loop-edge
decreases-loop-edge l = length l.self.edges
