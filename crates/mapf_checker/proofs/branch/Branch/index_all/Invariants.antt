use Rattle.std.proofs.Common.{◌≡◌, ◌-◌, length}
use Rattle.mapf_checker.proofs.branch.Branch.index_all.Given as goal

abbrev pub invariant-loop-self : goal.invariant-loop-self
invariant-loop-self l = record {
  edges : l.self.edges ≡ l.fn.self.edges;
  agents : l.self.agents ≡ l.fn.self.agents;
}

abbrev pub decreases-loop-self : goal.decreases-loop-self
decreases-loop-self l = length l.self.edges - l.self.indexed
