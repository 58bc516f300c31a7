use Rattle.std.proofs.Common.{◌≡◌, ℕ, Option, Some, length, slice_get}
use Rattle.mapf_model.specs.declared.problem.Agent.{Agent}
use Rattle.mapf_distance.specs.Distances.{IsDistanceOrNone}
use Rattle.mapf_distance.proofs.starts.start_distances.Given as goal

abbrev pub invariant-loop-agent : goal.invariant-loop-agent
invariant-loop-agent l = record {
  so_many : length l.distances.items ≡ l.agent-index;
  each : (i : ℕ) (agent : Agent) (distance : Option ℕ) → slice_get l.problem.agents i ≡ Some agent → slice_get l.distances.items i ≡ Some distance → IsDistanceOrNone l.problem.grid agent.goal agent.start distance;
}
