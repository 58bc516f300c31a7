use Rattle.std.proofs.Common.{◌≡◌, ℕ, Some, length, slice_get}
use Rattle.mapf_model.specs.declared.problem.Agent.{Agent}
use Rattle.mapf_distance.specs.Distances.{GoalMap}
use Rattle.mapf_distance.proofs.tables.goal_tables.Given as goal

abbrev pub invariant-loop-agent : goal.invariant-loop-agent
invariant-loop-agent l = record {
  so_many : length l.tables.items ≡ l.agent-index;
  each : (i : ℕ) (agent : Agent) (table : GoalMap) → slice_get l.problem.agents i ≡ Some agent → slice_get l.tables.items i ≡ Some table → (table.grid ≡ l.problem.grid) × (table.goal ≡ agent.goal);
}
