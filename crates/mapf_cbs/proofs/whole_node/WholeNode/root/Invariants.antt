use Rattle.std.proofs.Common.{◌≡◌, ℕ, Some, [], length, slice_get}
use Rattle.mapf_cbs.specs.declared.whole_node.AgentPath.{AgentPath}
use Rattle.mapf_cbs.proofs.whole_node.WholeNode.root.Given as goal

abbrev pub invariant-loop-i : goal.invariant-loop-i
invariant-loop-i l = record {
  so_many : length l.agent_paths.items ≡ l.i;
  each : (j : ℕ) (agent_path : AgentPath) → slice_get l.agent_paths.items j ≡ Some agent_path → (slice_get l.paths j ≡ Some agent_path.path) × (agent_path.bars ≡ []);
}
