use Rattle.std.proofs.Common.{◌≡◌, ℕ, Some, length, slice_get}
use Rattle.mapf_cbs.specs.declared.whole_node.AgentPath.{AgentPath}
use Rattle.mapf_cbs.specs.Whole.{IsCopy}
use Rattle.mapf_cbs.proofs.whole_node.copies.Given as goal

abbrev pub invariant-loop-i : goal.invariant-loop-i
invariant-loop-i l = record {
  so_many : length l.all.items ≡ l.i;
  each : (j : ℕ) (copy : AgentPath) → slice_get l.all.items j ≡ Some copy → (agent_path : AgentPath) × (slice_get l.agent_paths j ≡ Some agent_path) × IsCopy agent_path copy;
}
