use Rattle.std.proofs.Common.{◌≡◌, length, take}
use Rattle.mapf_cases.specs.Scopes.{Mark}
use Rattle.mapf_cases.proofs.scope_agents.ScopeAgents.of.Given as goal

abbrev pub invariant-loop-agent : goal.invariant-loop-agent
invariant-loop-agent l = record {
  count : length l.marks.items ≡ l.count;
  marks : Mark (take l.agent-index l.agent-items) l.marks.items;
}
