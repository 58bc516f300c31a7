use Rattle.std.proofs.Common.{◌≡◌, drop, vec_len, vec_capacity}
use Rattle.mapf_text.specs.Scenarios.{filled_lines, HasAgents}
use Rattle.mapf_text.proofs.scenario.read_agents.Given as goal

abbrev pub invariant-loop-row : goal.invariant-loop-row
invariant-loop-row l = record {
  agents : HasAgents l.grid (filled_lines l.text) l.row l.agents.items;
  rest : filled_lines l.rest ≡ drop l.row (filled_lines l.text);
  len : vec_len l.agents ≡ l.row;
  capacity : vec_capacity l.agents ≡ l.k;
}
