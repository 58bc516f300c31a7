use Rattle.std.proofs.Common.{◌≡◌, ◌≤◌, ℕ, List, All, length, take, ◌∙◌, arith}
use Rattle.std.proofs.lemmas.List.{length-take-le}
use Rattle.mapf_model.specs.Grid.{GridMap, IsFree}
use Rattle.mapf_model.specs.Limits.{most_agents}
use Rattle.mapf_model.specs.declared.problem.Agent.{Agent}
use Rattle.mapf_text.specs.Scenarios.{HasAgents}
use Rattle.mapf_text.proofs.ScenarioLaws.{SpellAgents-length, SpellAgents-free}
use Rattle.mapf_text.proofs.scenario.problem_of.Goals as goal

count : (grid : GridMap) (rows : List (List ℕ)) (k : ℕ) (agents : List Agent) → HasAgents grid rows k agents → length agents ≡ k
count grid rows k agents has = SpellAgents-length grid (take k rows) agents has.spelled ∙ length-take-le k rows has.enough

good : (grid : GridMap) (rows : List (List ℕ)) (k : ℕ) (agents : List Agent) → (1 ≤ k) × (k ≤ most_agents) → HasAgents grid rows k agents
    → (1 ≤ length agents) × (length agents ≤ most_agents) × All (λ agent. IsFree grid agent.start × IsFree grid agent.goal) agents
good grid rows k agents (some, few) has =
    let many = count grid rows k agents has in
    (omega arith, omega arith, SpellAgents-free grid (take k rows) agents has.spelled)

pub unwrap-requires : goal.unwrap-requires
unwrap-requires c = c.of.ensures.good.1 (good _ _ c.args.k _ c.requires c.in_ok-agents.ensures)
