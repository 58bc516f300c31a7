use Rattle.std.proofs.Common.{◌≡◌, ◌⊎◌, ℕ, List, Result, Ok, Err, IfOk, MatchResult, length, take, ◌∙◌, ap, inl, inr}
use Rattle.std.proofs.lemmas.List.{length-take-le}
use Rattle.mapf_model.specs.Grid.{GridMap}
use Rattle.mapf_model.specs.Plan.{Instance}
use Rattle.mapf_text.specs.Scenarios.{filled_lines, SpellsScenario, HasScenarioFault}
use Rattle.mapf_text.specs.declared.scenario_fault.ScenFault.{ScenFault}
use Rattle.mapf_text.specs.declared.scenario_fault.ScenFault.TheVariants.{Memory}
use Rattle.mapf_text.proofs.ScenarioLaws.{SpellAgents-length, scenario_faultless, scenario_unique}
use Rattle.mapf_text.proofs.scenario.read_scen.Goals as goal

only : (bytes : List ℕ) (grid : GridMap) (k : ℕ) (result : Result Instance ScenFault) (problem : Instance) → MatchResult result (SpellsScenario bytes grid k) (HasScenarioFault grid (filled_lines bytes) k)
    → SpellsScenario bytes grid k problem → (result ≡ Ok problem) ⊎ (result ≡ Err Memory)
only bytes grid k (Ok found) problem is spells = inl (ap Ok (scenario_unique bytes grid k found problem is spells))
only bytes grid k (Err fault) problem is spells = inr (ap Err (scenario_faultless bytes grid k problem spells fault is))

pub returns-clause-only : goal.returns-clause-only
returns-clause-only c problem spells = only c.args.bytes.now c.args.grid c.args.k _ problem c.problem_of.ensures.cases spells

counted : (bytes : List ℕ) (grid : GridMap) (k : ℕ) (result : Result Instance ScenFault) → MatchResult result (SpellsScenario bytes grid k) (HasScenarioFault grid (filled_lines bytes) k) → IfOk result (λ problem. length problem.agents ≡ k)
counted bytes grid k (Ok found) is = SpellAgents-length grid (take k is.rows) found.agents is.agents.spelled ∙ length-take-le k is.rows is.agents.enough
counted bytes grid k (Err fault) is = tt

pub returns-clause-count : goal.returns-clause-count
returns-clause-count c = counted c.args.bytes.now c.args.grid c.args.k _ c.problem_of.ensures.cases
