-- The problem that the inputs of a run spell. These definitions say nothing of the bytes of an opaque source, such as a
-- file.
use Rattle.std.specs.Prelude.{◌≡◌, ◌≢◌, ℕ, List, Option, IfSome, length}
use Rattle.mapf_model.specs.Grid.{GridMap}
use Rattle.mapf_model.specs.Plan.{Instance, IsInstance}
use Rattle.mapf_text.specs.Lines.{lines_of}
use Rattle.mapf_text.specs.Maps.{SpellsMap, HasMapFault}
use Rattle.mapf_text.specs.Scenarios.{SpellsScenario, HasScenarioFault, filled_lines}
use Rattle.mapf_text.specs.declared.map_fault.MapFault.{MapFault}
use Rattle.mapf_text.specs.declared.map_fault.MapFault.TheVariants as map_faults
use Rattle.mapf_text.specs.declared.scenario_fault.ScenFault.{ScenFault}
use Rattle.mapf_text.specs.declared.scenario_fault.ScenFault.TheVariants as scenario_faults

-- a map's bytes spell the grid
abbrev pub SpellsGrid : Option (List ℕ) → GridMap → Type 0
SpellsGrid map grid = IfSome map (λ bytes. SpellsMap bytes grid)

-- a scenario's bytes spell the problem of so many agents on the grid
abbrev pub SpellsAgents : Option (List ℕ) → GridMap → ℕ → Instance → Type 0
SpellsAgents scen grid count problem = IfSome scen (λ bytes. SpellsScenario bytes grid count problem)

-- the bytes of a map and of a scenario spell the problem of so many agents
pub record SpellsProblem (map scen : Option (List ℕ)) (count : ℕ) (problem : Instance) : Type 0 where
  pub grid : SpellsGrid map problem.grid
  pub agents : SpellsAgents scen problem.grid count problem

-- a problem of so many agents
pub record IsPosed (count : ℕ) (problem : Instance) : Type 0 where
  pub is_instance : IsInstance problem
  pub many : length problem.agents ≡ count

-- the map's bytes spell no grid, and have the defect
abbrev pub IsMapDefect : Option (List ℕ) → MapFault → Type 0
IsMapDefect map fault =
    (fault ≢ map_faults.Memory) × IfSome map (λ bytes. ((grid : GridMap) → SpellsMap bytes grid → ⊥)
    × HasMapFault (lines_of bytes) fault)

-- the scenario's bytes spell no problem on this grid, and have the defect
abbrev pub IsAgentsDefect : Option (List ℕ) → GridMap → ℕ → ScenFault → Type 0
IsAgentsDefect scen grid count fault =
    (fault ≢ scenario_faults.Memory) × IfSome scen (λ bytes.
    ((problem : Instance) → SpellsScenario bytes grid count problem → ⊥)
    × HasScenarioFault grid (filled_lines bytes) count fault)

-- the map's bytes spell a grid on which the scenario's bytes spell no problem and have the defect
pub record IsScenarioDefect (map scen : Option (List ℕ)) (count : ℕ) (fault : ScenFault) : Type 0 where
  pub on : GridMap
  pub grid : SpellsGrid map on
  pub defect : IsAgentsDefect scen on count fault
