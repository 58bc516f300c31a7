-- What is known of the bytes that a source reports.
use Rattle.std.proofs.Common.{◌≡◌, ◌≢◌, ◌⊎◌, inl, inr, List, ℕ, None, Some, Option, Result, Ok, Err, IfSome, sym, subst}
use Rattle.mapf_app.specs.Faults.{IsReadingMap, IsReadingAgents, fault_of_map, fault_of_scenario}
use Rattle.mapf_app.specs.Problems.{IsMapDefect, IsAgentsDefect}
use Rattle.mapf_model.specs.Grid.{GridMap}
use Rattle.mapf_model.specs.Plan.{Instance}
use Rattle.mapf_text.specs.Lines.{lines_of}
use Rattle.mapf_text.specs.Maps.{SpellsMap, HasMapFault}
use Rattle.mapf_text.specs.Scenarios.{SpellsScenario, HasScenarioFault, filled_lines}
use Rattle.mapf_text.specs.declared.map_fault.MapFault.{MapFault}
use Rattle.mapf_text.specs.declared.map_fault.MapFault.TheVariants.{M1, M2, M3, M4, M5, M6, M7, M8, M9, Memory}
use Rattle.mapf_text.specs.declared.scenario_fault.ScenFault.{ScenFault}
use Rattle.mapf_text.specs.declared.scenario_fault.ScenFault.TheVariants as scenario

-- what holds of the text that was read holds of the bytes that the source reports
pub told : (P : List ℕ → Type 0) (known : Option (List ℕ)) (text : List ℕ) → IfSome known (λ bytes. text ≡ bytes) → P text → IfSome known P
told P None text same is = tt
told P (Some bytes) text same is = subst P same is

-- the text that was read is the bytes that the source reports
pub text_is : (known : Option (List ℕ)) (text bytes : List ℕ) → IfSome known (λ b. text ≡ b) → known ≡ Some bytes → text ≡ bytes
text_is None text bytes same is = absurd cc
text_is (Some b) text bytes same is = cc

-- so is a slice that is the whole text
pub read_as : (known : Option (List ℕ)) {text slice : List ℕ} → slice ≡ text → IfSome known (λ bytes. text ≡ bytes) → IfSome known (λ bytes. slice ≡ bytes)
read_as known is same = subst (λ t. IfSome known (λ bytes. t ≡ bytes)) (sym is) same

-- bytes that have an error spell nothing
no_other : {A E : Type 0} (fault memory : E) (x : A) → fault ≢ memory → ◌≡◌ {A = Result A E} (Err fault) (Ok x) ⊎ ◌≡◌ {A = Result A E} (Err fault) (Err memory) → ⊥
no_other fault memory x differ (inl is) = absurd cc
no_other fault memory x differ (inr is) = differ cc

module _ (known : Option (List ℕ)) (text : List ℕ) (same : IfSome known (λ bytes. text ≡ bytes)) where
  map_defect : (fault : MapFault) → fault ≢ Memory → ((grid : GridMap) → SpellsMap text grid → ◌≡◌ {A = Result GridMap MapFault} (Err fault) (Ok grid) ⊎ ◌≡◌ {A = Result GridMap MapFault} (Err fault) (Err Memory)) → HasMapFault (lines_of text) fault → IsMapDefect known fault
  map_defect fault differ only has = (
    differ,
    told (λ bytes. ((grid : GridMap) → SpellsMap bytes grid → ⊥) × HasMapFault (lines_of bytes) fault) known text same
        (λ grid spells. no_other fault Memory grid differ (only grid spells), has),
  )

  -- a map's error as an error of a run
  pub map_fault_told : (fault : MapFault) → ((grid : GridMap) → SpellsMap text grid → ◌≡◌ {A = Result GridMap MapFault} (Err fault) (Ok grid) ⊎ ◌≡◌ {A = Result GridMap MapFault} (Err fault) (Err Memory)) → HasMapFault (lines_of text) fault → IsReadingMap known (fault_of_map fault)
  map_fault_told M1 only has = map_defect M1 (λ e. cc) only has
  map_fault_told M2 only has = map_defect M2 (λ e. cc) only has
  map_fault_told M3 only has = map_defect M3 (λ e. cc) only has
  map_fault_told (M4 line) only has = map_defect (M4 line) (λ e. cc) only has
  map_fault_told M5 only has = map_defect M5 (λ e. cc) only has
  map_fault_told (M6 row) only has = map_defect (M6 row) (λ e. cc) only has
  map_fault_told (M7 x y) only has = map_defect (M7 x y) (λ e. cc) only has
  map_fault_told (M8 rows) only has = map_defect (M8 rows) (λ e. cc) only has
  map_fault_told (M9 line) only has = map_defect (M9 line) (λ e. cc) only has
  map_fault_told Memory only has = tt

module _ (known : Option (List ℕ)) (text : List ℕ) (same : IfSome known (λ bytes. text ≡ bytes)) (grid : GridMap) (count : ℕ) where
  agents_defect : (fault : ScenFault) → fault ≢ scenario.Memory → ((problem : Instance) → SpellsScenario text grid count problem → ◌≡◌ {A = Result Instance ScenFault} (Err fault) (Ok problem) ⊎ ◌≡◌ {A = Result Instance ScenFault} (Err fault) (Err scenario.Memory)) → HasScenarioFault grid (filled_lines text) count fault → IsAgentsDefect known grid count fault
  agents_defect fault differ only has = (
    differ,
    told (λ bytes. ((problem : Instance) → SpellsScenario bytes grid count problem → ⊥) × HasScenarioFault grid (filled_lines bytes) count fault) known text same
        (λ problem spells. no_other fault scenario.Memory problem differ (only problem spells), has),
  )

  -- a scenario's error as an error of a run
  pub scenario_fault_told : (fault : ScenFault) → ((problem : Instance) → SpellsScenario text grid count problem → ◌≡◌ {A = Result Instance ScenFault} (Err fault) (Ok problem) ⊎ ◌≡◌ {A = Result Instance ScenFault} (Err fault) (Err scenario.Memory)) → HasScenarioFault grid (filled_lines text) count fault → IsReadingAgents known grid count (fault_of_scenario fault)
  scenario_fault_told scenario.S1 only has = agents_defect scenario.S1 (λ e. cc) only has
  scenario_fault_told (scenario.S2 row) only has = agents_defect (scenario.S2 row) (λ e. cc) only has
  scenario_fault_told (scenario.S3 row field) only has = agents_defect (scenario.S3 row field) (λ e. cc) only has
  scenario_fault_told (scenario.S4 row) only has = agents_defect (scenario.S4 row) (λ e. cc) only has
  scenario_fault_told (scenario.S5 row) only has = agents_defect (scenario.S5 row) (λ e. cc) only has
  scenario_fault_told (scenario.S6 row) only has = agents_defect (scenario.S6 row) (λ e. cc) only has
  scenario_fault_told (scenario.S7 rows) only has = agents_defect (scenario.S7 rows) (λ e. cc) only has
  scenario_fault_told scenario.Memory only has = tt
