-- The valid plan that the inputs of a run spell, and why a plan text can't be followed. These definitions say nothing
-- of the bytes of an opaque source, such as a file.
use Rattle.std.specs.Prelude.{◌≡◌, ◌≢◌, ⊤, ℕ, List, Option, Some, IfSome, IsSome, length}
use Rattle.mapf_app.specs.Problems.{IsPosed, SpellsProblem}
use Rattle.mapf_app.specs.declared.fault.PlayFault.{PlayFault}
use Rattle.mapf_app.specs.declared.fault.PlayFault.TheVariants.{Text, NoPlan, OtherCount, Invalid, Events}
use Rattle.mapf_certificate.specs.Plans.{SpellsPlan}
use Rattle.mapf_certificate.specs.declared.version.Version.{Version}
use Rattle.mapf_certificate.specs.declared.plan_text.PlanAnswer.{PlanAnswer}
use Rattle.mapf_certificate.specs.declared.plan_text.PlanAnswer.TheVariants as answers
use Rattle.mapf_certificate.specs.declared.plan_text.PlanTextFault.TheVariants as plan_faults
use Rattle.mapf_checker.specs.Defects.{HasDefect}
use Rattle.mapf_model.specs.Plan.{Instance, IsValid}

-- the bytes spell a plan for the problem's agents, in either version, and it is valid
pub record SpellsValidPlan (problem : Instance) (bytes : List ℕ) (plan : List (List ℕ)) : Type 0 where
  pub version : Version
  pub spelled : SpellsPlan problem.grid bytes version (length problem.agents) (answers.Found plan)
  pub valid : IsValid problem plan

-- the map and the scenario spell the problem, of so many agents, and the plan text spells the valid plan for it
pub record SpellsPlanned (map scen plan : Option (List ℕ)) (count : ℕ) (problem : Instance) (paths : List (List ℕ))
    : Type 0 where
  pub posed : IsPosed count problem
  pub read : SpellsProblem map scen count problem
  pub spelled : IfSome plan (λ plan_text. SpellsValidPlan problem plan_text paths)
  pub valid : IsValid problem paths

-- the bytes of all inputs are known, the map and the scenario spell the problem, and the plan text spells the valid
-- plan for it
pub record IsDuePlan (map scen plan : Option (List ℕ)) (count : ℕ) (problem : Instance) (paths : List (List ℕ))
    : Type 0 where
  pub map_told : IsSome map
  pub scen_told : IsSome scen
  pub read : SpellsProblem map scen count problem
  pub plan_text : List ℕ
  pub plan_told : plan ≡ Some plan_text
  pub spelled : SpellsValidPlan problem plan_text paths

-- the answer of a plan text is no plan
abbrev pub IsNoPlan : PlanAnswer → Type 0
IsNoPlan (answers.Found plan) = ⊥
IsNoPlan answers.Impossible = ⊤
IsNoPlan (answers.Limit cause) = ⊤
IsNoPlan (answers.Bounded cause bound) = ⊤

-- what an error says of the plan text: it spells nothing, has no plan, is for another number of agents than the problem
-- has, or has a plan with this defect. An error of the events isn't one of a plan text
abbrev pub HasPlanFault : Instance → List ℕ → PlayFault → Type 0
HasPlanFault problem bytes (Text fault) =
    (fault ≢ plan_faults.Memory) × ((version : Version) (agents : ℕ) (answer : PlanAnswer) →
    SpellsPlan problem.grid bytes version agents answer → ⊥)
HasPlanFault problem bytes NoPlan =
    (version : Version) × (agents : ℕ) × (answer : PlanAnswer) × SpellsPlan problem.grid bytes version agents answer
    × IsNoPlan answer
HasPlanFault problem bytes OtherCount =
    (version : Version) × (agents : ℕ) × (plan : List (List ℕ))
    × SpellsPlan problem.grid bytes version agents (answers.Found plan) × (agents ≢ length problem.agents)
HasPlanFault problem bytes (Invalid fault) =
    (version : Version) × (plan : List (List ℕ))
    × SpellsPlan problem.grid bytes version (length problem.agents) (answers.Found plan) × HasDefect problem plan fault
HasPlanFault problem bytes (Events fault) = ⊥

-- the error is one of a plan text, not of the events
abbrev pub IsOfPlanText : PlayFault → Type 0
IsOfPlanText (Text fault) = ⊤
IsOfPlanText NoPlan = ⊤
IsOfPlanText OtherCount = ⊤
IsOfPlanText (Invalid fault) = ⊤
IsOfPlanText (Events fault) = ⊥

-- what the error says is true of the plan text, for the problem that the map and the scenario spell
pub record IsPlanDefect (map scen plan : Option (List ℕ)) (count : ℕ) (fault : PlayFault) : Type 0 where
  pub problem : Instance
  pub read : SpellsProblem map scen count problem
  pub of_plan : IsOfPlanText fault
  pub defect : IfSome plan (λ plan_text. HasPlanFault problem plan_text fault)
