-- What each error of a run says of its inputs.
use Rattle.std.specs.Prelude.{◌≡◌, ◌≢◌, ℕ, List, Option, ⊤}
use Rattle.mapf_model.specs.Grid.{GridMap}
use Rattle.mapf_model.specs.Plan.{Instance}
use Rattle.mapf_app.specs.Checked.{HasNoCheckMemory, IsRefusalOf}
use Rattle.mapf_app.specs.Dispatched.{HasEventsFault, IsDispatchDefect}
use Rattle.mapf_app.specs.Planned.{HasPlanFault, IsOfPlanText, IsPlanDefect}
use Rattle.mapf_app.specs.Problems.{IsMapDefect, IsAgentsDefect, IsScenarioDefect}
use Rattle.mapf_app.specs.declared.fault.Fault.{Fault}
use Rattle.mapf_app.specs.declared.fault.Fault.TheVariants.{F1, F2, F3, F4, F5, F6, Refused}
use Rattle.mapf_app.specs.declared.fault.PlayFault.{PlayFault}
use Rattle.mapf_app.specs.declared.fault.PlayFault.TheVariants.{Text, NoPlan, OtherCount, Invalid, Events}
use Rattle.mapf_app.specs.declared.fault.Input.{Input}
use Rattle.mapf_app.specs.declared.fault.Input.TheVariants.{Map, Scen, Plan, Cert, Events as EventText}
use Rattle.mapf_app.specs.declared.fault.Output.{Output}
use Rattle.mapf_app.specs.declared.fault.Output.TheVariants.{Plan as PlanText, Cert as CertText, Out}
use Rattle.mapf_certificate.specs.declared.plan_text.PlanTextFault.{PlanTextFault}
use Rattle.mapf_certificate.specs.declared.plan_text.PlanTextFault.TheVariants as plan_faults
use Rattle.mapf_checker.specs.declared.fault.CheckFault.{CheckFault}
use Rattle.mapf_player.specs.declared.events.EventFault.{EventFault}
use Rattle.mapf_player.specs.declared.events.EventFault.TheVariants as event_faults
use Rattle.mapf_text.specs.declared.map_fault.MapFault.{MapFault}
use Rattle.mapf_text.specs.declared.map_fault.MapFault.TheVariants as map_faults
use Rattle.mapf_text.specs.declared.scenario_fault.ScenFault.{ScenFault}
use Rattle.mapf_text.specs.declared.scenario_fault.ScenFault.TheVariants as scenario_faults

-- an input of every run
abbrev pub IsProblemInput : Input → Type 0
IsProblemInput Map = ⊤
IsProblemInput Scen = ⊤
IsProblemInput Plan = ⊥
IsProblemInput Cert = ⊥
IsProblemInput EventText = ⊥

-- an input of a run that checks a plan text and a certificate
abbrev pub IsCheckInput : Input → Type 0
IsCheckInput Map = ⊤
IsCheckInput Scen = ⊤
IsCheckInput Plan = ⊤
IsCheckInput Cert = ⊤
IsCheckInput EventText = ⊥

-- an input of a run that plays a plan
abbrev pub IsPlanInput : Input → Type 0
IsPlanInput Map = ⊤
IsPlanInput Scen = ⊤
IsPlanInput Plan = ⊤
IsPlanInput Cert = ⊥
IsPlanInput EventText = ⊥

-- an input of a run that dispatches agents
abbrev pub IsDispatchInput : Input → Type 0
IsDispatchInput Map = ⊤
IsDispatchInput Scen = ⊤
IsDispatchInput Plan = ⊤
IsDispatchInput Cert = ⊥
IsDispatchInput EventText = ⊤

-- one of the two texts
abbrev pub IsOfTexts : Output → Type 0
IsOfTexts PlanText = ⊤
IsOfTexts CertText = ⊤
IsOfTexts Out = ⊥

-- what an error of reading a map says of its bytes
abbrev pub IsReadingMap : Option (List ℕ) → Fault → Type 0
IsReadingMap map (F1 fault) = IsMapDefect map fault
IsReadingMap map (F2 fault) = ⊥
IsReadingMap map (F3 fault) = ⊥
IsReadingMap map (F4 input) = input ≡ Map
IsReadingMap map (F5 output) = ⊥
IsReadingMap map F6 = ⊤
IsReadingMap map (Refused refusal) = ⊥

-- what an error of reading a scenario on a grid says of its bytes
abbrev pub IsReadingAgents : Option (List ℕ) → GridMap → ℕ → Fault → Type 0
IsReadingAgents scen grid count (F1 fault) = ⊥
IsReadingAgents scen grid count (F2 fault) = IsAgentsDefect scen grid count fault
IsReadingAgents scen grid count (F3 fault) = ⊥
IsReadingAgents scen grid count (F4 input) = input ≡ Scen
IsReadingAgents scen grid count (F5 output) = ⊥
IsReadingAgents scen grid count F6 = ⊤
IsReadingAgents scen grid count (Refused refusal) = ⊥

-- what an error of a run says of its inputs. F1 and F2 say the same in every run; what F3, F4, F5 and a refusal say
-- depends on the run; out of memory says nothing
abbrev pub IsFaultOf : Option (List ℕ) → Option (List ℕ) → ℕ → (PlayFault → Type 0) → (Input → Type 0) →
    (Output → Type 0) → (CheckFault → Type 0) → Fault → Type 0
IsFaultOf map scen count Plays Reads Writes Refuses (F1 fault) = IsMapDefect map fault
IsFaultOf map scen count Plays Reads Writes Refuses (F2 fault) = IsScenarioDefect map scen count fault
IsFaultOf map scen count Plays Reads Writes Refuses (F3 fault) = Plays fault
IsFaultOf map scen count Plays Reads Writes Refuses (F4 input) = Reads input
IsFaultOf map scen count Plays Reads Writes Refuses (F5 output) = Writes output
IsFaultOf map scen count Plays Reads Writes Refuses F6 = ⊤
IsFaultOf map scen count Plays Reads Writes Refuses (Refused refusal) = Refuses refusal

-- what an error of reading a problem says
abbrev pub IsReading : Option (List ℕ) → Option (List ℕ) → ℕ → Fault → Type 0
IsReading map scen count = IsFaultOf map scen count (λ _. ⊥) IsProblemInput (λ _. ⊥) (λ _. ⊥)

-- what an error of solving says
abbrev pub IsSolving : Option (List ℕ) → Option (List ℕ) → ℕ → Fault → Type 0
IsSolving map scen count = IsFaultOf map scen count (λ _. ⊥) IsProblemInput IsOfTexts (λ _. ⊥)

-- what an error of checking says
abbrev pub IsChecking : Option (List ℕ) → Option (List ℕ) → Option (List ℕ) → Option (List ℕ) → ℕ → Fault → Type 0
IsChecking map scen plan cert count =
    IsFaultOf map scen count (λ _. ⊥) IsCheckInput (λ _. ⊥) (IsRefusalOf map scen plan cert count)

-- what an error of reading a problem and a valid plan for it says
abbrev pub IsPlanning : Option (List ℕ) → Option (List ℕ) → Option (List ℕ) → ℕ → Fault → Type 0
IsPlanning map scen plan count =
    IsFaultOf map scen count (IsPlanDefect map scen plan count) IsPlanInput (λ _. ⊥) (λ _. ⊥)

-- what an error of playing says
abbrev pub IsPlaying : Option (List ℕ) → Option (List ℕ) → Option (List ℕ) → ℕ → Fault → Type 0
IsPlaying map scen plan count =
    IsFaultOf map scen count (IsPlanDefect map scen plan count) IsPlanInput (λ output. output ≡ Out) (λ _. ⊥)

-- what an error of dispatching says
abbrev pub IsDispatching : Option (List ℕ) → Option (List ℕ) → Option (List ℕ) → Option (List ℕ) → ℕ → Fault → Type 0
IsDispatching map scen plan events count =
    IsFaultOf map scen count (IsDispatchDefect map scen plan events count) IsDispatchInput (λ output. output ≡ Out)
    (λ _. ⊥)

-- the map couldn't be read, or has a defect
abbrev pub IsOfMap : Fault → Type 0
IsOfMap (F1 fault) = ⊤
IsOfMap (F2 fault) = ⊥
IsOfMap (F3 fault) = ⊥
IsOfMap (F4 input) = input ≡ Map
IsOfMap (F5 output) = ⊥
IsOfMap F6 = ⊥
IsOfMap (Refused refusal) = ⊥

-- the map or the scenario couldn't be read, or has a defect
abbrev pub IsOfProblem : Fault → Type 0
IsOfProblem (F1 fault) = ⊤
IsOfProblem (F2 fault) = ⊤
IsOfProblem (F3 fault) = ⊥
IsOfProblem (F4 input) = IsProblemInput input
IsOfProblem (F5 output) = ⊥
IsOfProblem F6 = ⊥
IsOfProblem (Refused refusal) = ⊥

-- the map, the scenario or the plan text couldn't be read, or has a defect
abbrev pub IsOfPlan : Fault → Type 0
IsOfPlan (F1 fault) = ⊤
IsOfPlan (F2 fault) = ⊤
IsOfPlan (F3 fault) = IsOfPlanText fault
IsOfPlan (F4 input) = IsPlanInput input
IsOfPlan (F5 output) = ⊥
IsOfPlan F6 = ⊥
IsOfPlan (Refused refusal) = ⊥

-- the error comes before anything is written: it isn't one of an output
abbrev pub IsBeforeWriting : Fault → Type 0
IsBeforeWriting (F1 fault) = ⊤
IsBeforeWriting (F2 fault) = ⊤
IsBeforeWriting (F3 fault) = ⊤
IsBeforeWriting (F4 input) = ⊤
IsBeforeWriting (F5 output) = ⊥
IsBeforeWriting F6 = ⊤
IsBeforeWriting (Refused refusal) = ⊤

-- an output of the two texts that can't be written, or out of memory
abbrev pub IsOfWriting : Fault → Type 0
IsOfWriting (F1 fault) = ⊥
IsOfWriting (F2 fault) = ⊥
IsOfWriting (F3 fault) = ⊥
IsOfWriting (F4 input) = ⊥
IsOfWriting (F5 output) = IsOfTexts output
IsOfWriting F6 = ⊤
IsOfWriting (Refused refusal) = ⊥

-- what an error of a plan text that is to be followed says of it
abbrev pub IsReadingPlan : Instance → List ℕ → Fault → Type 0
IsReadingPlan problem bytes (F1 fault) = ⊥
IsReadingPlan problem bytes (F2 fault) = ⊥
IsReadingPlan problem bytes (F3 fault) = HasPlanFault problem bytes fault
IsReadingPlan problem bytes (F4 input) = ⊥
IsReadingPlan problem bytes (F5 output) = ⊥
IsReadingPlan problem bytes F6 = ⊤
IsReadingPlan problem bytes (Refused refusal) = ⊥

-- what an error of an event text of so many agents says of it
abbrev pub IsReadingEvents : Option (List ℕ) → ℕ → Fault → Type 0
IsReadingEvents events count (F1 fault) = ⊥
IsReadingEvents events count (F2 fault) = ⊥
IsReadingEvents events count (F3 fault) = HasEventsFault events count fault
IsReadingEvents events count (F4 input) = input ≡ EventText
IsReadingEvents events count (F5 output) = ⊥
IsReadingEvents events count F6 = ⊤
IsReadingEvents events count (Refused refusal) = ⊥

-- an input that can't be read, an output that can't be written, or out of memory
abbrev pub IsOfDevices : Fault → Type 0
IsOfDevices (F1 fault) = ⊥
IsOfDevices (F2 fault) = ⊥
IsOfDevices (F3 fault) = ⊥
IsOfDevices (F4 input) = ⊤
IsOfDevices (F5 output) = ⊤
IsOfDevices F6 = ⊤
IsOfDevices (Refused refusal) = ⊥

-- an input that can't be read, or out of memory
abbrev pub IsOfInput : Fault → Type 0
IsOfInput (F1 fault) = ⊥
IsOfInput (F2 fault) = ⊥
IsOfInput (F3 fault) = ⊥
IsOfInput (F4 input) = ⊤
IsOfInput (F5 output) = ⊥
IsOfInput F6 = ⊤
IsOfInput (Refused refusal) = ⊥

-- the error isn't out of memory inside an error of a plan text or of an event text
abbrev pub HasNoPlayMemory : PlayFault → Type 0
HasNoPlayMemory (Text fault) = fault ≢ plan_faults.Memory
HasNoPlayMemory NoPlan = ⊤
HasNoPlayMemory OtherCount = ⊤
HasNoPlayMemory (Invalid fault) = ⊤
HasNoPlayMemory (Events fault) = fault ≢ event_faults.Memory

-- out of memory is F6, and inside no other error
abbrev pub HasNoInnerMemory : Fault → Type 0
HasNoInnerMemory (F1 fault) = fault ≢ map_faults.Memory
HasNoInnerMemory (F2 fault) = fault ≢ scenario_faults.Memory
HasNoInnerMemory (F3 fault) = HasNoPlayMemory fault
HasNoInnerMemory (F4 input) = ⊤
HasNoInnerMemory (F5 output) = ⊤
HasNoInnerMemory F6 = ⊤
HasNoInnerMemory (Refused refusal) = HasNoCheckMemory refusal

-- a map's error as an error of a run
abbrev pub fault_of_map : MapFault → Fault
fault_of_map map_faults.Memory = F6
fault_of_map fault = F1 fault

-- a scenario's error as an error of a run
abbrev pub fault_of_scenario : ScenFault → Fault
fault_of_scenario scenario_faults.Memory = F6
fault_of_scenario fault = F2 fault

-- a plan text's error as an error of a run that follows it
abbrev pub fault_of_plan_text : PlanTextFault → Fault
fault_of_plan_text plan_faults.Memory = F6
fault_of_plan_text fault = F3 (Text fault)

-- an event text's error as an error of a run
abbrev pub fault_of_events : EventFault → Fault
fault_of_events event_faults.Memory = F6
fault_of_events fault = F3 (Events fault)
