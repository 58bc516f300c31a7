-- The line of each error: words, and numbers in decimal, separated by single blanks.
use Rattle.std.specs.Prelude.{◌++◌, ◌∷◌, [], ℕ, List, codes}
use Rattle.std.specs.Fmt.{decimal}
use Rattle.mapf_app.specs.declared.fault.Fault.{Fault}
use Rattle.mapf_app.specs.declared.fault.Fault.TheVariants.{F1, F2, F3, F4, F5, F6, Refused}
use Rattle.mapf_app.specs.declared.fault.Input.{Input}
use Rattle.mapf_app.specs.declared.fault.Input.TheVariants.{Map, Scen, Plan, Cert, Events}
use Rattle.mapf_app.specs.declared.fault.Output.{Output}
use Rattle.mapf_app.specs.declared.fault.Output.TheVariants.{Plan as PlanText, Cert as CertText, Out}
use Rattle.mapf_app.specs.declared.fault.PlayFault.{PlayFault}
use Rattle.mapf_app.specs.declared.fault.PlayFault.TheVariants.{Text, NoPlan, OtherCount, Invalid, Events as EventText}
use Rattle.mapf_certificate.specs.declared.cert.CertFault.{CertFault}
use Rattle.mapf_certificate.specs.declared.cert.CertFault.TheVariants as certs
use Rattle.mapf_certificate.specs.declared.plan_text.PlanTextFault.{PlanTextFault}
use Rattle.mapf_certificate.specs.declared.plan_text.PlanTextFault.TheVariants as plans
use Rattle.mapf_checker.specs.declared.fault.CheckFault.{CheckFault}
use Rattle.mapf_checker.specs.declared.fault.CheckFault.TheVariants as checks
use Rattle.mapf_checker.specs.declared.plan_fault.PlanFault.{PlanFault}
use Rattle.mapf_checker.specs.declared.plan_fault.PlanFault.TheVariants.{V1, V2, V3, V4, V5}
use Rattle.mapf_player.specs.declared.events.EventFault.{EventFault}
use Rattle.mapf_player.specs.declared.events.EventFault.TheVariants as events
use Rattle.mapf_text.specs.declared.map_fault.MapFault.{MapFault}
use Rattle.mapf_text.specs.declared.map_fault.MapFault.TheVariants as maps
use Rattle.mapf_text.specs.declared.scenario_fault.ScenFault.{ScenFault}
use Rattle.mapf_text.specs.declared.scenario_fault.ScenFault.TheVariants as scenarios

-- numbers, a blank before each, and LF
abbrev pub numbers : List ℕ → List ℕ
numbers [] = 10 ∷ []
numbers (n ∷ rest) = (32 ∷ decimal n) ++ numbers rest

-- out of memory
abbrev pub memory_line : List ℕ
memory_line = codes "F6" ++ numbers []

-- the line of a map's error
abbrev pub map_fault_line : MapFault → List ℕ
map_fault_line maps.M1 = codes "F1 M1" ++ numbers []
map_fault_line maps.M2 = codes "F1 M2" ++ numbers []
map_fault_line maps.M3 = codes "F1 M3" ++ numbers []
map_fault_line (maps.M4 line) = codes "F1 M4" ++ numbers (line ∷ [])
map_fault_line maps.M5 = codes "F1 M5" ++ numbers []
map_fault_line (maps.M6 row) = codes "F1 M6" ++ numbers (row ∷ [])
map_fault_line (maps.M7 x y) = codes "F1 M7" ++ numbers (x ∷ y ∷ [])
map_fault_line (maps.M8 rows) = codes "F1 M8" ++ numbers (rows ∷ [])
map_fault_line (maps.M9 line) = codes "F1 M9" ++ numbers (line ∷ [])
map_fault_line maps.Memory = memory_line

-- the line of a scenario's error
abbrev pub scenario_fault_line : ScenFault → List ℕ
scenario_fault_line scenarios.S1 = codes "F2 S1" ++ numbers []
scenario_fault_line (scenarios.S2 row) = codes "F2 S2" ++ numbers (row ∷ [])
scenario_fault_line (scenarios.S3 row field) = codes "F2 S3" ++ numbers (row ∷ field ∷ [])
scenario_fault_line (scenarios.S4 row) = codes "F2 S4" ++ numbers (row ∷ [])
scenario_fault_line (scenarios.S5 row) = codes "F2 S5" ++ numbers (row ∷ [])
scenario_fault_line (scenarios.S6 row) = codes "F2 S6" ++ numbers (row ∷ [])
scenario_fault_line (scenarios.S7 rows) = codes "F2 S7" ++ numbers (rows ∷ [])
scenario_fault_line scenarios.Memory = memory_line

-- the line of a plan text's error, after these words
abbrev pub plan_text_fault_line : List ℕ → PlanTextFault → List ℕ
plan_text_fault_line words (plans.P1 line) = words ++ (codes " P1" ++ numbers (line ∷ []))
plan_text_fault_line words (plans.P2 line) = words ++ (codes " P2" ++ numbers (line ∷ []))
plan_text_fault_line words (plans.P3 line) = words ++ (codes " P3" ++ numbers (line ∷ []))
plan_text_fault_line words (plans.P4 line) = words ++ (codes " P4" ++ numbers (line ∷ []))
plan_text_fault_line words plans.Memory = memory_line

-- the line of a certificate's error
abbrev pub cert_fault_line : CertFault → List ℕ
cert_fault_line (certs.K1 line) = codes "refused C2 K1" ++ numbers (line ∷ [])
cert_fault_line (certs.K2 line) = codes "refused C2 K2" ++ numbers (line ∷ [])
cert_fault_line (certs.K3 line) = codes "refused C2 K3" ++ numbers (line ∷ [])
cert_fault_line (certs.K4 line) = codes "refused C2 K4" ++ numbers (line ∷ [])
cert_fault_line certs.Memory = memory_line

-- the line of an error of a plan, after these words
abbrev pub plan_fault_line : List ℕ → PlanFault → List ℕ
plan_fault_line words (V1 agent) = words ++ (codes " V1" ++ numbers (agent ∷ []))
plan_fault_line words (V2 agent tick) = words ++ (codes " V2" ++ numbers (agent ∷ tick ∷ []))
plan_fault_line words (V3 agent) = words ++ (codes " V3" ++ numbers (agent ∷ []))
plan_fault_line words (V4 i j tick) = words ++ (codes " V4" ++ numbers (i ∷ j ∷ tick ∷ []))
plan_fault_line words (V5 i j tick) = words ++ (codes " V5" ++ numbers (i ∷ j ∷ tick ∷ []))

-- the line of a refusal
abbrev pub refusal_line : CheckFault → List ℕ
refusal_line (checks.C1 fault) = plan_text_fault_line (codes "refused C1") fault
refusal_line (checks.C2 fault) = cert_fault_line fault
refusal_line checks.C3 = codes "refused C3" ++ numbers []
refusal_line checks.C4 = codes "refused C4" ++ numbers []
refusal_line (checks.C5 fault) = plan_fault_line (codes "refused C5") fault
refusal_line (checks.C6 line) = codes "refused C6" ++ numbers (line ∷ [])
refusal_line (checks.C7 line) = codes "refused C7" ++ numbers (line ∷ [])
refusal_line (checks.C8 line) = codes "refused C8" ++ numbers (line ∷ [])
refusal_line (checks.C9 line) = codes "refused C9" ++ numbers (line ∷ [])
refusal_line (checks.C10 line) = codes "refused C10" ++ numbers (line ∷ [])
refusal_line checks.Memory = memory_line

-- the line of an error of the events
abbrev pub event_fault_line : EventFault → List ℕ
event_fault_line (events.E1 line) = codes "F3 E1" ++ numbers (line ∷ [])
event_fault_line (events.E2 line) = codes "F3 E2" ++ numbers (line ∷ [])
event_fault_line (events.E3 line) = codes "F3 E3" ++ numbers (line ∷ [])
event_fault_line (events.E4 line) = codes "F3 E4" ++ numbers (line ∷ [])
event_fault_line events.Memory = memory_line

-- the line of a plan that can't be played or followed, or of events that can't be read
abbrev pub play_fault_line : PlayFault → List ℕ
play_fault_line (Text fault) = plan_text_fault_line (codes "F3") fault
play_fault_line NoPlan = codes "F3 none" ++ numbers []
play_fault_line OtherCount = codes "F3 count" ++ numbers []
play_fault_line (Invalid fault) = plan_fault_line (codes "F3") fault
play_fault_line (EventText fault) = event_fault_line fault

-- the line of an input that couldn't be read
abbrev pub input_line : Input → List ℕ
input_line Map = codes "F4 map" ++ numbers []
input_line Scen = codes "F4 scen" ++ numbers []
input_line Plan = codes "F4 plan" ++ numbers []
input_line Cert = codes "F4 cert" ++ numbers []
input_line Events = codes "F4 events" ++ numbers []

-- the line of an output that couldn't be written
abbrev pub output_line : Output → List ℕ
output_line PlanText = codes "F5 plan" ++ numbers []
output_line CertText = codes "F5 cert" ++ numbers []
output_line Out = codes "F5 out" ++ numbers []

-- the line of an error
abbrev pub fault_line : Fault → List ℕ
fault_line (F1 fault) = map_fault_line fault
fault_line (F2 fault) = scenario_fault_line fault
fault_line (F3 fault) = play_fault_line fault
fault_line (F4 input) = input_line input
fault_line (F5 output) = output_line output
fault_line F6 = memory_line
fault_line (Refused refusal) = refusal_line refusal
