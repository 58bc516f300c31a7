-- The objects that tell the errors of `solve` and `check`, and the refusals of `check`. (own)
use Rattle.std.specs.Prelude.{◌∷◌, [], ℕ, List, codes}
use Rattle.mapf_app.specs.declared.fault.Fault.{Fault}
use Rattle.mapf_app.specs.declared.fault.Fault.TheVariants.{F1, F2, F3, F4, F5, F6, Refused}
use Rattle.mapf_app.specs.declared.fault.Input.{Input}
use Rattle.mapf_app.specs.declared.fault.Input.TheVariants.{Map, Scen, Plan, Cert, Events}
use Rattle.mapf_app.specs.declared.fault.Output.{Output}
use Rattle.mapf_app.specs.declared.fault.Output.TheVariants.{Plan as PlanText, Cert as CertText, Out}
use Rattle.mapf_certificate.specs.declared.cert.CertFault.{CertFault}
use Rattle.mapf_certificate.specs.declared.cert.CertFault.TheVariants as certs
use Rattle.mapf_certificate.specs.declared.plan_text.PlanTextFault.{PlanTextFault}
use Rattle.mapf_certificate.specs.declared.plan_text.PlanTextFault.TheVariants as plans
use Rattle.mapf_checker.specs.declared.fault.CheckFault.{CheckFault}
use Rattle.mapf_checker.specs.declared.fault.CheckFault.TheVariants as checks
use Rattle.mapf_checker.specs.declared.plan_fault.PlanFault.{PlanFault}
use Rattle.mapf_checker.specs.declared.plan_fault.PlanFault.TheVariants.{V1, V2, V3, V4, V5}
use Rattle.mapf_json.specs.Objects.{number, object, word}
use Rattle.mapf_text.specs.declared.map_fault.MapFault.{MapFault}
use Rattle.mapf_text.specs.declared.map_fault.MapFault.TheVariants as maps
use Rattle.mapf_text.specs.declared.scenario_fault.ScenFault.{ScenFault}
use Rattle.mapf_text.specs.declared.scenario_fault.ScenFault.TheVariants as scenarios

-- the file that is meant, by the word of its argument
abbrev pub of_file : List ℕ → List ℕ
of_file file = word (codes "file") file

-- a line of this file, counted from 1
abbrev pub of_line : ℕ → List ℕ
of_line line = number (codes "line") line

-- a row of the grid or of the scenario, counted from 0
abbrev pub of_row : ℕ → List ℕ
of_row row = number (codes "row") row

-- how many rows there are
abbrev pub of_rows : ℕ → List ℕ
of_rows rows = number (codes "rows") rows

-- an agent, counted from 0
abbrev pub of_agent : ℕ → List ℕ
of_agent agent = number (codes "agent") agent

-- the other agent of a conflict, which is the greater one
abbrev pub of_other : ℕ → List ℕ
of_other agent = number (codes "other") agent

-- a tick
abbrev pub of_tick : ℕ → List ℕ
of_tick tick = number (codes "tick") tick

-- the object of an error with these further members
abbrev pub fault_with : List ℕ → List (List ℕ) → List ℕ
fault_with fault rest = object (codes "fault") (word (codes "fault") fault ∷ rest)

-- the object of an error inside a file, with its numbers
abbrev pub fault_in : (fault error file : List ℕ) → List (List ℕ) → List ℕ
fault_in fault error file numbers = fault_with fault (word (codes "error") error ∷ of_file file ∷ numbers)

-- out of memory
abbrev pub memory_object : List ℕ
memory_object = fault_with (codes "F6") []

-- an error of the map, with its numbers
abbrev pub map_error : List ℕ → List (List ℕ) → List ℕ
map_error error numbers = fault_in (codes "F1") error (codes "map") numbers

-- the object of a map's error
abbrev pub map_object : MapFault → List ℕ
map_object maps.M1 = map_error (codes "M1") []
map_object maps.M2 = map_error (codes "M2") []
map_object maps.M3 = map_error (codes "M3") []
map_object (maps.M4 line) = map_error (codes "M4") (of_line line ∷ [])
map_object maps.M5 = map_error (codes "M5") []
map_object (maps.M6 row) = map_error (codes "M6") (of_row row ∷ [])
map_object (maps.M7 x y) = map_error (codes "M7") (number (codes "column") x ∷ of_row y ∷ [])
map_object (maps.M8 rows) = map_error (codes "M8") (of_rows rows ∷ [])
map_object (maps.M9 line) = map_error (codes "M9") (of_line line ∷ [])
map_object maps.Memory = memory_object

-- an error of the scenario, with its numbers
abbrev pub scenario_error : List ℕ → List (List ℕ) → List ℕ
scenario_error error numbers = fault_in (codes "F2") error (codes "scen") numbers

-- the object of a scenario's error
abbrev pub scenario_object : ScenFault → List ℕ
scenario_object scenarios.S1 = scenario_error (codes "S1") []
scenario_object (scenarios.S2 row) = scenario_error (codes "S2") (of_row row ∷ [])
scenario_object (scenarios.S3 row field) =
    scenario_error (codes "S3") (of_row row ∷ number (codes "field") field ∷ [])
scenario_object (scenarios.S4 row) = scenario_error (codes "S4") (of_row row ∷ [])
scenario_object (scenarios.S5 row) = scenario_error (codes "S5") (of_row row ∷ [])
scenario_object (scenarios.S6 row) = scenario_error (codes "S6") (of_row row ∷ [])
scenario_object (scenarios.S7 rows) = scenario_error (codes "S7") (of_rows rows ∷ [])
scenario_object scenarios.Memory = memory_object

-- the object of an input that couldn't be read
abbrev pub input_object : Input → List ℕ
input_object Map = fault_with (codes "F4") (of_file (codes "map") ∷ [])
input_object Scen = fault_with (codes "F4") (of_file (codes "scen") ∷ [])
input_object Plan = fault_with (codes "F4") (of_file (codes "plan") ∷ [])
input_object Cert = fault_with (codes "F4") (of_file (codes "cert") ∷ [])
input_object Events = fault_with (codes "F4") (of_file (codes "events") ∷ [])

-- the object of an output that couldn't be written
abbrev pub output_object : Output → List ℕ
output_object PlanText = fault_with (codes "F5") (of_file (codes "plan") ∷ [])
output_object CertText = fault_with (codes "F5") (of_file (codes "cert") ∷ [])
output_object Out = fault_with (codes "F5") (of_file (codes "out") ∷ [])

-- the object of a refusal with these further members
abbrev pub refused_with : List ℕ → List (List ℕ) → List ℕ
refused_with refusal rest = object (codes "refused") (word (codes "refusal") refusal ∷ rest)

-- the object of a refusal for an error inside a file, with its numbers
abbrev pub refused_in : (refusal error file : List ℕ) → List (List ℕ) → List ℕ
refused_in refusal error file numbers = refused_with refusal (word (codes "error") error ∷ of_file file ∷ numbers)

-- the object of a plan text's error
abbrev pub plan_text_object : PlanTextFault → List ℕ
plan_text_object (plans.P1 line) = refused_in (codes "C1") (codes "P1") (codes "plan") (of_line line ∷ [])
plan_text_object (plans.P2 line) = refused_in (codes "C1") (codes "P2") (codes "plan") (of_line line ∷ [])
plan_text_object (plans.P3 line) = refused_in (codes "C1") (codes "P3") (codes "plan") (of_line line ∷ [])
plan_text_object (plans.P4 line) = refused_in (codes "C1") (codes "P4") (codes "plan") (of_line line ∷ [])
plan_text_object plans.Memory = memory_object

-- the object of a certificate's error
abbrev pub cert_object : CertFault → List ℕ
cert_object (certs.K1 line) = refused_in (codes "C2") (codes "K1") (codes "cert") (of_line line ∷ [])
cert_object (certs.K2 line) = refused_in (codes "C2") (codes "K2") (codes "cert") (of_line line ∷ [])
cert_object (certs.K3 line) = refused_in (codes "C2") (codes "K3") (codes "cert") (of_line line ∷ [])
cert_object (certs.K4 line) = refused_in (codes "C2") (codes "K4") (codes "cert") (of_line line ∷ [])
cert_object certs.Memory = memory_object

-- an error of a plan, with its numbers
abbrev pub plan_error : List ℕ → List (List ℕ) → List ℕ
plan_error error numbers = refused_in (codes "C5") error (codes "plan") numbers

-- the object of a plan's error
abbrev pub plan_object : PlanFault → List ℕ
plan_object (V1 agent) = plan_error (codes "V1") (of_agent agent ∷ [])
plan_object (V2 agent tick) = plan_error (codes "V2") (of_agent agent ∷ of_tick tick ∷ [])
plan_object (V3 agent) = plan_error (codes "V3") (of_agent agent ∷ [])
plan_object (V4 i j tick) = plan_error (codes "V4") (of_agent i ∷ of_other j ∷ of_tick tick ∷ [])
plan_object (V5 i j tick) = plan_error (codes "V5") (of_agent i ∷ of_other j ∷ of_tick tick ∷ [])

-- a refusal for what a line of the certificate says
abbrev pub refused_at : List ℕ → ℕ → List ℕ
refused_at refusal line = refused_with refusal (of_file (codes "cert") ∷ of_line line ∷ [])

-- the object of a refusal
abbrev pub refusal_object : CheckFault → List ℕ
refusal_object (checks.C1 fault) = plan_text_object fault
refusal_object (checks.C2 fault) = cert_object fault
refusal_object checks.C3 = refused_with (codes "C3") []
refusal_object checks.C4 = refused_with (codes "C4") []
refusal_object (checks.C5 fault) = plan_object fault
refusal_object (checks.C6 line) = refused_at (codes "C6") line
refusal_object (checks.C7 line) = refused_at (codes "C7") line
refusal_object (checks.C8 line) = refused_at (codes "C8") line
refusal_object (checks.C9 line) = refused_at (codes "C9") line
refusal_object (checks.C10 line) = refused_at (codes "C10") line
refusal_object checks.Memory = memory_object

-- the object of an error or of a refusal; of F3, which neither `solve` nor `check` reports, it has no details
abbrev pub fault_object : Fault → List ℕ
fault_object (F1 fault) = map_object fault
fault_object (F2 fault) = scenario_object fault
fault_object (F3 fault) = fault_with (codes "F3") []
fault_object (F4 input) = input_object input
fault_object (F5 output) = output_object output
fault_object F6 = memory_object
fault_object (Refused refusal) = refusal_object refusal
