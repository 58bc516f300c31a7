-- The numbers of each error and of each refusal. (own)
use Rattle.std.specs.Prelude.{ℕ}
use Rattle.mapf_app.specs.declared.fault.Fault.{Fault}
use Rattle.mapf_app.specs.declared.fault.Fault.TheVariants.{F1, F2, F3, F4, F5, F6, Refused}
use Rattle.mapf_app.specs.declared.fault.Input.{Input}
use Rattle.mapf_app.specs.declared.fault.Input.TheVariants.{Map, Scen, Plan, Cert, Events}
use Rattle.mapf_app.specs.declared.fault.PlayFault.{PlayFault}
use Rattle.mapf_app.specs.declared.fault.PlayFault.TheVariants as plays
use Rattle.mapf_c.specs.declared.numbers.FaultNumbers.{FaultNumbers}
use Rattle.mapf_certificate.specs.declared.cert.CertFault.{CertFault}
use Rattle.mapf_certificate.specs.declared.cert.CertFault.TheVariants as certs
use Rattle.mapf_certificate.specs.declared.plan_text.PlanTextFault.{PlanTextFault}
use Rattle.mapf_certificate.specs.declared.plan_text.PlanTextFault.TheVariants as plans
use Rattle.mapf_checker.specs.declared.fault.CheckFault.{CheckFault}
use Rattle.mapf_checker.specs.declared.fault.CheckFault.TheVariants as checks
use Rattle.mapf_checker.specs.declared.plan_fault.PlanFault.{PlanFault}
use Rattle.mapf_checker.specs.declared.plan_fault.PlanFault.TheVariants.{V1, V2, V3, V4, V5}
use Rattle.mapf_text.specs.declared.map_fault.MapFault.{MapFault}
use Rattle.mapf_text.specs.declared.map_fault.MapFault.TheVariants as maps
use Rattle.mapf_text.specs.declared.scenario_fault.ScenFault.{ScenFault}
use Rattle.mapf_text.specs.declared.scenario_fault.ScenFault.TheVariants as scenarios

-- an error with a defect inside it, or 0, and without numbers
abbrev pub bare : ℕ → ℕ → FaultNumbers
bare error defect = record { error = error; defect = defect; count = 0; first = 0; second = 0; third = 0 }

-- the same with one number
abbrev pub one : ℕ → ℕ → ℕ → FaultNumbers
one error defect first =
    record { error = error; defect = defect; count = 1; first = first; second = 0; third = 0 }

-- the same with two numbers
abbrev pub two : ℕ → ℕ → ℕ → ℕ → FaultNumbers
two error defect first second =
    record { error = error; defect = defect; count = 2; first = first; second = second; third = 0 }

-- the same with three numbers
abbrev pub three : ℕ → ℕ → ℕ → ℕ → ℕ → FaultNumbers
three error defect first second third =
    record { error = error; defect = defect; count = 3; first = first; second = second; third = third }

-- no error
abbrev pub none : FaultNumbers
none = bare 0 0

-- a number of the caller's is out of its range
abbrev pub out_of_range : FaultNumbers
out_of_range = bare 10 0

-- the numbers of a map's error
abbrev pub map_numbers : MapFault → FaultNumbers
map_numbers maps.M1 = bare 1 101
map_numbers maps.M2 = bare 1 102
map_numbers maps.M3 = bare 1 103
map_numbers (maps.M4 line) = one 1 104 line
map_numbers maps.M5 = bare 1 105
map_numbers (maps.M6 row) = one 1 106 row
map_numbers (maps.M7 x y) = two 1 107 x y
map_numbers (maps.M8 rows) = one 1 108 rows
map_numbers (maps.M9 line) = one 1 109 line
map_numbers maps.Memory = bare 6 0

-- the numbers of a scenario's error
abbrev pub scenario_numbers : ScenFault → FaultNumbers
scenario_numbers scenarios.S1 = bare 2 201
scenario_numbers (scenarios.S2 row) = one 2 202 row
scenario_numbers (scenarios.S3 row field) = two 2 203 row field
scenario_numbers (scenarios.S4 row) = one 2 204 row
scenario_numbers (scenarios.S5 row) = one 2 205 row
scenario_numbers (scenarios.S6 row) = one 2 206 row
scenario_numbers (scenarios.S7 rows) = one 2 207 rows
scenario_numbers scenarios.Memory = bare 6 0

-- the numbers of a plan text's error, inside this one
abbrev pub plan_text_numbers : ℕ → PlanTextFault → FaultNumbers
plan_text_numbers error (plans.P1 line) = one error 301 line
plan_text_numbers error (plans.P2 line) = one error 302 line
plan_text_numbers error (plans.P3 line) = one error 303 line
plan_text_numbers error (plans.P4 line) = one error 304 line
plan_text_numbers error plans.Memory = bare 6 0

-- the numbers of a certificate's error
abbrev pub cert_numbers : CertFault → FaultNumbers
cert_numbers (certs.K1 line) = one 12 401 line
cert_numbers (certs.K2 line) = one 12 402 line
cert_numbers (certs.K3 line) = one 12 403 line
cert_numbers (certs.K4 line) = one 12 404 line
cert_numbers certs.Memory = bare 6 0

-- the numbers of a plan's error, inside this one: the agents before the tick
abbrev pub plan_numbers : ℕ → PlanFault → FaultNumbers
plan_numbers error (V1 agent) = one error 501 agent
plan_numbers error (V2 agent tick) = two error 502 agent tick
plan_numbers error (V3 agent) = one error 503 agent
plan_numbers error (V4 i j tick) = three error 504 i j tick
plan_numbers error (V5 i j tick) = three error 505 i j tick

-- the numbers of a refusal
abbrev pub refusal_numbers : CheckFault → FaultNumbers
refusal_numbers (checks.C1 fault) = plan_text_numbers 11 fault
refusal_numbers (checks.C2 fault) = cert_numbers fault
refusal_numbers checks.C3 = bare 13 0
refusal_numbers checks.C4 = bare 14 0
refusal_numbers (checks.C5 fault) = plan_numbers 15 fault
refusal_numbers (checks.C6 line) = one 16 0 line
refusal_numbers (checks.C7 line) = one 17 0 line
refusal_numbers (checks.C8 line) = one 18 0 line
refusal_numbers (checks.C9 line) = one 19 0 line
refusal_numbers (checks.C10 line) = one 20 0 line
refusal_numbers checks.Memory = bare 6 0

-- the numbers of the error of a plan that can't be followed; of an error of events, which no call reads, there are none
abbrev pub play_numbers : PlayFault → FaultNumbers
play_numbers (plays.Text fault) = plan_text_numbers 3 fault
play_numbers plays.NoPlan = bare 3 605
play_numbers plays.OtherCount = bare 3 606
play_numbers (plays.Invalid fault) = plan_numbers 3 fault
play_numbers (plays.Events fault) = bare 3 0

-- the numbers of the error of a text that can't be read
abbrev pub input_numbers : Input → FaultNumbers
input_numbers Map = bare 4 601
input_numbers Scen = bare 4 602
input_numbers Plan = bare 4 603
input_numbers Cert = bare 4 604
input_numbers Events = bare 4 0

-- the numbers of an error of a run, or of a refusal. A text is written to memory, so it can't be written where there is
-- none
abbrev pub fault_numbers : Fault → FaultNumbers
fault_numbers (F1 fault) = map_numbers fault
fault_numbers (F2 fault) = scenario_numbers fault
fault_numbers (F3 fault) = play_numbers fault
fault_numbers (F4 input) = input_numbers input
fault_numbers (F5 output) = bare 6 0
fault_numbers F6 = bare 6 0
fault_numbers (Refused refusal) = refusal_numbers refusal
