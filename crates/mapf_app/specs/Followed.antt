-- What a run writes in which agents follow a plan while their requests come, and why it ends.
use Rattle.std.specs.Prelude.{◌≡◌, ℕ, ⊤, List, Option, Result, Ok, Err}
use Rattle.std.specs.Io.KnownBytes.{Appends, Consumes}
use Rattle.mapf_app.specs.Faults.{IsFaultOf, IsDispatchInput}
use Rattle.mapf_app.specs.Planned.{SpellsPlanned, IsPlanDefect}
use Rattle.mapf_app.specs.declared.fault.Fault.{Fault}
use Rattle.mapf_app.specs.declared.fault.Fault.TheVariants.{F1, F2, F3, F4, F5, F6, Refused}
use Rattle.mapf_app.specs.declared.fault.Input.{Input}
use Rattle.mapf_app.specs.declared.fault.Input.TheVariants.{Map, Scen, Plan, Cert, Events as EventText}
use Rattle.mapf_app.specs.declared.fault.Output.{Output}
use Rattle.mapf_app.specs.declared.fault.Output.TheVariants.{Plan as PlanText, Cert as CertText, Out}
use Rattle.mapf_app.specs.declared.fault.PlayFault.{PlayFault}
use Rattle.mapf_app.specs.declared.fault.PlayFault.TheVariants.{Text, NoPlan, OtherCount, Invalid, Events}
use Rattle.mapf_model.specs.Plan.{Instance}
use Rattle.mapf_player.specs.Dispatching.{beginning}
use Rattle.mapf_player.specs.Following.{IsAlwaysSafe, IsOutcome}
use Rattle.mapf_player.specs.Visits.{AreVisitsOfAll}
use Rattle.mapf_player.specs.declared.follow_fault.FollowFault.{FollowFault}
use Rattle.mapf_player.specs.declared.follow_fault.FollowFault.TheVariants as ends
use Rattle.mapf_player.specs.declared.visit.Visit.{Visit}

-- of the requests these bytes came, these answers were written, and the run ended so, while agents follow the valid
-- plan that the plan text spells for the problem that the map and the scenario spell. Whatever lines come, what the
-- agents are told is safe
pub record Follows {T : Type 0} (map scen plan : Option (List ℕ)) (count : ℕ) (requests left old new : Option (List ℕ))
    (end : Result T FollowFault) : Type 0 where
  pub problem : Instance
  pub paths : List (List ℕ)
  pub planned : SpellsPlanned map scen plan count problem paths
  pub visits : List (List Visit)
  pub are_visits : AreVisitsOfAll paths visits
  pub safe : IsAlwaysSafe paths visits
  pub came : List ℕ
  pub written : List ℕ
  pub consumed : Consumes requests left came
  pub wrote : Appends old new written
  pub outcome : IsOutcome problem.grid.width (beginning visits) left came written end

-- why no more requests are answered, as an error of a run
abbrev pub fault_of_end : FollowFault → Fault
fault_of_end (ends.Events fault) = F3 (Events fault)
fault_of_end ends.Requests = F4 EventText
fault_of_end ends.Replies = F5 Out

-- what an error says of a plan that is followed: if the error isn't one of the plan text, requests were answered
abbrev pub EndsPlaying : (FollowFault → Type 0) → Type 0 → PlayFault → Type 0
EndsPlaying Ends stays (Text fault) = stays
EndsPlaying Ends stays NoPlan = stays
EndsPlaying Ends stays OtherCount = stays
EndsPlaying Ends stays (Invalid fault) = stays
EndsPlaying Ends stays (Events fault) = Ends (ends.Events fault)

abbrev pub EndsReading : (FollowFault → Type 0) → Type 0 → Input → Type 0
EndsReading Ends stays Map = stays
EndsReading Ends stays Scen = stays
EndsReading Ends stays Plan = stays
EndsReading Ends stays Cert = ⊥
EndsReading Ends stays EventText = Ends ends.Requests

abbrev pub EndsWriting : (FollowFault → Type 0) → Output → Type 0
EndsWriting Ends PlanText = ⊥
EndsWriting Ends CertText = ⊥
EndsWriting Ends Out = Ends ends.Replies

-- requests were answered until the run ended, or it ended before, and all stays as it was
abbrev pub EndsFollowing : {T : Type 0} → (Result T FollowFault → Type 0) → Type 0 → Result T Fault → Type 0
EndsFollowing Ends stays (Ok done) = Ends (Ok done)
EndsFollowing Ends stays (Err (F1 fault)) = stays
EndsFollowing Ends stays (Err (F2 fault)) = stays
EndsFollowing Ends stays (Err (F3 fault)) = EndsPlaying (λ end. Ends (Err end)) stays fault
EndsFollowing Ends stays (Err (F4 input)) = EndsReading (λ end. Ends (Err end)) stays input
EndsFollowing Ends stays (Err (F5 output)) = EndsWriting (λ end. Ends (Err end)) output
EndsFollowing Ends stays (Err F6) = stays
EndsFollowing Ends stays (Err (Refused refusal)) = ⊥

-- the error isn't one of a plan text
abbrev pub IsOfEvents : PlayFault → Type 0
IsOfEvents (Text fault) = ⊥
IsOfEvents NoPlan = ⊥
IsOfEvents OtherCount = ⊥
IsOfEvents (Invalid fault) = ⊥
IsOfEvents (Events fault) = ⊤

-- an error of the requests, a device that fails, or out of memory
abbrev pub IsOfRequests : Fault → Type 0
IsOfRequests (F1 fault) = ⊥
IsOfRequests (F2 fault) = ⊥
IsOfRequests (F3 fault) = IsOfEvents fault
IsOfRequests (F4 input) = ⊤
IsOfRequests (F5 output) = ⊤
IsOfRequests F6 = ⊤
IsOfRequests (Refused refusal) = ⊥

-- what an error says of the plan text; if it is one of the requests, the plan could be followed
abbrev pub IsFollowDefect : Option (List ℕ) → Option (List ℕ) → Option (List ℕ) → ℕ → PlayFault → Type 0
IsFollowDefect map scen plan count (Text fault) = IsPlanDefect map scen plan count (Text fault)
IsFollowDefect map scen plan count NoPlan = IsPlanDefect map scen plan count NoPlan
IsFollowDefect map scen plan count OtherCount = IsPlanDefect map scen plan count OtherCount
IsFollowDefect map scen plan count (Invalid fault) = IsPlanDefect map scen plan count (Invalid fault)
IsFollowDefect map scen plan count (Events fault) =
    (problem : Instance) × (paths : List (List ℕ)) × SpellsPlanned map scen plan count problem paths

-- what an error of following says
abbrev pub IsFollowing : Option (List ℕ) → Option (List ℕ) → Option (List ℕ) → ℕ → Fault → Type 0
IsFollowing map scen plan count =
    IsFaultOf map scen count (IsFollowDefect map scen plan count) IsDispatchInput (λ output. output ≡ Out) (λ _. ⊥)
