-- What a run that dispatches agents writes, and why it has no reply to an event text.
use Rattle.std.specs.Prelude.{◌≡◌, ◌≢◌, ℕ, List, Option, Some, IfSome}
use Rattle.std.specs.Io.KnownBytes.{Appends}
use Rattle.mapf_app.specs.Planned.{SpellsPlanned, IsDuePlan, IsPlanDefect}
use Rattle.mapf_app.specs.declared.fault.PlayFault.{PlayFault}
use Rattle.mapf_app.specs.declared.fault.PlayFault.TheVariants.{Text, NoPlan, OtherCount, Invalid, Events}
use Rattle.mapf_model.specs.Plan.{Instance}
use Rattle.mapf_player.specs.Events.{SpellsEvents, HasEventFault}
use Rattle.mapf_player.specs.Replies.{IsReplyText}
use Rattle.mapf_player.specs.declared.events.EventFault.TheVariants as event_faults

-- the text holds the replies to the agents that ask, in the order of the events that the event text spells, while all
-- follow the valid plan that the plan text spells for the problem that the map and the scenario spell
pub record DispatchesTruly (map scen plan events : Option (List ℕ)) (count : ℕ) (text : List ℕ) : Type 0 where
  pub problem : Instance
  pub paths : List (List ℕ)
  pub planned : SpellsPlanned map scen plan count problem paths
  pub agents : List ℕ
  pub asked : IfSome events (λ event_text. SpellsEvents event_text count agents)
  pub replied : IsReplyText problem.grid.width paths agents text

-- the bytes of all inputs are known, the plan text spells the valid plan for the problem that the map and the scenario
-- spell, and the event text spells the agents that ask
pub record IsDueDispatch (map scen plan events : Option (List ℕ)) (count : ℕ) (problem : Instance)
    (paths : List (List ℕ)) (agents : List ℕ) : Type 0 where
  pub planned : IsDuePlan map scen plan count problem paths
  pub event_text : List ℕ
  pub events_told : events ≡ Some event_text
  pub asked : SpellsEvents event_text count agents

-- the replies to these agents, which ask one after another while all follow the plan, were written
abbrev pub ShowsReplies : Instance → List (List ℕ) → List ℕ → Option (List ℕ) → Option (List ℕ) → Type 0
ShowsReplies problem paths agents old new =
    (text : List ℕ) × IsReplyText problem.grid.width paths agents text × Appends old new text

-- what an error says of the event text: it spells no events of so many agents, and the error's defect is in its line.
-- An error of the plan text isn't one of an event text
abbrev pub HasEventsFault : Option (List ℕ) → ℕ → PlayFault → Type 0
HasEventsFault events count (Text fault) = ⊥
HasEventsFault events count NoPlan = ⊥
HasEventsFault events count OtherCount = ⊥
HasEventsFault events count (Invalid fault) = ⊥
HasEventsFault events count (Events fault) =
    (fault ≢ event_faults.Memory) × IfSome events (λ event_text.
    ((agents : List ℕ) → SpellsEvents event_text count agents → ⊥) × HasEventFault event_text count fault)

-- what the error says is true of the event text, and the plan text spells a valid plan for the problem that the map and
-- the scenario spell
pub record IsEventsDefect (map scen plan events : Option (List ℕ)) (count : ℕ) (fault : PlayFault) : Type 0 where
  pub problem : Instance
  pub paths : List (List ℕ)
  pub planned : SpellsPlanned map scen plan count problem paths
  pub defect : HasEventsFault events count fault

-- what an error says of the plan text or of the event text
abbrev pub IsDispatchDefect : Option (List ℕ) → Option (List ℕ) → Option (List ℕ) → Option (List ℕ) → ℕ → PlayFault →
    Type 0
IsDispatchDefect map scen plan events count (Text fault) = IsPlanDefect map scen plan count (Text fault)
IsDispatchDefect map scen plan events count NoPlan = IsPlanDefect map scen plan count NoPlan
IsDispatchDefect map scen plan events count OtherCount = IsPlanDefect map scen plan count OtherCount
IsDispatchDefect map scen plan events count (Invalid fault) = IsPlanDefect map scen plan count (Invalid fault)
IsDispatchDefect map scen plan events count (Events fault) = IsEventsDefect map scen plan events count (Events fault)
