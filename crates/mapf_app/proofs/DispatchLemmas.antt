-- From the events that are read to what is answered.
use Rattle.std.proofs.Common.{◌≡◌, ◌⊎◌, ℕ, List, Option, Result, Err, IfSome, ⊎_elim, ◌∙◌, refl, sym, subst}
use Rattle.mapf_app.proofs.InputLemmas.{told}
use Rattle.mapf_app.specs.Dispatched.{IsDispatchDefect, HasEventsFault}
use Rattle.mapf_app.specs.Faults.{IsDispatching, IsDispatchInput, IsOfInput, IsOfMap, IsPlanInput, IsPlanning, IsProblemInput, IsReadingEvents, fault_of_events}
use Rattle.mapf_app.specs.Planned.{IsPlanDefect, SpellsPlanned}
use Rattle.mapf_app.specs.declared.fault.Fault.{Fault}
use Rattle.mapf_app.specs.declared.fault.Fault.TheVariants.{F1, F2, F3, F4, F5, F6, Refused}
use Rattle.mapf_app.specs.declared.fault.Input.{Input}
use Rattle.mapf_app.specs.declared.fault.Input.TheVariants.{Map, Scen, Plan, Cert, Events as EventText}
use Rattle.mapf_app.specs.declared.fault.PlayFault.{PlayFault}
use Rattle.mapf_app.specs.declared.fault.PlayFault.TheVariants.{Text, NoPlan, OtherCount, Invalid, Events}
use Rattle.mapf_model.specs.Plan.{Instance}
use Rattle.mapf_player.specs.Dispatching.{AreReplies, Progress, beginning}
use Rattle.mapf_player.specs.Events.{SpellsEvents, HasEventFault}
use Rattle.mapf_player.specs.Replies.{IsReplyText, reply_text}
use Rattle.mapf_player.specs.Visits.{AreVisitsOfAll}
use Rattle.mapf_player.specs.declared.reply.Reply.{Reply}
use Rattle.mapf_player.specs.declared.events.EventFault.{EventFault}
use Rattle.mapf_player.specs.declared.events.EventFault.TheVariants.{E1, E2, E3, E4, Memory}

-- where events are spelled, only memory prevents that they are read
pub only_memory : {T : Type 0} (fault : EventFault) → ⊥ ⊎ ◌≡◌ {A = Result T EventFault} (Err fault) (Err Memory) → fault ≡ Memory
only_memory fault either = ⊎_elim (λ none. absurd none) (λ e. cc) either

pub memory_is_input : (fault : EventFault) → fault ≡ Memory → IsOfInput (fault_of_events fault)
memory_is_input fault is = subst (λ f. IsOfInput (fault_of_events f)) (sym is) tt

-- an error of the event text that was read is one of the bytes that its source reports
module _ (events : Option (List ℕ)) (count : ℕ) (text : List ℕ) (same : IfSome events (λ bytes. text ≡ bytes)) where
  unspelled : (fault : EventFault) → ((agents : List ℕ) → SpellsEvents text count agents → fault ≡ Memory) → HasEventFault text count fault → (fault ≡ Memory → ⊥) → HasEventsFault events count (Events fault)
  unspelled fault none has differ = (
    differ,
    told (λ bytes. ((agents : List ℕ) → SpellsEvents bytes count agents → ⊥) × HasEventFault bytes count fault) events text same
        (λ agents spells. differ (none agents spells), has),
  )

  pub events_fault_told : (fault : EventFault) → ((agents : List ℕ) → SpellsEvents text count agents → fault ≡ Memory) → HasEventFault text count fault → IsReadingEvents events count (fault_of_events fault)
  events_fault_told Memory none has = tt
  events_fault_told (E1 line) none has = unspelled (E1 line) none has (λ e. cc)
  events_fault_told (E2 line) none has = unspelled (E2 line) none has (λ e. cc)
  events_fault_told (E3 line) none has = unspelled (E3 line) none has (λ e. cc)
  events_fault_told (E4 line) none has = unspelled (E4 line) none has (λ e. cc)

-- what an error of the inputs says holds of a run in which agents follow a plan
module _ (map scen plan events : Option (List ℕ)) (count : ℕ) where
  plan_defect : (fault : PlayFault) → IsPlanDefect map scen plan count fault → IsDispatchDefect map scen plan events count fault
  plan_defect (Text fault) defect = defect
  plan_defect NoPlan defect = defect
  plan_defect OtherCount defect = defect
  plan_defect (Invalid fault) defect = defect
  plan_defect (Events fault) defect = absurd defect.of_plan

  plan_input : (input : Input) → IsPlanInput input → IsDispatchInput input
  plan_input Map is = tt
  plan_input Scen is = tt
  plan_input Plan is = tt
  plan_input Cert is = absurd is
  plan_input EventText is = tt

  pub plan_fault : (fault : Fault) → IsPlanning map scen plan count fault → IsDispatching map scen plan events count fault
  plan_fault (F1 fault) says = says
  plan_fault (F2 fault) says = says
  plan_fault (F3 fault) says = plan_defect fault says
  plan_fault (F4 input) says = plan_input input says
  plan_fault (F5 output) says = absurd says
  plan_fault F6 says = tt
  plan_fault (Refused refusal) says = absurd says

  events_defect : (problem : Instance) (paths : List (List ℕ)) → SpellsPlanned map scen plan count problem paths → (fault : PlayFault) → HasEventsFault events count fault → IsDispatchDefect map scen plan events count fault
  events_defect problem paths planned (Text fault) says = absurd says
  events_defect problem paths planned NoPlan says = absurd says
  events_defect problem paths planned OtherCount says = absurd says
  events_defect problem paths planned (Invalid fault) says = absurd says
  events_defect problem paths planned (Events fault) says = record { problem = problem; paths = paths; planned = planned; defect = says }

  pub events_fault : (problem : Instance) (paths : List (List ℕ)) → SpellsPlanned map scen plan count problem paths → (fault : Fault) → IsReadingEvents events count fault → IsDispatching map scen plan events count fault
  events_fault problem paths planned (F1 fault) says = absurd says
  events_fault problem paths planned (F2 fault) says = absurd says
  events_fault problem paths planned (F3 fault) says = events_defect problem paths planned fault says
  events_fault problem paths planned (F4 input) says = subst IsDispatchInput (sym says) tt
  events_fault problem paths planned (F5 output) says = absurd says
  events_fault problem paths planned F6 says = tt
  events_fault problem paths planned (Refused refusal) says = absurd says

-- the replies of a dispatch from its beginning on are those that are shown
pub shown : (problem : Instance) (paths : List (List ℕ)) (agents : List ℕ) (dispatch : Progress) → AreVisitsOfAll paths dispatch.visits → dispatch ≡ beginning dispatch.visits → (replies : List Reply) (after : Progress) → AreReplies dispatch agents replies after →
    IsReplyText problem.grid.width paths agents (reply_text problem.grid.width agents replies)
shown problem paths agents dispatch visits begins replies after are = record {
  visits = dispatch.visits;
  are_visits = visits;
  replies = replies;
  after = after;
  replied = subst (λ p. AreReplies p agents replies after) begins are;
  spelled = refl;
}

-- an error of reading events isn't one of the map
pub not_map : (events : Option (List ℕ)) (count : ℕ) (fault : Fault) → IsReadingEvents events count fault → IsOfMap fault → ⊥
not_map events count (F1 fault) of early = of
not_map events count (F2 fault) of early = of
not_map events count (F3 fault) of early = early
not_map events count (F4 input) of early = subst IsProblemInput (sym early ∙ of) tt
not_map events count (F5 output) of early = of
not_map events count F6 of early = early
not_map events count (Refused refusal) of early = of
