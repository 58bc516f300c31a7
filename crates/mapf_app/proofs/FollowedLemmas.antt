-- From the plan that is read to the requests that are answered.
use Rattle.std.proofs.Common.{◌≡◌, ◌∙◌, ℕ, List, Option, Result, Err, IfErr, IsErrOf, refl, sym, subst}
use Rattle.std.specs.Io.KnownBytes.{Appends, Consumes}
use Rattle.mapf_app.specs.Faults.{HasNoInnerMemory, IsOfInput, IsOfMap, IsOfProblem, IsPlanning}
use Rattle.mapf_app.specs.Followed.{EndsFollowing, Follows, IsFollowDefect, IsFollowing, IsOfRequests, fault_of_end}
use Rattle.mapf_app.specs.Planned.{IsPlanDefect, SpellsPlanned}
use Rattle.mapf_app.specs.declared.fault.Fault.{Fault}
use Rattle.mapf_app.specs.declared.fault.Fault.TheVariants.{F1, F2, F3, F4, F5, F6, Refused}
use Rattle.mapf_app.specs.declared.fault.Input.TheVariants.{Map, Scen, Plan, Cert, Events as EventText}
use Rattle.mapf_app.specs.declared.fault.Output.TheVariants.{Out}
use Rattle.mapf_app.specs.declared.fault.PlayFault.{PlayFault}
use Rattle.mapf_app.specs.declared.fault.PlayFault.TheVariants.{Text, NoPlan, OtherCount, Invalid, Events}
use Rattle.mapf_model.specs.Grid.{GridMap}
use Rattle.mapf_model.specs.Plan.{Instance}
use Rattle.mapf_player.specs.Dispatching.{Progress, beginning}
use Rattle.mapf_player.specs.Following.{IsOutcome, IsStopped}
use Rattle.mapf_player.specs.Visits.{AreVisitsOfAll}
use Rattle.mapf_player.specs.declared.events.EventFault.TheVariants.{E1, E2, E3, E4, Memory}
use Rattle.mapf_player.specs.declared.follow_fault.FollowFault.{FollowFault}
use Rattle.mapf_player.specs.declared.follow_fault.FollowFault.TheVariants as ends
use Rattle.mapf_player.proofs.FollowLemmas.{always_safe}

module _ (map scen plan : Option (List ℕ)) (count : ℕ) where
  -- an error of reading a problem and a plan comes before the requests
  stays_so : {T : Type 0} (Ends : Result T FollowFault → Type 0) (stays : Type 0) (fault : Fault) → IsPlanning map scen plan count fault → stays → EndsFollowing Ends stays (Err fault)
  stays_so Ends stays (F1 fault) says there = there
  stays_so Ends stays (F2 fault) says there = there
  stays_so Ends stays (F3 (Text fault)) says there = there
  stays_so Ends stays (F3 NoPlan) says there = there
  stays_so Ends stays (F3 OtherCount) says there = there
  stays_so Ends stays (F3 (Invalid fault)) says there = there
  stays_so Ends stays (F3 (Events fault)) says there = absurd says.of_plan
  stays_so Ends stays (F4 Map) says there = there
  stays_so Ends stays (F4 Scen) says there = there
  stays_so Ends stays (F4 Plan) says there = there
  stays_so Ends stays (F4 Cert) says there = absurd says
  stays_so Ends stays (F4 EventText) says there = absurd says
  stays_so Ends stays (F5 output) says there = absurd says
  stays_so Ends stays F6 says there = there
  stays_so Ends stays (Refused refusal) says there = absurd says

  pub passes_stays : {T : Type 0} (Ends : Result T FollowFault → Type 0) (stays : Type 0) (r : Result T Fault) (fault : Fault) → (given : Fault) × (r ≡ Err given) × (given ≡ fault) → IsPlanning map scen plan count fault → stays → EndsFollowing Ends stays r
  passes_stays {T = T} Ends stays r fault (given, is, same) says there =
      let Q : Result T Fault → Type 0 = λ s. EndsFollowing Ends stays s in
      subst Q (sym is) (stays_so Ends stays given (subst (IsPlanning map scen plan count) (sym same) says) there)

  plan_defect : (fault : PlayFault) → IsPlanDefect map scen plan count fault → IsFollowDefect map scen plan count fault
  plan_defect (Text fault) defect = defect
  plan_defect NoPlan defect = defect
  plan_defect OtherCount defect = defect
  plan_defect (Invalid fault) defect = defect
  plan_defect (Events fault) defect = absurd defect.of_plan

  pub planning_fault : (fault : Fault) → IsPlanning map scen plan count fault → IsFollowing map scen plan count fault
  planning_fault (F1 fault) says = says
  planning_fault (F2 fault) says = says
  planning_fault (F3 fault) says = plan_defect fault says
  planning_fault (F4 Map) says = tt
  planning_fault (F4 Scen) says = tt
  planning_fault (F4 Plan) says = tt
  planning_fault (F4 Cert) says = absurd says
  planning_fault (F4 EventText) says = absurd says
  planning_fault (F5 output) says = absurd says
  planning_fault F6 says = tt
  planning_fault (Refused refusal) says = absurd says

  -- the error with which answering ends
  pub following_end : (problem : Instance) (paths : List (List ℕ)) → SpellsPlanned map scen plan count problem paths → (end : FollowFault) → IsFollowing map scen plan count (fault_of_end end)
  following_end problem paths planned (ends.Events fault) = (problem, paths, planned)
  following_end problem paths planned ends.Requests = tt
  following_end problem paths planned ends.Replies = refl

  -- what was answered while agents follow the plan that was read
  pub followed_truly : {T : Type 0} (requests left old new : Option (List ℕ)) (problem : Instance) (paths : List (List ℕ)) → SpellsPlanned map scen plan count problem paths → (dispatch : Progress) → AreVisitsOfAll paths dispatch.visits → dispatch ≡ beginning dispatch.visits → (came written : List ℕ) → Consumes requests left came → Appends old new written →
      (end : Result T FollowFault) → IsOutcome problem.grid.width dispatch left came written end → Follows map scen plan count requests left old new end
  followed_truly requests left old new problem paths planned dispatch visits begins came written consumed wrote end outcome = record {
    problem = problem;
    paths = paths;
    planned = planned;
    visits = dispatch.visits;
    are_visits = visits;
    safe = always_safe problem paths dispatch.visits planned.valid visits;
    came = came;
    written = written;
    consumed = consumed;
    wrote = wrote;
    outcome = subst (λ p. IsOutcome problem.grid.width p left came written end) begins outcome;
  }

-- the grid by its other name
pub on_grid : {T : Type 0} (one other : GridMap) (dispatch : Progress) (left : Option (List ℕ)) (came written : List ℕ) (end : Result T FollowFault) → one ≡ other → IsOutcome one.width dispatch left came written end → IsOutcome other.width dispatch left came written end
on_grid one other dispatch left came written end same outcome = subst (λ (g : GridMap). IsOutcome g.width dispatch left came written end) same outcome

pub ended_so : {T : Type 0} (Ends : Result T FollowFault → Type 0) (stays : Type 0) (end : FollowFault) → Ends (Err end) → EndsFollowing Ends stays (Err (fault_of_end end))
ended_so Ends stays (ends.Events fault) is = is
ended_so Ends stays ends.Requests is = is
ended_so Ends stays ends.Replies is = is

-- a run ended since no more could be read if it tells an error of the requests' source, and the other way round
pub requests_end : {T U : Type 0} (end : FollowFault) → IsErrOf {T = T} (Err (fault_of_end end)) (F4 EventText) → IsErrOf {T = U} (Err end) ends.Requests
requests_end (ends.Events fault) is = cc
requests_end ends.Requests is = refl
requests_end ends.Replies is = cc

pub requests_told : {T U : Type 0} (end : FollowFault) → IsErrOf {T = U} (Err end) ends.Requests → IsErrOf {T = T} (Err (fault_of_end end)) (F4 EventText)
requests_told (ends.Events fault) is = cc
requests_told ends.Requests is = refl
requests_told ends.Replies is = cc

-- the same of the sink
pub replies_end : {T U : Type 0} (end : FollowFault) → IsErrOf {T = T} (Err (fault_of_end end)) (F5 Out) → IsErrOf {T = U} (Err end) ends.Replies
replies_end (ends.Events fault) is = cc
replies_end ends.Requests is = cc
replies_end ends.Replies is = refl

pub replies_told : {T U : Type 0} (end : FollowFault) → IsErrOf {T = U} (Err end) ends.Replies → IsErrOf {T = T} (Err (fault_of_end end)) (F5 Out)
replies_told (ends.Events fault) is = cc
replies_told ends.Requests is = cc
replies_told ends.Replies is = refl

pub of_requests : (end : FollowFault) → IsOfRequests (fault_of_end end)
of_requests (ends.Events fault) = tt
of_requests ends.Requests = tt
of_requests ends.Replies = tt

pub inner_end : (width : ℕ) (before : Progress) (left : Option (List ℕ)) (came written : List ℕ) (end : FollowFault) → IsStopped width before left came written end → HasNoInnerMemory (fault_of_end end)
inner_end width before left came written (ends.Events (E1 at)) stopped = λ e. cc
inner_end width before left came written (ends.Events (E2 at)) stopped = λ e. cc
inner_end width before left came written (ends.Events (E3 at)) stopped = absurd stopped
inner_end width before left came written (ends.Events (E4 at)) stopped = absurd stopped
inner_end width before left came written (ends.Events Memory) stopped = absurd stopped
inner_end width before left came written ends.Requests stopped = tt
inner_end width before left came written ends.Replies stopped = tt

input_of_requests : (fault : Fault) → IsOfInput fault → IsOfRequests fault
input_of_requests (F1 fault) says = absurd says
input_of_requests (F2 fault) says = absurd says
input_of_requests (F3 fault) says = absurd says
input_of_requests (F4 input) says = tt
input_of_requests (F5 output) says = absurd says
input_of_requests F6 says = tt
input_of_requests (Refused refusal) says = absurd says

-- an error of an input that a `?` passes on
pub hands_on_input : {T : Type 0} (r : Result T Fault) (fault : Fault) → (given : Fault) × (r ≡ Err given) × (given ≡ fault) → IsOfInput fault → IfErr r IsOfRequests
hands_on_input {T = T} r fault (given, is, same) says =
    let Q : Result T Fault → Type 0 = λ s. IfErr s IsOfRequests in subst Q (sym is) (input_of_requests given (subst IsOfInput (sym same) says))

-- answering ends with no error of an earlier input
pub not_of_map : (end : FollowFault) → fault_of_end end ≡ F4 Map → ⊥
not_of_map (ends.Events fault) is = cc
not_of_map ends.Requests is = cc
not_of_map ends.Replies is = cc

pub not_of_scen : (end : FollowFault) → fault_of_end end ≡ F4 Scen → ⊥
not_of_scen (ends.Events fault) is = cc
not_of_scen ends.Requests is = cc
not_of_scen ends.Replies is = cc

pub not_of_plan : (end : FollowFault) → fault_of_end end ≡ F4 Plan → ⊥
not_of_plan (ends.Events fault) is = cc
not_of_plan ends.Requests is = cc
not_of_plan ends.Replies is = cc

pub none_of : {T : Type 0} (r : Fault) (end : FollowFault) (at : Fault) → r ≡ fault_of_end end → (fault_of_end end ≡ at → ⊥) → IsErrOf {T = T} (Err r) at → ⊥
none_of r end at is none told = let same : r ≡ at = cc in none (sym is ∙ same)

not_map : (end : FollowFault) → IsOfMap (fault_of_end end) → ⊥
not_map (ends.Events fault) of = of
not_map ends.Requests of = cc
not_map ends.Replies of = of

pub past_map : (r : Fault) (end : FollowFault) → r ≡ fault_of_end end → IsOfMap r → ⊥
past_map r end is of = not_map end (subst IsOfMap is of)

not_problem : (end : FollowFault) → IsOfProblem (fault_of_end end) → ⊥
not_problem (ends.Events fault) of = of
not_problem ends.Requests of = of
not_problem ends.Replies of = of

pub past_problem : (r : Fault) (end : FollowFault) → r ≡ fault_of_end end → IsOfProblem r → ⊥
past_problem r end is of = not_problem end (subst IsOfProblem is of)
