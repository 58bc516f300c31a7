-- From the plan text that is read to the plan that is followed.
use Rattle.std.proofs.Common.{◌≡◌, ℕ, List, Option, Result, Ok, Err, IfSome, IsErrOf, MatchResult, refl, sym, ap, subst, ◌∙◌}
use Rattle.std.specs.Option.{IsSome}
use Rattle.mapf_app.proofs.InputLemmas.{text_is, told}
use Rattle.mapf_app.specs.Faults.{IsOfDevices, IsOfInput, IsPlanning, IsReadingPlan, fault_of_plan_text}
use Rattle.mapf_app.specs.Planned.{HasPlanFault, IsDuePlan, IsNoPlan, IsOfPlanText, SpellsValidPlan}
use Rattle.mapf_app.specs.Problems.{SpellsProblem}
use Rattle.mapf_app.specs.declared.fault.PlayFault.{PlayFault}
use Rattle.mapf_app.specs.declared.fault.PlayFault.TheVariants.{Text, NoPlan, OtherCount, Invalid, Events}
use Rattle.mapf_app.specs.declared.planned.Planned.{Planned}
use Rattle.mapf_app.specs.declared.fault.Fault.{Fault}
use Rattle.mapf_app.specs.declared.fault.Fault.TheVariants.{F1, F2, F3, F4, F5, F6, Refused}
use Rattle.mapf_certificate.specs.PlanReading.{OrMemory}
use Rattle.mapf_certificate.specs.Plans.{IsPlanText, SpellsPlan, plan_text}
use Rattle.mapf_certificate.specs.declared.plan_text.PlanAnswer.{PlanAnswer}
use Rattle.mapf_certificate.specs.declared.plan_text.PlanAnswer.TheVariants.{Found, Impossible, Limit, Bounded}
use Rattle.mapf_certificate.specs.declared.plan_text.PlanText.{PlanText}
use Rattle.mapf_certificate.specs.declared.version.Version.{Version}
use Rattle.mapf_certificate.specs.declared.plan_text.PlanTextFault.{PlanTextFault}
use Rattle.mapf_certificate.specs.declared.plan_text.PlanTextFault.TheVariants.{P1, P2, P3, P4, Memory}
use Rattle.mapf_checker.proofs.PlanLemmas.{same_text}
use Rattle.mapf_model.specs.Plan.{Instance}

pub same_plan : (p q : List (List ℕ)) → ◌≡◌ {A = PlanAnswer} (Found p) (Found q) → p ≡ q
same_plan p q same = cc

pub is_no_plan : (answer : PlanAnswer) → ((plan : List (List ℕ)) → answer ≡ Found plan → ⊥) → IsNoPlan answer
is_no_plan (Found plan) none = absurd (none plan refl)
is_no_plan Impossible none = tt
is_no_plan (Limit cause) none = tt
is_no_plan (Bounded cause bound) none = tt

-- bytes that are read as this text
module _ (problem : Instance) (bytes : List ℕ) (text : PlanText) where
  pub spells_text : IsPlanText problem.grid text × (bytes ≡ plan_text problem.grid.width text) → SpellsPlan problem.grid bytes text.version text.agents text.answer
  spells_text found = record { in_range = found.0; spelled = found.1 }

  -- spell no other plan
  pub one_plan : ((other : PlanText) → IsPlanText problem.grid other → bytes ≡ plan_text problem.grid.width other → OrMemory {A = PlanText} (Ok text) (◌≡◌ {A = Result PlanText PlanTextFault} (Ok text) (Ok other))) →
      (version : Version) (agents : ℕ) (plan : List (List ℕ)) → SpellsPlan problem.grid bytes version agents (Found plan) → (text.agents ≡ agents) × (text.answer ≡ Found plan)
  one_plan only version agents plan spells =
      let other : PlanText = record { version = version; agents = agents; answer = Found plan } in
      let same : text ≡ other = same_text text other (only other spells.in_range spells.spelled) in
      (ap (λ (t : PlanText). t.agents) same, ap (λ (t : PlanText). t.answer) same)

-- bytes that can't be read have this error
pub unread : (problem : Instance) (bytes : List ℕ) (fault : PlanTextFault) → ((version : Version) (agents : ℕ) (answer : PlanAnswer) → SpellsPlan problem.grid bytes version agents answer → fault ≡ Memory) → IsReadingPlan problem bytes (fault_of_plan_text fault)
unread problem bytes Memory none = tt
unread problem bytes (P1 line) none = (λ e. cc, λ version agents answer spells. let memory = none version agents answer spells in cc)
unread problem bytes (P2 line) none = (λ e. cc, λ version agents answer spells. let memory = none version agents answer spells in cc)
unread problem bytes (P3 line) none = (λ e. cc, λ version agents answer spells. let memory = none version agents answer spells in cc)
unread problem bytes (P4 line) none = (λ e. cc, λ version agents answer spells. let memory = none version agents answer spells in cc)

of_plan_text : (problem : Instance) (bytes : List ℕ) (fault : PlayFault) → HasPlanFault problem bytes fault → IsOfPlanText fault
of_plan_text problem bytes (Text fault) says = tt
of_plan_text problem bytes NoPlan says = tt
of_plan_text problem bytes OtherCount says = tt
of_plan_text problem bytes (Invalid fault) says = tt
of_plan_text problem bytes (Events fault) says = absurd says

-- an error of the plan text that was read is one of the bytes that its source reports
pub plan_fault_told : (map scen plan : Option (List ℕ)) (count : ℕ) (problem : Instance) → SpellsProblem map scen count problem → (text : List ℕ) → IfSome plan (λ bytes. text ≡ bytes) → (fault : Fault) → IsReadingPlan problem text fault →
    IsPlanning map scen plan count fault
plan_fault_told map scen plan count problem read text same (F1 fault) says = absurd says
plan_fault_told map scen plan count problem read text same (F2 fault) says = absurd says
plan_fault_told map scen plan count problem read text same (F3 fault) says = record {
  problem = problem;
  read = read;
  of_plan = of_plan_text problem text fault says;
  defect = told (λ bytes. HasPlanFault problem bytes fault) plan text same says;
}
plan_fault_told map scen plan count problem read text same (F4 input) says = absurd says
plan_fault_told map scen plan count problem read text same (F5 output) says = absurd says
plan_fault_told map scen plan count problem read text same F6 says = tt
plan_fault_told map scen plan count problem read text same (Refused refusal) says = absurd says

-- a valid plan that has to be followed is spelled for the problem that was read, by the text that was read
pub due_here : (map scen plan : Option (List ℕ)) (count : ℕ) (problem : Instance) (text : List ℕ) → IfSome plan (λ bytes. text ≡ bytes) → ((other : Instance) → IsSome map → IsSome scen → SpellsProblem map scen count other → problem ≡ other) →
    (other : Instance) (paths : List (List ℕ)) → IsDuePlan map scen plan count other paths → (problem ≡ other) × SpellsValidPlan problem text paths
due_here map scen plan count problem text same only other paths due =
    let one = only other due.map_told due.scen_told due.read in
    let written = text_is plan text due.plan_text same due.plan_told in
    (one, subst (λ here. SpellsValidPlan here text paths) (sym one) (subst (λ bytes. SpellsValidPlan other bytes paths) (sym written) due.spelled))

input_is_device : (fault : Fault) → IsOfInput fault → IsOfDevices fault
input_is_device (F1 fault) says = absurd says
input_is_device (F2 fault) says = absurd says
input_is_device (F3 fault) says = absurd says
input_is_device (F4 input) says = tt
input_is_device (F5 output) says = absurd says
input_is_device F6 says = tt
input_is_device (Refused refusal) says = absurd says

pub same_planned : (planned : Planned) (problem : Instance) (paths : List (List ℕ)) → problem ≡ planned.problem → paths ≡ planned.plan → record { problem = problem; plan = paths } ≡ planned
same_planned planned problem paths same_problem same_paths =
    ap (λ p. record { problem = p; plan = paths }) same_problem ∙ ap (λ ps. record { problem = planned.problem; plan = ps }) same_paths

-- an error of an input that a `?` passes on is one of the devices
pub hands_on_device : {T : Type 0} (r : Result T Fault) (P : T → Type 0) (fault : Fault) → (given : Fault) × (r ≡ Err given) × (given ≡ fault) → IsOfInput fault → MatchResult r P IsOfDevices
hands_on_device {T = T} r P fault (given, is, same) says =
    let Q : Result T Fault → Type 0 = λ s. MatchResult s P IsOfDevices in subst Q (sym is) (input_is_device given (subst IsOfInput (sym same) says))

-- the error of the result is the one that a `?` passed on
pub handed_back : {T U : Type 0} (r : Result T Fault) (fault is : Fault) → (given : Fault) × (r ≡ Err given) × (given ≡ fault) → IsErrOf r is → IsErrOf {T = U} (Err fault) is
handed_back r fault is (given, result, same) says =
    let one : given ≡ is = cc in ap Err (sym same ∙ one)
