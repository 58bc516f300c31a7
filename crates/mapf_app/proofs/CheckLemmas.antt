-- From what is read to what is judged.
use Rattle.std.proofs.Common.{◌≡◌, List, ℕ, None, Some, Option, IfSome, length, refl, sym, subst}
use Rattle.std.specs.Option.{IsSome}
use Rattle.mapf_app.specs.Checked.{IsRefusalOf, HasGoodPlan}
use Rattle.mapf_app.specs.Headline.{JudgesTruly, IsDueVerdict}
use Rattle.mapf_app.specs.Problems.{IsPosed, SpellsProblem}
use Rattle.mapf_app.proofs.InputLemmas.{text_is, told}
use Rattle.mapf_certificate.specs.Plans.{SpellsPlan}
use Rattle.mapf_checker.specs.Refusals.{HasRefusal}
use Rattle.mapf_checker.specs.Verdict.{IsTrueText, IsGoodPlan, AreAccepted}
use Rattle.mapf_checker.specs.Faults.{IfRefused, IsNoRefusal}
use Rattle.mapf_checker.specs.declared.fault.CheckFault.{CheckFault}
use Rattle.mapf_checker.specs.declared.fault.FromFault.{FromFault}
use Rattle.mapf_checker.specs.declared.fault.FromFault.TheVariants.{Refused}
use Rattle.mapf_checker.specs.declared.fault.Verdict.{Verdict}
use Rattle.mapf_model.specs.Plan.{Instance}
use Rattle.mapf_model.specs.declared.item.Claim.{Claim}

-- a property of a known value
pub if_known : {X : Type 0} (o : Option X) (P : X → Type 0) → ((x : X) → o ≡ Some x → P x) → IfSome o P
if_known None P holds = tt
if_known (Some x) P holds = holds x refl

-- a refusal is one
pub is_refusal : (fault : FromFault) (refusal : CheckFault) → fault ≡ Refused refusal → IsNoRefusal fault → ⊥
is_refusal fault refusal is says = subst IsNoRefusal is says

-- and says what refusals say
pub refusal_says : (Says : CheckFault → Type 0) (fault : FromFault) (refusal : CheckFault) → fault ≡ Refused refusal → IfRefused Says fault → Says refusal
refusal_says Says fault refusal is says = subst (IfRefused Says) is says

module _ (map scen plan cert : Option (List ℕ)) (count : ℕ) (problem : Instance) (read : SpellsProblem map scen count problem) (text : List ℕ) (same : IfSome plan (λ bytes. text ≡ bytes)) where
  pub judges : IsPosed count problem → (verdict : Verdict) → IsTrueText problem text verdict → ((bytes : List ℕ) → cert ≡ Some bytes → AreAccepted problem text bytes verdict) → JudgesTruly map scen plan cert count verdict
  judges posed verdict truth accepted = record {
    problem = problem;
    posed = posed;
    read = read;
    version = truth.version;
    says = truth.says;
    spelled = told (λ bytes. SpellsPlan problem.grid bytes truth.version (length problem.agents) truth.says) plan text same truth.spelled;
    is_true = truth.is_true;
    accepted = told (λ bytes. IfSome cert (λ others. AreAccepted problem bytes others verdict)) plan text same (if_known cert (λ others. AreAccepted problem text others verdict) accepted);
  }

  -- the problem that was read is the one that is spelled
  pub due_here : ((other : Instance) → IsSome map → IsSome scen → SpellsProblem map scen count other → problem ≡ other) → (verdict : Verdict) → (due : IsDueVerdict map scen plan cert count verdict) → AreAccepted problem text due.cert_text verdict
  due_here only verdict due =
      let one = only due.problem due.map_told due.scen_told due.read in
      let written = text_is plan text due.plan_text same due.plan_told in
      subst (λ here. AreAccepted here text due.cert_text verdict) (sym one) (subst (λ bytes. AreAccepted due.problem bytes due.cert_text verdict) (sym written) due.accepted)

  pub refusal_of : (refusal : CheckFault) → HasRefusal problem text cert refusal → IsRefusalOf map scen plan cert count refusal
  refusal_of refusal has = record {
    problem = problem;
    read = read;
    defect = told (λ bytes. HasRefusal problem bytes cert refusal) plan text same has;
  }

  pub none_good : (HasGoodPlan map scen plan count → ⊥) → (answer : Claim) → IsGoodPlan problem text answer → ⊥
  none_good none answer good = none (record { problem = problem; read = read; answer = answer; good = told (λ bytes. IsGoodPlan problem bytes answer) plan text same good })
