-- The strongest claim for the answer of a plan text.
use Rattle.std.proofs.Common.{◌≡◌, ℕ, List, Result, Ok, Err, length, sym, ap, subst, refl, inl, inr}
use Rattle.mapf_model.specs.Laws.{SumsAreOne}
use Rattle.mapf_model.specs.Plan.{Instance, IsValid, IsSumOfCosts}
use Rattle.mapf_model.specs.declared.item.Claim.{Claim}
use Rattle.mapf_model.specs.declared.item.Claim.TheVariants.{Cost, Bound, Impossible}
use Rattle.mapf_certificate.specs.declared.plan_text.PlanAnswer.{PlanAnswer}
use Rattle.mapf_certificate.specs.declared.plan_text.PlanAnswer.TheVariants as answers
use Rattle.mapf_certificate.specs.declared.plan_text.PlanText.{PlanText}
use Rattle.mapf_certificate.specs.declared.version.Version.{Version}
use Rattle.mapf_model.specs.declared.cause.Cause.{Cause}
use Rattle.mapf_certificate.specs.declared.plan_text.PlanTextFault.{PlanTextFault}
use Rattle.mapf_certificate.specs.declared.plan_text.PlanTextFault.TheVariants.{Memory}
use Rattle.mapf_certificate.specs.PlanReading.{OrMemory}
use Rattle.mapf_certificate.specs.Plans.{IsPlanText, SpellsPlan, plan_text}
use Rattle.mapf_checker.specs.Verdict.{IsGoodFor, IsGoodPlan}
use Rattle.mapf_checker.specs.Faults.{of_plan, IsOfJudging}
use Rattle.mapf_checker.specs.Refusals.{HasPlanRefusal}

pub same_text : (text other : PlanText) → OrMemory {A = PlanText} (Ok text) (◌≡◌ {A = Result PlanText PlanTextFault} (Ok text) (Ok other)) → text ≡ other
same_text text other (inl same) = cc
same_text text other (inr memory) = absurd cc

-- bytes that are read as this text
module _ (problem : Instance) (bytes : List ℕ) (text : PlanText) where
  -- a claim that is the strongest for these bytes is the strongest for the answer of the text
  pub good_text : ((other : PlanText) → IsPlanText problem.grid other → bytes ≡ plan_text problem.grid.width other → OrMemory {A = PlanText} (Ok text) (◌≡◌ {A = Result PlanText PlanTextFault} (Ok text) (Ok other))) →
      (claim : Claim) → IsGoodPlan problem bytes claim → (text.agents ≡ length problem.agents) × IsGoodFor problem text.answer claim
  good_text only claim good =
      let other : PlanText = record { version = good.version; agents = length problem.agents; answer = good.says } in
      let same : text ≡ other = same_text text other (only other good.spelled.in_range good.spelled.spelled) in
      (ap (λ (t : PlanText). t.agents) same, subst (λ a. IsGoodFor problem a claim) (sym (ap (λ (t : PlanText). t.answer) same)) good.good)

  pub text_good : IsPlanText problem.grid text × (bytes ≡ plan_text problem.grid.width text) → text.agents ≡ length problem.agents → (said : PlanAnswer) → text.answer ≡ said → (claim : Claim) → IsGoodFor problem said claim →
      IsGoodPlan problem bytes claim
  text_good found count said is claim good = record {
    version = text.version;
    says = said;
    spelled = subst (λ n. SpellsPlan problem.grid bytes text.version n said) count (subst (λ a. SpellsPlan problem.grid bytes text.version text.agents a) is (record { in_range = found.0; spelled = found.1 }));
    good = good;
  }

-- bytes that can't be read spell nothing, unless memory was refused
module _ (problem : Instance) (bytes : List ℕ) where
  pub spells_none : (fault : PlanTextFault) → ((other : PlanText) → IsPlanText problem.grid other → bytes ≡ plan_text problem.grid.width other → OrMemory {A = PlanText} (Err fault) (◌≡◌ {A = Result PlanText PlanTextFault} (Err fault) (Ok other))) →
      (version : Version) (agents : ℕ) (says : PlanAnswer) → SpellsPlan problem.grid bytes version agents says → fault ≡ Memory
  spells_none fault only version agents says spells = by (only (record { version = version; agents = agents; answer = says }) spells.in_range spells.spelled) where
    by : OrMemory {A = PlanText} (Err fault) (◌≡◌ {A = Result PlanText PlanTextFault} (Err fault) (Ok (record { version = version; agents = agents; answer = says }))) → fault ≡ Memory
    by (inl same) = absurd cc
    by (inr memory) = cc

  pub refused_text : (fault : PlanTextFault) → ((version : Version) (agents : ℕ) (says : PlanAnswer) → SpellsPlan problem.grid bytes version agents says → fault ≡ Memory) → IsOfJudging (HasPlanRefusal problem bytes) (of_plan fault)
  refused_text Memory none = tt
  refused_text fault none = (λ e. cc, λ version agents says spells. let memory = none version agents says spells in cc)

pub valid_if_good : (problem : Instance) (plan : List (List ℕ)) (claim : Claim) → IsGoodFor problem (answers.Found plan) claim → IsValid problem plan
valid_if_good problem plan (Cost sum) good = good.0
valid_if_good problem plan claim good = absurd good

pub cost_if_good : SumsAreOne → (problem : Instance) (plan : List (List ℕ)) (sum : ℕ) (claim : Claim) → IsSumOfCosts problem.agents plan sum → IsGoodFor problem (answers.Found plan) claim → Cost sum ≡ claim
cost_if_good law problem plan sum (Cost other) adds good = ap Cost ((law problem plan good.0).one sum other adds good.1)
cost_if_good law problem plan sum claim adds good = absurd good

pub impossible_if_good : (problem : Instance) (claim : Claim) → IsGoodFor problem answers.Impossible claim → Impossible ≡ claim
impossible_if_good problem Impossible good = refl
impossible_if_good problem claim good = absurd good

pub bound_if_good : (problem : Instance) (cause : Cause) (bound : ℕ) (claim : Claim) → IsGoodFor problem (answers.Bounded cause bound) claim → Bound bound ≡ claim
bound_if_good problem cause bound (Bound other) good = ap Bound good
bound_if_good problem cause bound claim good = absurd good
