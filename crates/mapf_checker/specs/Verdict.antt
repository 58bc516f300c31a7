-- What a result of the checker says.
use Rattle.std.specs.Prelude.{◌≡◌, ◌<◌, ◌⊎◌, ◌↔◌, ℕ, List, length}
use Rattle.mapf_model.specs.declared.item.Claim.{Claim}
use Rattle.mapf_model.specs.declared.item.Claim.TheVariants as claim
use Rattle.mapf_model.specs.Grid.{IsGridMap}
use Rattle.mapf_model.specs.Plan.{Instance, IsValid, IsSumOfCosts, IsOptimal, IsLowerBound, IsImpossible}
use Rattle.mapf_model.specs.Tree.{ConstraintTree, Shows}
use Rattle.mapf_certificate.specs.Certificates.{SpellsCert}
use Rattle.mapf_certificate.specs.Plans.{SpellsPlan}
use Rattle.mapf_certificate.specs.declared.version.Version.{Version}
use Rattle.mapf_certificate.specs.declared.plan_text.PlanAnswer.{PlanAnswer}
use Rattle.mapf_certificate.specs.declared.plan_text.PlanAnswer.TheVariants as answers
use Rattle.mapf_checker.specs.declared.fault.Verdict.{Verdict}
use Rattle.mapf_checker.specs.declared.fault.Verdict.TheVariants.{Optimal, Within, Bound, Impossible}
use Rattle.mapf_lemma_checker.specs.Answers.{FitsAnswer}
use Rattle.mapf_lemma_checker.specs.Whole.{IsGoodLemmaCert, IsShownByLemmas}

-- what a verdict says of the problem and the answer of a plan text. `optimal`: the answer is a plan that is optimal
-- with the verdict's sum. `within`: it is a plan that is valid with the verdict's sum, and every valid plan has at
-- least the verdict's bound, which is smaller. `impossible`: it says that no plan is valid, and none is. `bound`: it is
-- a limit with the verdict's bound, and every valid plan has at least this sum. No verdict is true of a limit without a
-- bound
abbrev pub IsTrueOf : Instance → PlanAnswer → Verdict → Type 0
IsTrueOf problem (answers.Found plan) (Optimal sum) = IsOptimal problem plan sum
IsTrueOf problem (answers.Found plan) (Within bound cost) =
    IsValid problem plan × IsSumOfCosts problem.agents plan cost × IsLowerBound problem bound × (bound < cost)
IsTrueOf problem (answers.Found plan) _ = ⊥
IsTrueOf problem answers.Impossible Impossible = IsImpossible problem
IsTrueOf problem answers.Impossible _ = ⊥
IsTrueOf problem (answers.Bounded cause says) (Bound bound) = (says ≡ bound) × IsLowerBound problem bound
IsTrueOf problem (answers.Bounded cause says) _ = ⊥
IsTrueOf problem (answers.Limit cause) verdict = ⊥

-- the bytes spell a plan text, of either version, of which the verdict is true
pub record IsTrueText (problem : Instance) (bytes : List ℕ) (verdict : Verdict) : Type 0 where
  pub version : Version
  pub says : PlanAnswer
  pub spelled : SpellsPlan problem.grid bytes version (length problem.agents) says
  pub is_true : IsTrueOf problem says verdict

-- the claim of an answer for the problem: the sum of its plan, if the plan is valid; `impossible`; or the bound of a
-- limit. An invalid plan and a limit without a bound have none. That the claim is true, only a certificate shows
abbrev pub IsGoodFor : Instance → PlanAnswer → Claim → Type 0
IsGoodFor problem (answers.Found plan) (claim.Cost sum) = IsValid problem plan × IsSumOfCosts problem.agents plan sum
IsGoodFor problem (answers.Found plan) _ = ⊥
IsGoodFor problem answers.Impossible claim.Impossible = Unit {0}
IsGoodFor problem answers.Impossible _ = ⊥
IsGoodFor problem (answers.Bounded cause says) (claim.Bound bound) = says ≡ bound
IsGoodFor problem (answers.Bounded cause says) _ = ⊥
IsGoodFor problem (answers.Limit cause) answer = ⊥

-- the bytes spell a plan text, of either version, for the problem, and this is the claim of its answer
pub record IsGoodPlan (problem : Instance) (bytes : List ℕ) (answer : Claim) : Type 0 where
  pub version : Version
  pub says : PlanAnswer
  pub spelled : SpellsPlan problem.grid bytes version (length problem.agents) says
  pub good : IsGoodFor problem says answer

-- the verdict on an answer with the first claim, beside a certificate that shows the second: the claims are equal, or
-- the first is the cost of a plan and the second a bound that is at most this cost
abbrev pub IsVerdictOn : Claim → Claim → Verdict → Type 0
IsVerdictOn (claim.Cost cost) (claim.Cost claimed) (Optimal sum) = (sum ≡ cost) × (claimed ≡ cost)
IsVerdictOn (claim.Cost cost) (claim.Bound claimed) (Optimal sum) = (sum ≡ cost) × (claimed ≡ cost)
IsVerdictOn (claim.Cost cost) (claim.Bound claimed) (Within bound sum) =
    (sum ≡ cost) × (bound ≡ claimed) × (claimed < cost)
IsVerdictOn (claim.Bound bound) (claim.Bound claimed) (Bound shown) = (shown ≡ bound) × (claimed ≡ bound)
IsVerdictOn claim.Impossible claim.Impossible Impossible = Unit {0}
IsVerdictOn answer claimed verdict = ⊥

-- the bytes spell a certificate, of version 1 or 2, for the problem, and it shows the claim
pub record IsGoodTreeCert (problem : Instance) (claimed : Claim) (bytes : List ℕ) : Type 0 where
  pub version : Version
  pub tree : ConstraintTree
  pub spelled : SpellsCert problem.grid bytes version (length problem.agents) claimed tree
  pub shows : Shows problem claimed tree

-- the bytes spell a certificate for the problem that shows the second claim, beside an answer with the first; in
-- versions 1 and 2 the two are equal
abbrev pub IsGoodCert : Instance → Claim → Claim → List ℕ → Type 0
IsGoodCert problem answer claimed bytes =
    ((claimed ≡ answer) × IsGoodTreeCert problem claimed bytes) ⊎ IsGoodLemmaCert problem claimed bytes

-- the two texts are accepted with the verdict: the certificate shows some claim, and this is the verdict on the answer
-- of the plan text and that claim
pub record AreAccepted (problem : Instance) (plan_text cert_text : List ℕ) (verdict : Verdict) : Type 0 where
  pub answer : Claim
  pub plan : IsGoodPlan problem plan_text answer
  pub claimed : Claim
  pub fits : IsVerdictOn answer claimed verdict
  pub cert : IsGoodCert problem answer claimed cert_text

-- some tree, or some certificate of version 3, shows the claim
abbrev pub IsShown : Instance → Claim → Type 0
IsShown problem claimed =
    ((tree : ConstraintTree) × Shows problem claimed tree) ⊎ IsShownByLemmas problem claimed

-- whatever is accepted is true: the verdict on an answer and a claim that is shown is true of the answer
abbrev pub AcceptedIsTrue : Type 0
AcceptedIsTrue =
    (problem : Instance) (says : PlanAnswer) (answer claimed : Claim) (verdict : Verdict) →
    IsGoodFor problem says answer → IsVerdictOn answer claimed verdict → IsShown problem claimed →
    IsTrueOf problem says verdict

-- a claim fits an answer exactly if there is a verdict on the two
abbrev pub FittingClaimsHaveVerdicts : Type 0
FittingClaimsHaveVerdicts =
    (answer claimed : Claim) →
    FitsAnswer answer claimed ↔ ((verdict : Verdict) × IsVerdictOn answer claimed verdict)

-- two texts are accepted with one verdict at most
abbrev pub VerdictIsUnique : Type 0
VerdictIsUnique =
    (problem : Instance) (plan_text cert_text : List ℕ) (verdict other : Verdict) → IsGridMap problem.grid →
    AreAccepted problem plan_text cert_text verdict → AreAccepted problem plan_text cert_text other → verdict ≡ other
