-- Two texts are accepted with one verdict at most.
use Rattle.std.proofs.Common.{◌≡◌, ℕ, List, length, sym, ◌∙◌, ap, subst, inl, inr}
use Rattle.mapf_certificate.specs.Plans.{SpellsOnePlan}
use Rattle.mapf_certificate.specs.declared.plan_text.PlanAnswer.{PlanAnswer}
use Rattle.mapf_certificate.specs.declared.plan_text.PlanAnswer.TheVariants as answers
use Rattle.mapf_certificate.specs.declared.plan_text.PlanText.{PlanText}
use Rattle.mapf_lemma_texts.specs.WholeTexts.{SpellsOneCertificate}
use Rattle.mapf_model.specs.Grid.{IsGridMap}
use Rattle.mapf_model.specs.Laws.{SumsAreOne}
use Rattle.mapf_model.specs.Plan.{Instance}
use Rattle.mapf_model.specs.declared.item.Claim.{Claim}
use Rattle.mapf_model.specs.declared.item.Claim.TheVariants.{Cost}
use Rattle.mapf_checker.specs.Verdict.{IsGoodCert, IsGoodFor, IsGoodPlan, IsVerdictOn, VerdictIsUnique}
use Rattle.mapf_checker.proofs.PlanLemmas.{bound_if_good, cost_if_good, impossible_if_good}
use Rattle.mapf_checker.proofs.TitleLemmas.{title_of_lemmas, title_of_tree, titles_differ}
use Rattle.mapf_checker.proofs.VerdictLemmas.{one_verdict}

-- an answer has one claim at most
one_good : SumsAreOne → (problem : Instance) (says : PlanAnswer) (claim other : Claim) → IsGoodFor problem says claim → IsGoodFor problem says other → claim ≡ other
one_good law problem (answers.Found plan) (Cost sum) other good also = cost_if_good law problem plan sum other good.1 also
one_good law problem answers.Impossible claim other good also = sym (impossible_if_good problem claim good) ∙ impossible_if_good problem other also
one_good law problem (answers.Bounded cause bound) claim other good also = sym (bound_if_good problem cause bound claim good) ∙ bound_if_good problem cause bound other also
one_good law problem says claim other good also = absurd good

-- so has a plan text
one_answer : SpellsOnePlan → SumsAreOne → (problem : Instance) → IsGridMap problem.grid → (bytes : List ℕ) (claim other : Claim) → IsGoodPlan problem bytes claim → IsGoodPlan problem bytes other → claim ≡ other
one_answer one law problem grid bytes claim other good also =
    let text : PlanText = record { version = good.version; agents = length problem.agents; answer = good.says } in
    let same : PlanText = record { version = also.version; agents = length problem.agents; answer = also.says } in
    let is : text ≡ same = one problem.grid bytes text same grid good.spelled.in_range also.spelled.in_range good.spelled.spelled also.spelled.spelled in
    one_good law problem good.says claim other good.good (subst (λ (s : PlanAnswer). IsGoodFor problem s other) (sym (ap (λ (t : PlanText). t.answer) is)) also.good)

-- and a certificate, beside an answer
one_claim : SpellsOneCertificate → (problem : Instance) (answer : Claim) (bytes : List ℕ) (claim other : Claim) → IsGoodCert problem answer claim bytes → IsGoodCert problem answer other bytes → claim ≡ other
one_claim one problem answer bytes claim other (inl (is, good)) (inl (also_is, also)) = is ∙ sym also_is
one_claim one problem answer bytes claim other (inl (is, good)) (inr also) = absurd (titles_differ bytes (title_of_tree problem.grid bytes good.version (length problem.agents) claim good.tree good.spelled) (title_of_lemmas problem other bytes also))
one_claim one problem answer bytes claim other (inr good) (inl (also_is, also)) = absurd (titles_differ bytes (title_of_tree problem.grid bytes also.version (length problem.agents) other also.tree also.spelled) (title_of_lemmas problem claim bytes good))
one_claim one problem answer bytes claim other (inr good) (inr also) =
    (one problem.grid.width problem.grid.height bytes (length problem.agents) (length problem.agents) claim other good.lists also.lists good.lemmas also.lemmas good.tree also.tree good.spelled also.spelled).1

pub verdict_is_unique : SpellsOnePlan → SpellsOneCertificate → SumsAreOne → VerdictIsUnique
verdict_is_unique plans certificates sums problem plan_text cert_text verdict other grid accepted also =
    let one : also.answer ≡ accepted.answer = one_answer plans sums problem grid plan_text also.answer accepted.answer also.plan accepted.plan in
    let cert = subst (λ (a : Claim). IsGoodCert problem a also.claimed cert_text) one also.cert in
    let fits = subst (λ (a : Claim). IsVerdictOn a also.claimed other) one also.fits in
    let claim : also.claimed ≡ accepted.claimed = one_claim certificates problem accepted.answer cert_text also.claimed accepted.claimed cert accepted.cert in
    one_verdict accepted.answer accepted.claimed verdict other accepted.fits (subst (λ (c : Claim). IsVerdictOn accepted.answer c other) claim fits)
