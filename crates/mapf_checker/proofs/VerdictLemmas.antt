-- What is accepted is so, and there is one verdict on an answer and a claim.
use Rattle.std.proofs.Common.{◌≡◌, ◌<◌, ◌≤◌, ◌⊎◌, ℕ, List, refl, sym, ◌∙◌, ap, inl, inr, arith}
use Rattle.std.proofs.lemmas.Bool.{cases_lt}
use Rattle.mapf_lemma_checker.specs.Answers.{FitsAnswer}
use Rattle.mapf_lemmas.specs.Laws.{CertificatesShowTruth}
use Rattle.mapf_model.specs.Laws.{ShownClaimsHold}
use Rattle.mapf_model.specs.Plan.{Instance}
use Rattle.mapf_model.specs.Tree.{Holds}
use Rattle.mapf_model.specs.declared.cause.Cause.{Cause}
use Rattle.mapf_model.specs.declared.item.Claim.{Claim}
use Rattle.mapf_model.specs.declared.item.Claim.TheVariants as claims
use Rattle.mapf_certificate.specs.declared.plan_text.PlanAnswer.{PlanAnswer}
use Rattle.mapf_certificate.specs.declared.plan_text.PlanAnswer.TheVariants as answers
use Rattle.mapf_checker.specs.declared.fault.Verdict.{Verdict}
use Rattle.mapf_checker.specs.declared.fault.Verdict.TheVariants.{Optimal, Within, Bound, Impossible}
use Rattle.mapf_checker.specs.Verdict.{AcceptedIsTrue, FittingClaimsHaveVerdicts, IsGoodFor, IsShown, IsTrueOf, IsVerdictOn}

-- a claim on which there is a verdict fits
pub verdict_fits : (answer claimed : Claim) (verdict : Verdict) → IsVerdictOn answer claimed verdict → FitsAnswer answer claimed
verdict_fits (claims.Cost cost) (claims.Cost claimed) (Optimal sum) is = is.1
verdict_fits (claims.Cost cost) (claims.Bound claimed) (Optimal sum) is = omega (arith, is.1)
verdict_fits (claims.Cost cost) (claims.Bound claimed) (Within bound sum) is = omega (arith, is.2)
verdict_fits (claims.Bound bound) (claims.Bound claimed) (Bound shown) is = is.1
verdict_fits claims.Impossible claims.Impossible Impossible is = tt
verdict_fits answer claimed verdict is = absurd is

-- and on one that fits there is a verdict
fit_verdict : (answer claimed : Claim) → FitsAnswer answer claimed → (verdict : Verdict) × IsVerdictOn answer claimed verdict
fit_verdict (claims.Cost cost) (claims.Cost claimed) fits = (Optimal cost, (refl, fits))
fit_verdict (claims.Cost cost) (claims.Bound claimed) fits = by (cases_lt claimed cost) where
  by : (claimed < cost) ⊎ (cost ≤ claimed) → (verdict : Verdict) × IsVerdictOn (claims.Cost cost) (claims.Bound claimed) verdict
  by (inl below) = (Within claimed cost, (refl, refl, below))
  by (inr above) = (Optimal cost, (refl, omega (arith, fits, above)))
fit_verdict (claims.Bound bound) (claims.Bound claimed) fits = (Bound bound, (refl, fits))
fit_verdict claims.Impossible claims.Impossible fits = (Impossible, tt)
fit_verdict answer claimed fits = absurd fits

pub fitting_claims_have_verdicts : FittingClaimsHaveVerdicts
fitting_claims_have_verdicts answer claimed = (fit_verdict answer claimed, λ some. verdict_fits answer claimed some.0 some.1)

-- beside a plan whose cost is claimed, or a bound that equals it, the plan is optimal
on_cost : (cost claimed : ℕ) (verdict : Verdict) → IsVerdictOn (claims.Cost cost) (claims.Cost claimed) verdict → verdict ≡ Optimal cost
on_cost cost claimed (Optimal sum) is = ap Optimal is.0
on_cost cost claimed verdict is = absurd is

on_equal_bound : (cost claimed : ℕ) (verdict : Verdict) → claimed ≡ cost → IsVerdictOn (claims.Cost cost) (claims.Bound claimed) verdict → verdict ≡ Optimal cost
on_equal_bound cost claimed (Optimal sum) same is = ap Optimal is.0
on_equal_bound cost claimed (Within bound sum) same is = absurd (omega (arith, same, is.2))
on_equal_bound cost claimed verdict same is = absurd is

-- beside a plan of a greater cost the bound is the verdict's
on_lesser_bound : (cost claimed : ℕ) (verdict : Verdict) → claimed < cost → IsVerdictOn (claims.Cost cost) (claims.Bound claimed) verdict → verdict ≡ Within claimed cost
on_lesser_bound cost claimed (Optimal sum) below is = absurd (omega (arith, below, is.1))
on_lesser_bound cost claimed (Within bound sum) below (sum_is, bound_is, less) = rw (sum_is, bound_is) refl
on_lesser_bound cost claimed verdict below is = absurd is

-- beside a limit the bound is its own
on_limit : (bound claimed : ℕ) (verdict : Verdict) → IsVerdictOn (claims.Bound bound) (claims.Bound claimed) verdict → verdict ≡ Bound bound
on_limit bound claimed (Bound shown) is = ap Bound is.0
on_limit bound claimed verdict is = absurd is

on_impossible : (verdict : Verdict) → IsVerdictOn claims.Impossible claims.Impossible verdict → verdict ≡ Impossible
on_impossible Impossible is = refl
on_impossible verdict is = absurd is

-- two verdicts on one answer and one claim are the same
pub one_verdict : (answer claimed : Claim) (given verdict : Verdict) → IsVerdictOn answer claimed given → IsVerdictOn answer claimed verdict → given ≡ verdict
one_verdict (claims.Cost cost) (claims.Cost claimed) given verdict is also = on_cost cost claimed given is ∙ sym (on_cost cost claimed verdict also)
one_verdict (claims.Cost cost) (claims.Bound claimed) (Optimal sum) verdict is also = on_equal_bound cost claimed (Optimal sum) is.1 is ∙ sym (on_equal_bound cost claimed verdict is.1 also)
one_verdict (claims.Cost cost) (claims.Bound claimed) (Within bound sum) verdict is also = on_lesser_bound cost claimed (Within bound sum) is.2 is ∙ sym (on_lesser_bound cost claimed verdict is.2 also)
one_verdict (claims.Bound bound) (claims.Bound claimed) given verdict is also = on_limit bound claimed given is ∙ sym (on_limit bound claimed verdict also)
one_verdict claims.Impossible claims.Impossible given verdict is also = on_impossible given is ∙ sym (on_impossible verdict also)
one_verdict answer claimed given verdict is also = absurd is

-- what is shown is true
shown_holds : ShownClaimsHold → CertificatesShowTruth → (problem : Instance) (claimed : Claim) → IsShown problem claimed → Holds problem claimed
shown_holds trees lemmas problem claimed (inl (tree, shows)) = trees problem claimed tree shows
shown_holds trees lemmas problem claimed (inr shown) = lemmas problem shown.lists shown.lemmas shown.tree claimed shown.shows

-- a verdict on a plan is true, if the claim is
plan_verdict_is_true : (problem : Instance) (plan : List (List ℕ)) (cost : ℕ) (claimed : Claim) (verdict : Verdict) → IsGoodFor problem (answers.Found plan) (claims.Cost cost) → IsVerdictOn (claims.Cost cost) claimed verdict → Holds problem claimed → IsTrueOf problem (answers.Found plan) verdict
plan_verdict_is_true problem plan cost (claims.Cost claimed) (Optimal sum) good (sum_is, claimed_is) holds = record { valid = good.0; sum = rw sum_is good.1; least = rw (sum_is, ← claimed_is) holds }
plan_verdict_is_true problem plan cost (claims.Bound claimed) (Optimal sum) good (sum_is, claimed_is) holds = record { valid = good.0; sum = rw sum_is good.1; least = rw (sum_is, ← claimed_is) holds }
plan_verdict_is_true problem plan cost (claims.Bound claimed) (Within bound sum) good (sum_is, bound_is, below) holds = (good.0, rw sum_is good.1, rw bound_is holds, rw (sum_is, bound_is) below)
plan_verdict_is_true problem plan cost claimed verdict good is holds = absurd is

-- so is one on a limit
limit_verdict_is_true : (problem : Instance) (cause : Cause) (says bound : ℕ) (claimed : Claim) (verdict : Verdict) → says ≡ bound → IsVerdictOn (claims.Bound bound) claimed verdict → Holds problem claimed → IsTrueOf problem (answers.Bounded cause says) verdict
limit_verdict_is_true problem cause says bound (claims.Bound claimed) (Bound shown) same (shown_is, claimed_is) holds = (same ∙ sym shown_is, rw (shown_is, ← claimed_is) holds)
limit_verdict_is_true problem cause says bound claimed verdict same is holds = absurd is

-- and one on `impossible`
impossible_verdict_is_true : (problem : Instance) (claimed : Claim) (verdict : Verdict) → IsVerdictOn claims.Impossible claimed verdict → Holds problem claimed → IsTrueOf problem answers.Impossible verdict
impossible_verdict_is_true problem claims.Impossible Impossible is holds = holds
impossible_verdict_is_true problem claimed verdict is holds = absurd is

verdict_is_true : (problem : Instance) (says : PlanAnswer) (answer claimed : Claim) (verdict : Verdict) → IsGoodFor problem says answer → IsVerdictOn answer claimed verdict → Holds problem claimed → IsTrueOf problem says verdict
verdict_is_true problem (answers.Found plan) (claims.Cost cost) claimed verdict good is holds = plan_verdict_is_true problem plan cost claimed verdict good is holds
verdict_is_true problem (answers.Bounded cause says) (claims.Bound bound) claimed verdict good is holds = limit_verdict_is_true problem cause says bound claimed verdict good is holds
verdict_is_true problem answers.Impossible claims.Impossible claimed verdict good is holds = impossible_verdict_is_true problem claimed verdict is holds
verdict_is_true problem says answer claimed verdict good is holds = absurd good

pub accepted_is_true : ShownClaimsHold → CertificatesShowTruth → AcceptedIsTrue
accepted_is_true trees lemmas problem says answer claimed verdict good is shown = verdict_is_true problem says answer claimed verdict good is (shown_holds trees lemmas problem claimed shown)
