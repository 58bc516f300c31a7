-- What a run that solves a problem prints, by the search whose answer it is.
use Rattle.std.specs.Prelude.{◌≡◌, ◌<◌, ℕ, List, length}
use Rattle.mapf_app.specs.declared.kind.Kind.{Kind}
use Rattle.mapf_app.specs.declared.solved.Solved.{Solved}
use Rattle.mapf_app.specs.declared.kind.Kind.TheVariants.{Found, Impossible, Limit, Within}
use Rattle.mapf_certificate.specs.Certificates.{SpellsCert, cert_text}
use Rattle.mapf_certificate.specs.Plans.{SpellsPlan, plan_text}
use Rattle.mapf_certificate.specs.declared.version.Version.TheVariants.{Two}
use Rattle.mapf_certificate.specs.declared.plan_text.PlanAnswer.TheVariants as answers
use Rattle.mapf_checker.specs.Verdict.{AreAccepted}
use Rattle.mapf_checker.specs.declared.fault.Verdict.TheVariants.{Optimal}
use Rattle.mapf_checker.specs.declared.fault.Verdict.TheVariants as verdicts
use Rattle.mapf_lemma_texts.specs.WholeTexts.{SpellsCertificate}
use Rattle.mapf_lemmas.specs.Cases.{CaseTree}
use Rattle.mapf_lemmas.specs.Lemmas.{Lemma}
use Rattle.mapf_lemmas.specs.Prices.{PriceList}
use Rattle.mapf_model.specs.declared.cause.Cause.{Cause}
use Rattle.mapf_model.specs.declared.item.Claim.{Claim}
use Rattle.mapf_model.specs.declared.item.Claim.TheVariants as claims
use Rattle.mapf_model.specs.Plan.{Instance, IsValid, IsSumOfCosts, IsOptimal, IsLowerBound, IsImpossible}
use Rattle.mapf_model.specs.Tree.{ConstraintTree}
use Rattle.mapf_words.specs.declared.job.Search.{Search}
use Rattle.mapf_words.specs.declared.job.Search.TheVariants.{Cbs, Cbsh}

-- the bytes spell a certificate with this claim: of version 2 if the answer is plain search's, and of version 3 if it
-- is the second search's
abbrev pub SpellsClaim : Search → Instance → Claim → List ℕ → Type 0
SpellsClaim Cbs problem claim cert =
    (tree : ConstraintTree) × SpellsCert problem.grid cert Two (length problem.agents) claim tree
SpellsClaim Cbsh problem claim cert =
    (lists : List PriceList) × (lemmas : List Lemma) × (tree : CaseTree)
    × SpellsCertificate problem.grid.width problem.grid.height cert (length problem.agents) claim lists lemmas tree

-- the first text spells an optimal plan with this sum, and both texts are accepted
pub record PrintsOptimal (search : Search) (problem : Instance) (cost : ℕ) (plan cert : List ℕ) : Type 0 where
  pub paths : List (List ℕ)
  pub spelled : SpellsPlan problem.grid plan Two (length problem.agents) (answers.Found paths)
  pub certified : SpellsClaim search problem (claims.Cost cost) cert
  pub optimal : IsOptimal problem paths cost
  pub accepted : AreAccepted problem plan cert (Optimal cost)

-- the first text spells `impossible`, no plan is valid, and both texts are accepted
pub record PrintsImpossible (search : Search) (problem : Instance) (plan cert : List ℕ) : Type 0 where
  pub spelled : SpellsPlan problem.grid plan Two (length problem.agents) answers.Impossible
  pub certified : SpellsClaim search problem claims.Impossible cert
  pub impossible : IsImpossible problem
  pub accepted : AreAccepted problem plan cert verdicts.Impossible

-- the first text spells that the search stopped for this cause, and a bound; no valid plan has a smaller sum, and both
-- texts are accepted
pub record PrintsLimit (search : Search) (problem : Instance) (cause : Cause) (bound : ℕ) (plan cert : List ℕ)
    : Type 0 where
  pub spelled : SpellsPlan problem.grid plan Two (length problem.agents) (answers.Bounded cause bound)
  pub certified : SpellsClaim search problem (claims.Bound bound) cert
  pub holds : IsLowerBound problem bound
  pub accepted : AreAccepted problem plan cert (verdicts.Bound bound)

-- the first text spells a valid plan with this sum, and the second a certificate of version 3 that claims the bound;
-- the bound is below the sum, no valid plan has a sum below the bound, and both texts are accepted. Only the second
-- search answers so
pub record PrintsWithin (search : Search) (problem : Instance) (bound cost : ℕ) (plan cert : List ℕ) : Type 0 where
  pub second : search ≡ Cbsh
  pub paths : List (List ℕ)
  pub spelled : SpellsPlan problem.grid plan Two (length problem.agents) (answers.Found paths)
  pub certified : SpellsClaim Cbsh problem (claims.Bound bound) cert
  pub valid : IsValid problem paths
  pub sum : IsSumOfCosts problem.agents paths cost
  pub holds : IsLowerBound problem bound
  pub below : bound < cost
  pub accepted : AreAccepted problem plan cert (verdicts.Within bound cost)

-- what the two texts of an answer of this search are, by the kind of answer
abbrev pub Prints : Search → Instance → Kind → List ℕ → List ℕ → Type 0
Prints search problem (Found cost) plan cert = PrintsOptimal search problem cost plan cert
Prints search problem Impossible plan cert = PrintsImpossible search problem plan cert
Prints search problem (Limit cause bound) plan cert = PrintsLimit search problem cause bound plan cert
Prints search problem (Within bound cost) plan cert = PrintsWithin search problem bound cost plan cert

-- an answer and its two texts are exactly this kind of answer and these texts
abbrev pub AreExactTexts : Kind → List ℕ → List ℕ → Kind → List ℕ → List ℕ → Type 0
AreExactTexts kind plan cert answer plan_text cert_text = (answer ≡ kind) × (plan_text ≡ plan) × (cert_text ≡ cert)

-- the bytes of the plan text
abbrev pub plan_bytes : Instance → Solved → List ℕ
plan_bytes problem solved = plan_text problem.grid.width solved.text

-- the bytes of the certificate
abbrev pub cert_bytes : Instance → Solved → List ℕ
cert_bytes problem solved = cert_text Two problem.grid.width (length problem.agents) solved.claim solved.tree.items

-- the two texts of a problem that plain search solved are as its answer says
abbrev pub IsSolved : Instance → Solved → Type 0
IsSolved problem solved = Prints Cbs problem solved.kind (plan_bytes problem solved) (cert_bytes problem solved)
