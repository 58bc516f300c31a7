-- What the judge of a certificate of version 3 returns.
use Rattle.std.specs.Prelude.{◌≢◌, ◌↔◌, ℕ, List, Option, IfSome}
use Rattle.std.specs.Prelude.{length}
use Rattle.mapf_certificate.specs.declared.cert.CertFault.TheVariants as certs
use Rattle.mapf_lemmas.specs.Cases.{CaseTree}
use Rattle.mapf_lemmas.specs.Lemmas.{Lemma, CertificateShows, target_of}
use Rattle.mapf_lemmas.specs.Prices.{PriceList}
use Rattle.mapf_lemma_checker.specs.Answers.{FitsAnswer}
use Rattle.mapf_lemma_checker.specs.BadParts.{BeginsWithLemmaHeader, HasBadPartInCert}
use Rattle.mapf_lemma_checker.specs.declared.fault.LemmaRefusal.{LemmaRefusal}
use Rattle.mapf_lemma_checker.specs.declared.fault.LemmaRefusal.TheVariants.{C2, C3, C4}
use Rattle.mapf_lemma_checker.specs.States.{JudgeState, first_state, ShowParts}
use Rattle.mapf_lemma_texts.specs.WholeTexts.{SpellsCertificate, parts_of}
use Rattle.mapf_model.specs.declared.item.Claim.{Claim}
use Rattle.mapf_model.specs.Plan.{Instance}

-- the bytes spell a certificate of version 3 for the problem that shows the claim
pub record IsGoodLemmaCert (problem : Instance) (claim : Claim) (bytes : List ℕ) : Type 0 where
  pub lists : List PriceList
  pub lemmas : List Lemma
  pub tree : CaseTree
  pub spelled : SpellsCertificate problem.grid.width problem.grid.height bytes (length problem.agents) claim lists
      lemmas tree
  pub shows : CertificateShows problem lists lemmas tree claim

-- some certificate of version 3 shows the claim
pub record IsShownByLemmas (problem : Instance) (claim : Claim) : Type 0 where
  pub lists : List PriceList
  pub lemmas : List Lemma
  pub tree : CaseTree
  pub shows : CertificateShows problem lists lemmas tree claim

-- the bytes have the defect that a refusal tells by its code. C2: they spell no certificate. C3: they begin with a
-- header for another number of agents. C4: they begin with a header for the problem, and its claim doesn't fit the
-- answer. C6 to C10: they begin with a header for the problem, whose claim fits, and with parts of which the last
-- doesn't show what it has to show
abbrev pub HasLemmaDefect : Instance → Claim → List ℕ → LemmaRefusal → Type 0
HasLemmaDefect problem answer bytes (C2 fault) =
    (agents : ℕ) (claim : Claim) (lists : List PriceList) (lemmas : List Lemma) (tree : CaseTree) →
    SpellsCertificate problem.grid.width problem.grid.height bytes agents claim lists lemmas tree → ⊥
HasLemmaDefect problem answer bytes C3 =
    (agents : ℕ) × (claim : Claim) × BeginsWithLemmaHeader problem bytes agents claim × (agents ≢ length problem.agents)
HasLemmaDefect problem answer bytes C4 =
    (claim : Claim) × BeginsWithLemmaHeader problem bytes (length problem.agents) claim × (FitsAnswer answer claim → ⊥)
HasLemmaDefect problem answer bytes refusal = HasBadPartInCert problem answer bytes

-- what a refusal says of the certificate, whose bytes may be unknown: they spell no certificate that shows a claim
-- which fits the answer, and they have the refusal's defect
abbrev pub HasLemmaRefusal : Instance → Claim → Option (List ℕ) → LemmaRefusal → Type 0
HasLemmaRefusal problem answer known refusal =
    (refusal ≢ C2 certs.Memory) × IfSome known (λ bytes.
    ((claim : Claim) → FitsAnswer answer claim → IsGoodLemmaCert problem claim bytes → ⊥)
    × HasLemmaDefect problem answer bytes refusal)

-- the parts of a certificate, one after another, show what they have to show exactly if the certificate shows its claim
abbrev pub PartsShowCertificates : Type 0
PartsShowCertificates =
    (problem : Instance) (lists : List PriceList) (lemmas : List Lemma) (tree : CaseTree) (claim : Claim) →
    CertificateShows problem lists lemmas tree claim
    ↔ ((last : JudgeState) × ShowParts problem (target_of claim) first_state (parts_of lists lemmas tree) last)
