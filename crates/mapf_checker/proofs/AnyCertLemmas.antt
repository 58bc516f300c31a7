-- A certificate of any version: what is known of it after its first line was read.
use Rattle.std.proofs.Common.{◌≡◌, ◌≢◌, ◌↔◌, ◌≤◌, ◌+◌, ℕ, Bool, List, [], ◌++◌, Option, Some, None, IfSome, IsTrue, option_map, length, refl, sym, ◌∙◌, ap, subst, inl, inr, arith}
use Rattle.mapf_model.specs.declared.item.Claim.{Claim}
use Rattle.mapf_model.specs.Plan.{Instance}
use Rattle.mapf_certificate.specs.declared.cert.CertFault.TheVariants as texts
use Rattle.mapf_certificate.specs.declared.cert.LinesFault.{LinesFault}
use Rattle.mapf_certificate.specs.declared.cert.LinesFault.TheVariants.{Text, Device, TooLong, Memory}
use Rattle.mapf_certificate.specs.declared.tree_line.Due.TheVariants as dues
use Rattle.mapf_certificate.specs.Bounded.{BeginsWithLine}
use Rattle.mapf_certificate.specs.Buffered.{Buffered}
use Rattle.mapf_certificate.specs.Window.{Window, Fails, IsNoTextFault}
use Rattle.mapf_certificate.proofs.Windows.{Window-known, ComesWithin-after, Exceeds-after, Fails-not, refuses_within}
use Rattle.mapf_lemma_checker.specs.Answers.{FitsAnswer}
use Rattle.mapf_lemma_checker.specs.Whole.{HasLemmaDefect, HasLemmaRefusal, IsGoodLemmaCert}
use Rattle.mapf_lemma_checker.specs.declared.fault.LemmaFault.{LemmaFault}
use Rattle.mapf_lemma_checker.specs.declared.fault.LemmaFault.TheVariants as lemmas
use Rattle.mapf_lemma_checker.specs.declared.fault.LemmaRefusal.{LemmaRefusal}
use Rattle.mapf_lemma_checker.specs.declared.fault.LemmaRefusal.TheVariants as lemma_refusals
use Rattle.mapf_lemma_checker.specs.Faults.{IsOfChecking as IsOfLemmaChecking, IsNoRefusal as IsNoLemmaRefusal}
use Rattle.mapf_checker.specs.declared.fault.CheckFault.{CheckFault}
use Rattle.mapf_checker.specs.declared.fault.CheckFault.TheVariants.{C2, C3, C4, C6, C7, C8, C9}
use Rattle.mapf_checker.specs.declared.fault.FromFault.{FromFault}
use Rattle.mapf_checker.specs.Faults.{of_cert, of_lemma_refusal, of_lemmas, IsOfChecking, IsNoRefusal}
use Rattle.mapf_checker.specs.Refusals.{BeginsVersionThree, HasCertRefusal, HasTreeCertRefusal, IsOfLemmas}
use Rattle.mapf_checker.specs.Verdict.{IsGoodCert, IsGoodTreeCert}
use Rattle.mapf_checker.proofs.CertLemmas.{stops_after}
use Rattle.mapf_checker.proofs.TitleLemmas.{title_of_tree, title_of_lemmas, titles_differ}

-- the buffer before anything was read
abbrev pub opened : ℕ → Buffered
opened limit = record { bytes = []; left = limit }

-- the bytes in the buffer and those that then come, if they are known
abbrev pub all_bytes : Buffered → Option (List ℕ) → Option (List ℕ)
all_bytes buffer known = option_map (λ bytes. buffer.bytes ++ bytes) known

-- a property of known bytes
if_some : (o : Option (List ℕ)) (P : List ℕ → Type 0) → ((bytes : List ℕ) → o ≡ Some bytes → P bytes) → IfSome o P
if_some None P holds = tt
if_some (Some bytes) P holds = holds bytes refl

-- a property of bytes that are known of another source too
some_seen : (had known : Option (List ℕ)) (P : List ℕ → Type 0) → ((bytes : List ℕ) → had ≡ Some bytes → known ≡ Some bytes) → IfSome known P → IfSome had P
some_seen None known P seen holds = tt
some_seen (Some bytes) known P seen holds = subst (λ o. IfSome o P) (seen bytes refl) holds

tree_refusal_seen : (problem : Instance) (claim : Claim) (had known : Option (List ℕ)) → ((bytes : List ℕ) → had ≡ Some bytes → known ≡ Some bytes) → (refusal : CheckFault) → HasTreeCertRefusal problem claim known refusal → HasTreeCertRefusal problem claim had refusal
tree_refusal_seen problem claim had known seen (C2 fault) is = (is.0, some_seen had known _ seen is.1)
tree_refusal_seen problem claim had known seen C3 is = some_seen had known _ seen is
tree_refusal_seen problem claim had known seen C4 is = some_seen had known _ seen is
tree_refusal_seen problem claim had known seen (C6 line) is = some_seen had known _ seen is
tree_refusal_seen problem claim had known seen (C7 line) is = some_seen had known _ seen is
tree_refusal_seen problem claim had known seen (C8 line) is = some_seen had known _ seen is
tree_refusal_seen problem claim had known seen (C9 line) is = some_seen had known _ seen is
tree_refusal_seen problem claim had known seen refusal is = absurd is

is_of_lemmas : (refusal : LemmaRefusal) → refusal ≢ lemma_refusals.C2 texts.Memory → IsOfLemmas (of_lemma_refusal refusal)
is_of_lemmas (lemma_refusals.C2 fault) other = λ e. other (ap lemma_refusals.C2 e)
is_of_lemmas lemma_refusals.C3 other = tt
is_of_lemmas lemma_refusals.C4 other = tt
is_of_lemmas (lemma_refusals.C6 line) other = tt
is_of_lemmas (lemma_refusals.C7 line) other = tt
is_of_lemmas (lemma_refusals.C8 line) other = tt
is_of_lemmas (lemma_refusals.C9 line) other = tt
is_of_lemmas (lemma_refusals.C10 line) other = tt

-- why there is no first line is why the certificate is refused
pub stops_at_title : (problem : Instance) (answer : Claim) (had left : Option (List ℕ)) (failed : Bool) (limit : ℕ) (fault : LinesFault) → Fails had left failed (opened limit) (BeginsWithLine dues.Title) fault → Fails had left failed (opened limit) BeginsVersionThree fault →
    IsOfChecking had left failed (opened limit) (HasCertRefusal problem answer had) (of_cert fault)
stops_at_title problem answer had left failed limit (Text texts.Memory) old new = absurd old
stops_at_title problem answer had left failed limit (Text fault) old new = (
  old.0,
  refuses_within had left (opened limit) (BeginsWithLine dues.Title) old.1,
  inl (
    if_some had (λ bytes. BeginsVersionThree bytes → ⊥) (λ bytes known begins. Fails-not had left failed (opened limit) BeginsVersionThree (Text fault) bytes new known begins),
    (λ e. cc, if_some had _ (λ bytes known version agents claimed tree spells. Fails-not had left failed (opened limit) (BeginsWithLine dues.Title) (Text fault) bytes old known (title_of_tree problem.grid bytes version agents claimed tree spells))),
  ),
)
stops_at_title problem answer had left failed limit Device old new = old
stops_at_title problem answer had left failed limit TooLong old new = old
stops_at_title problem answer had left failed limit Memory old new = old

-- a text that is good isn't refused there
pub title_not_refused : (problem : Instance) (answer claimed : Claim) (had left : Option (List ℕ)) (failed : Bool) (limit : ℕ) (fault : LinesFault) → Fails had left failed (opened limit) (BeginsWithLine dues.Title) fault → Fails had left failed (opened limit) BeginsVersionThree fault →
    (bytes : List ℕ) → had ≡ Some bytes → IsGoodCert problem answer claimed bytes → IsNoTextFault fault
title_not_refused problem answer claimed had left failed limit fault old new bytes known (inl (same, good)) = Fails-not had left failed (opened limit) (BeginsWithLine dues.Title) fault bytes old known (title_of_tree problem.grid bytes good.version (length problem.agents) claimed good.tree good.spelled)
title_not_refused problem answer claimed had left failed limit fault old new bytes known (inr good) = Fails-not had left failed (opened limit) BeginsVersionThree fault bytes new known (title_of_lemmas problem claimed bytes good)

-- after the first line was read into the buffer
module _ (problem : Instance) (answer : Claim) (had mid : Option (List ℕ)) (limit : ℕ) (buffer : Buffered) (window : Window had mid (opened limit) buffer []) (is : Bool)
    (title : (more : List ℕ) → IsTrue is ↔ BeginsVersionThree (buffer.bytes ++ more)) where
  -- what is known of the whole text
  pub known_after : (bytes : List ℕ) → had ≡ Some bytes → (rest : List ℕ) × (mid ≡ Some rest) × (bytes ≡ buffer.bytes ++ rest) × (length bytes + buffer.left ≡ length rest + limit)
  known_after bytes known = Window-known had mid (opened limit) buffer [] bytes window known

  seen : (bytes : List ℕ) → had ≡ Some bytes → all_bytes buffer mid ≡ Some bytes
  seen bytes known = let (rest, known_mid, same, count) = known_after bytes known in ap (all_bytes buffer) known_mid ∙ ap Some (sym same)

  -- the first line tells of which version the text is
  pub tells : (bytes : List ℕ) → had ≡ Some bytes → IsTrue is ↔ BeginsVersionThree bytes
  tells bytes known = let (rest, known_mid, same, count) = known_after bytes known in subst (λ b. IsTrue is ↔ BeginsVersionThree b) (sym same) (title rest)

  -- no more bytes came than are allowed
  pub within_after : ((rest : List ℕ) → mid ≡ Some rest → length rest ≤ buffer.left) → (bytes : List ℕ) → had ≡ Some bytes → length bytes ≤ limit
  within_after within bytes known = let (rest, known_mid, same, count) = known_after bytes known in omega (arith, count, within rest known_mid)

  -- what is good after the first line is good
  pub tree_good : ((rest : List ℕ) → mid ≡ Some rest → IsGoodTreeCert problem answer (buffer.bytes ++ rest)) → (bytes : List ℕ) → had ≡ Some bytes → IsGoodCert problem answer answer bytes
  tree_good good bytes known = let (rest, known_mid, same, count) = known_after bytes known in inl (refl, subst (λ b. IsGoodTreeCert problem answer b) (sym same) (good rest known_mid))

  -- a good text of version 3 is of version 3
  pub lemmas_only : IsTrue is → (claimed : Claim) (bytes : List ℕ) → had ≡ Some bytes → IsGoodCert problem answer claimed bytes → (rest : List ℕ) × (mid ≡ Some rest) × IsGoodLemmaCert problem claimed (buffer.bytes ++ rest)
  lemmas_only is_three claimed bytes known (inl (same, good)) = absurd (titles_differ bytes (title_of_tree problem.grid bytes good.version (length problem.agents) claimed good.tree good.spelled) ((tells bytes known).0 is_three))
  lemmas_only is_three claimed bytes known (inr good) = let (rest, known_mid, same, count) = known_after bytes known in (rest, known_mid, subst (λ b. IsGoodLemmaCert problem claimed b) same good)

  -- and another good text is of version 1 or 2
  pub tree_only : (IsTrue is → ⊥) → (claimed : Claim) (bytes : List ℕ) → had ≡ Some bytes → IsGoodCert problem answer claimed bytes → (claimed ≡ answer) × (rest : List ℕ) × (mid ≡ Some rest) × IsGoodTreeCert problem answer (buffer.bytes ++ rest)
  tree_only is_other claimed bytes known (inl (is_answer, good)) =
      let (rest, known_mid, same, count) = known_after bytes known in
      (is_answer, rest, known_mid, subst (λ c. IsGoodTreeCert problem c (buffer.bytes ++ rest)) is_answer (subst (λ b. IsGoodTreeCert problem claimed b) same good))
  tree_only is_other claimed bytes known (inr good) = absurd (is_other ((tells bytes known).1 (title_of_lemmas problem claimed bytes good)))

  -- a refusal of the judge of version 3 is one of the certificate
  lemma_refusal : IsTrue is → (refusal : LemmaRefusal) → HasLemmaRefusal problem answer (all_bytes buffer mid) refusal → HasCertRefusal problem answer had (of_lemma_refusal refusal)
  lemma_refusal is_three refusal (other, says) = inr (is_of_lemmas refusal other, if_some had _ (λ bytes known. let (none, defect) = says_of bytes known in ((tells bytes known).0 is_three, none, (refusal, refl, defect))))
    where
      says_of : (bytes : List ℕ) → had ≡ Some bytes → ((claimed : Claim) → FitsAnswer answer claimed → IsGoodLemmaCert problem claimed bytes → ⊥) × HasLemmaDefect problem answer bytes refusal
      says_of bytes known = subst (λ o. IfSome o (λ b. ((claimed : Claim) → FitsAnswer answer claimed → IsGoodLemmaCert problem claimed b → ⊥) × HasLemmaDefect problem answer b refusal)) (seen bytes known) says

  pub stops_at_lemmas : IsTrue is → (left : Option (List ℕ)) (failed : Bool) (fault : LemmaFault) → IsOfLemmaChecking mid left failed buffer (HasLemmaRefusal problem answer (all_bytes buffer mid)) fault → IsOfChecking had left failed (opened limit) (HasCertRefusal problem answer had) (of_lemmas fault)
  stops_at_lemmas is_three left failed (lemmas.Refused refusal) stops = (stops.0, ComesWithin-after had mid left (opened limit) buffer [] window stops.1, lemma_refusal is_three refusal stops.2)
  stops_at_lemmas is_three left failed lemmas.Device stops = (stops.0, ComesWithin-after had mid left (opened limit) buffer [] window stops.1)
  stops_at_lemmas is_three left failed lemmas.TooLong stops = (stops.0, Exceeds-after had mid left (opened limit) buffer [] window stops.1)
  stops_at_lemmas is_three left failed lemmas.Memory stops = (stops.0, ComesWithin-after had mid left (opened limit) buffer [] window stops.1)

  -- a refusal of the judge of versions 1 and 2 is one of the certificate
  tree_refusal : (IsTrue is → ⊥) → (refusal : CheckFault) → HasTreeCertRefusal problem answer (all_bytes buffer mid) refusal → HasCertRefusal problem answer had refusal
  tree_refusal is_other refusal bad = inl (if_some had (λ bytes. BeginsVersionThree bytes → ⊥) (λ bytes known begins. is_other ((tells bytes known).1 begins)), tree_refusal_seen problem answer had (all_bytes buffer mid) seen refusal bad)

  pub stops_at_tree : (IsTrue is → ⊥) → (left : Option (List ℕ)) (failed : Bool) (fault : FromFault) → IsOfChecking mid left failed buffer (HasTreeCertRefusal problem answer (all_bytes buffer mid)) fault → IsOfChecking had left failed (opened limit) (HasCertRefusal problem answer had) fault
  stops_at_tree is_other left failed fault stops = stops_after had mid left failed (opened limit) buffer [] fault window (tree_refusal is_other) stops

pub no_lemma_refusal : (fault : LemmaFault) → IsNoLemmaRefusal fault → IsNoRefusal (of_lemmas fault)
no_lemma_refusal (lemmas.Refused refusal) is = absurd is
no_lemma_refusal lemmas.Device is = tt
no_lemma_refusal lemmas.TooLong is = tt
no_lemma_refusal lemmas.Memory is = tt
