-- A certificate's header and parts together.
use Rattle.std.proofs.Common.{◌≡◌, ◌≢◌, ℕ, ◌≤◌, Bool, List, [], ◌∷◌, ◌++◌, Option, Some, None, IfSome, Result, Ok, Err, IfErr, IsErrAnd, MatchResult, option_map, length, refl, sym, ◌∙◌, subst, arith}
use Rattle.std.proofs.lemmas.Option.{same_Some}
use Rattle.mapf_certificate.specs.Buffered.{Buffered}
use Rattle.mapf_certificate.specs.Window.{ComesWithin, Exceeds, Window}
use Rattle.mapf_certificate.proofs.Windows.{ComesWithin-after, Exceeds-after, Window-known}
use Rattle.mapf_lemmas.specs.Cases.{CaseTree}
use Rattle.mapf_lemmas.specs.Lemmas.{Lemma, target_of}
use Rattle.mapf_lemmas.specs.Prices.{PriceList}
use Rattle.mapf_lemma_checker.specs.declared.fault.LemmaFault.{LemmaFault}
use Rattle.mapf_lemma_checker.specs.declared.fault.LemmaFault.TheVariants as faults
use Rattle.mapf_lemma_checker.specs.declared.fault.LemmaRefusal.{LemmaRefusal}
use Rattle.mapf_lemma_checker.specs.declared.fault.LemmaRefusal.TheVariants.{C2, C3, C4, C6, C7, C8, C9, C10}
use Rattle.mapf_lemma_checker.specs.Answers.{FitsAnswer}
use Rattle.mapf_lemma_checker.specs.BadParts.{BeginBadly, BeginsWithLemmaHeader, HasBadPart, HasBadPartInCert}
use Rattle.mapf_lemma_checker.specs.CertJudging.{AreJudgedParts, HasHeaderDefect, HasHeaderRefusal, HasPartDefect, HasPartRefusal, IsBetweenParts, IsOpened, IsStateAt}
use Rattle.mapf_lemma_checker.specs.Faults.{IsNoRefusal, IsOfChecking}
use Rattle.mapf_lemma_checker.specs.States.{JudgeState, ShowParts, first_state}
use Rattle.mapf_lemma_checker.specs.Whole.{HasLemmaDefect, HasLemmaRefusal, IsGoodLemmaCert, IsShownByLemmas, PartsShowCertificates}
use Rattle.mapf_lemma_checker.proofs.JudgedLemmas.{sizes_same}
use Rattle.mapf_lemma_texts.specs.PartReading.{AwaitsParts, AwaitsText, IsLemmaText, IsRest, PartReading, TakesHeader, header_text}
use Rattle.mapf_lemma_texts.specs.WholeTexts.{SpellsCertificate, TextsHaveTrees, TreesHaveTexts, parts_of}
use Rattle.mapf_lemma_texts.specs.declared.due.Due.{Due}
use Rattle.mapf_lemma_texts.specs.declared.due.Due.TheVariants as dues
use Rattle.mapf_lemma_texts.specs.declared.part.Part.{Part}
use Rattle.mapf_lemma_texts.specs.declared.sizes.LineSizes.{LineSizes}
use Rattle.mapf_model.specs.declared.item.Claim.{Claim}
use Rattle.mapf_model.specs.Plan.{Instance}

-- a property of bytes that are made of known ones
pub if_made : {X Y : Type 0} (o : Option X) (f : X → Y) (P : Y → Type 0) → ((x : X) → o ≡ Some x → P (f x)) → IfSome (option_map f o) P
if_made None f P holds = tt
if_made (Some x) f P holds = holds x refl

-- the bytes begin with the header that was read
pub begins : (problem : Instance) (had left : Option (List ℕ)) (start new : PartReading) → IsOpened problem start → (agents : ℕ) (claim : Claim) → TakesHeader had left start new agents claim → (bytes : List ℕ) → had ≡ Some bytes →
    BeginsWithLemmaHeader problem (start.buffer.bytes ++ bytes) agents claim
begins problem had left start new opened agents claim takes bytes known =
    let (after, known_left, same, count) = Window-known had left start.buffer new.buffer (header_text start.width agents claim) bytes takes.window known in
    record {
      agents_in_range = takes.agents_in_range;
      claim_in_range = takes.claim_in_range;
      rest = new.buffer.bytes ++ after;
      spelled = subst (λ (w : ℕ). start.buffer.bytes ++ bytes ≡ header_text w agents claim ++ (new.buffer.bytes ++ after)) opened.width_is same;
    }

module _ (problem : Instance) (had : Option (List ℕ)) (start : PartReading) (opened : IsOpened problem start) (buffer : Buffered) (same : start.buffer ≡ buffer) where
  -- what spells a certificate is awaited
  pub awaits_spelled : TreesHaveTexts → (bytes : List ℕ) → had ≡ Some bytes → (agents : ℕ) (claim : Claim) (lists : List PriceList) (lemmas : List Lemma) (tree : CaseTree) →
      SpellsCertificate problem.grid.width problem.grid.height (buffer.bytes ++ bytes) agents claim lists lemmas tree → AwaitsText had start agents claim (parts_of lists lemmas tree)
  awaits_spelled have bytes known agents claim lists lemmas tree spells =
      let ps = parts_of lists lemmas tree in
      record {
        bytes = bytes;
        known = known;
        text = subst (λ (b : Buffered). IsLemmaText start.width start.height start.due agents claim ps (b.bytes ++ bytes)) (sym same)
            (subst (λ (w : ℕ). IsLemmaText w start.height start.due agents claim ps (buffer.bytes ++ bytes)) (sym opened.width_is)
            (subst (λ (h : ℕ). IsLemmaText problem.grid.width h start.due agents claim ps (buffer.bytes ++ bytes)) (sym opened.height_is)
            (subst (λ (d : Due). IsLemmaText problem.grid.width problem.grid.height d agents claim ps (buffer.bytes ++ bytes)) (sym opened.first_due)
            (have problem.grid.width problem.grid.height (buffer.bytes ++ bytes) agents claim lists lemmas tree spells))));
      }

  -- what is awaited is a text
  text_awaited : (bytes : List ℕ) → had ≡ Some bytes → (agents : ℕ) (claim : Claim) (ps : List Part) → AwaitsText had start agents claim ps → IsLemmaText problem.grid.width problem.grid.height dues.Prices agents claim ps (buffer.bytes ++ bytes)
  text_awaited bytes known agents claim ps awaits =
      let came : awaits.bytes ≡ bytes = same_Some awaits.bytes bytes (sym awaits.known ∙ known) in
      subst (λ (b : Buffered). IsLemmaText problem.grid.width problem.grid.height dues.Prices agents claim ps (b.bytes ++ bytes)) same
      (subst (λ (t : List ℕ). IsLemmaText problem.grid.width problem.grid.height dues.Prices agents claim ps (start.buffer.bytes ++ t)) came
      (subst (λ (d : Due). IsLemmaText problem.grid.width problem.grid.height d agents claim ps (start.buffer.bytes ++ awaits.bytes)) opened.first_due
      (subst (λ (h : ℕ). IsLemmaText problem.grid.width h start.due agents claim ps (start.buffer.bytes ++ awaits.bytes)) opened.height_is
      (subst (λ (w : ℕ). IsLemmaText w start.height start.due agents claim ps (start.buffer.bytes ++ awaits.bytes)) opened.width_is awaits.text))))

  -- what is wrong with the header is wrong with the certificate
  header_defect : TreesHaveTexts → (answer : Claim) (refusal : LemmaRefusal) → HasHeaderDefect problem answer had start refusal → (bytes : List ℕ) → had ≡ Some bytes → HasLemmaDefect problem answer (buffer.bytes ++ bytes) refusal
  header_defect have answer (C2 fault) none bytes known = λ agents claim lists lemmas tree spells. none agents claim (parts_of lists lemmas tree) (awaits_spelled have bytes known agents claim lists lemmas tree spells)
  header_defect have answer C3 defect bytes known = subst (λ (b : Buffered). HasLemmaDefect problem answer (b.bytes ++ bytes) C3) same (defect bytes known)
  header_defect have answer C4 defect bytes known = subst (λ (b : Buffered). HasLemmaDefect problem answer (b.bytes ++ bytes) C4) same (defect bytes known)
  header_defect have answer refusal defect bytes known = absurd defect

  -- so a refusal of the header is one of the certificate
  pub header_refusal : TreesHaveTexts → (answer : Claim) (refusal : LemmaRefusal) → HasHeaderRefusal problem answer had start refusal → HasLemmaRefusal problem answer (option_map (λ bytes. buffer.bytes ++ bytes) had) refusal
  header_refusal have answer refusal (other, none, defect) = (
    other,
    if_made had (λ bytes. buffer.bytes ++ bytes) _ (λ bytes known. (
      (λ claim fits good.
          none claim (parts_of good.lists good.lemmas good.tree) fits (awaits_spelled have bytes known (length problem.agents) claim good.lists good.lemmas good.tree good.spelled)),
      header_defect have answer refusal defect bytes known,
    )),
  )

  -- the parts of a certificate that shows its claim show what they have to show
  parts_show : PartsShowCertificates → (claim : Claim) (bytes : List ℕ) (good : IsGoodLemmaCert problem claim bytes) → (last : JudgeState) × ShowParts problem (target_of claim) first_state (parts_of good.lists good.lemmas good.tree) last
  parts_show show claim bytes good = (show problem good.lists good.lemmas good.tree claim).0 good.shows

  module _ (mid : Option (List ℕ)) (headed : PartReading) (claim : Claim) (takes : TakesHeader had mid start headed (length problem.agents) claim) where
    module _ (due : headed.due ≡ dues.Prices) (answer : Claim) (fits : FitsAnswer answer claim)
        (ahead : (agents : ℕ) (other : Claim) (parts : List Part) → AwaitsText had start agents other parts → (claim ≡ other) × AwaitsParts mid headed parts) where
      -- a bad part is one of the certificate
      bad_in_cert : ((rest : List ℕ) → mid ≡ Some rest → HasBadPart problem (target_of claim) headed first_state (headed.buffer.bytes ++ rest)) → (bytes : List ℕ) → had ≡ Some bytes → HasBadPartInCert problem answer (buffer.bytes ++ bytes)
      bad_in_cert bad bytes known =
          let target = target_of claim in
          let (rest, known_mid, spelled, count) = Window-known had mid start.buffer headed.buffer (header_text start.width (length problem.agents) claim) bytes takes.window known in
          let part = bad rest known_mid in
          let one_size : part.sizes ≡ takes.sizes = sizes_same headed.header part.sizes takes.sizes part.claim claim part.header takes.header in
          let in_buffer = subst (λ (b : Buffered). b.bytes ++ bytes ≡ header_text start.width (length problem.agents) claim ++ (headed.buffer.bytes ++ rest)) same spelled in
          record {
            claim = claim;
            fits = fits;
            header = record {
              agents_in_range = takes.agents_in_range;
              claim_in_range = takes.claim_in_range;
              rest = headed.buffer.bytes ++ rest;
              spelled = subst (λ (w : ℕ). buffer.bytes ++ bytes ≡ header_text w (length problem.agents) claim ++ (headed.buffer.bytes ++ rest)) opened.width_is in_buffer;
            };
            sizes = takes.sizes;
            first_sizes = record {
              width_is = takes.first_sizes.width_is ∙ opened.width_is;
              height_is = takes.first_sizes.height_is ∙ opened.height_is;
              agents_are = takes.first_sizes.agents_are;
              no_lists = takes.first_sizes.no_lists;
            };
            parts = part.parts;
            bad = part.bad;
            begin = subst (λ (s : LineSizes). BeginBadly problem target s dues.Prices first_state part.parts part.bad (headed.buffer.bytes ++ rest)) one_size
                (subst (λ (d : Due). BeginBadly problem target part.sizes d first_state part.parts part.bad (headed.buffer.bytes ++ rest)) due part.begin);
          }

      -- what is wrong after it is wrong with the certificate
      parts_defect : TreesHaveTexts → (refusal : LemmaRefusal) → HasPartDefect problem (target_of claim) mid headed refusal → (bytes : List ℕ) → had ≡ Some bytes → HasLemmaDefect problem answer (buffer.bytes ++ bytes) refusal
      parts_defect have (C2 fault) none bytes known = λ agents other lists lemmas tree spells.
          let ps = parts_of lists lemmas tree in
          none ps (ahead agents other ps (awaits_spelled have bytes known agents other lists lemmas tree spells)).1
      parts_defect have C3 defect bytes known = absurd defect
      parts_defect have C4 defect bytes known = absurd defect
      parts_defect have (C6 line) defect bytes known = bad_in_cert defect bytes known
      parts_defect have (C7 line) defect bytes known = bad_in_cert defect bytes known
      parts_defect have (C8 line) defect bytes known = bad_in_cert defect bytes known
      parts_defect have (C9 line) defect bytes known = bad_in_cert defect bytes known
      parts_defect have (C10 line) defect bytes known = bad_in_cert defect bytes known

      -- so a refusal of the parts is one of the certificate
      pub parts_refusal : TreesHaveTexts → PartsShowCertificates → (refusal : LemmaRefusal) → HasPartRefusal problem (target_of claim) mid headed refusal →
          HasLemmaRefusal problem answer (option_map (λ bytes. buffer.bytes ++ bytes) had) refusal
      parts_refusal have show refusal (other, none, defect) = (
        other,
        if_made had (λ bytes. buffer.bytes ++ bytes) _ (λ bytes known. (
          (λ given fits_too good.
              let ps = parts_of good.lists good.lemmas good.tree in
              let (is, awaits) = ahead (length problem.agents) given ps (awaits_spelled have bytes known (length problem.agents) given good.lists good.lemmas good.tree good.spelled) in
              let (last, shown) = parts_show show given (buffer.bytes ++ bytes) good in
              none ps last awaits (subst (λ (c : Claim). ShowParts problem (target_of c) first_state ps last) (sym is) shown)),
          parts_defect have refusal defect bytes known,
        )),
      )

    -- parts that were judged are those of a certificate that shows the claim
    pub good_cert : TextsHaveTrees → PartsShowCertificates → AreJudgedParts problem (target_of claim) mid headed → (bytes : List ℕ) → had ≡ Some bytes → IsGoodLemmaCert problem claim (buffer.bytes ++ bytes)
    good_cert have show judged bytes known =
        let (rest, known_mid, spelled, count) = Window-known had mid start.buffer headed.buffer (header_text start.width (length problem.agents) claim) bytes takes.window known in
        let awaits = takes.joins bytes known judged.parts (judged.read rest known_mid) in
        let (lists, lemmas, tree, is, spells) = have problem.grid.width problem.grid.height (length problem.agents) claim judged.parts (buffer.bytes ++ bytes) (text_awaited bytes known (length problem.agents) claim judged.parts awaits) in
        record {
          lists = lists;
          lemmas = lemmas;
          tree = tree;
          spelled = spells;
          shows = (show problem lists lemmas tree claim).1 (judged.last, subst (λ (ps : List Part). ShowParts problem (target_of claim) first_state ps judged.last) is judged.shown);
        }

    -- also where the source doesn't report its bytes
    pub shown_cert : TextsHaveTrees → PartsShowCertificates → headed.due ≡ dues.Prices → AreJudgedParts problem (target_of claim) mid headed → IsShownByLemmas problem claim
    shown_cert have show due judged =
        let spells = judged.placed in
        let width = start.width in
        let one_size : spells.sizes ≡ takes.sizes = sizes_same headed.header spells.sizes takes.sizes spells.claim claim spells.header takes.header in
        let text : IsLemmaText width start.height dues.Prices (length problem.agents) claim judged.parts (header_text width (length problem.agents) claim ++ judged.text) = record {
          agents_in_range = takes.agents_in_range;
          claim_in_range = takes.claim_in_range;
          sizes = takes.sizes;
          first_sizes = takes.first_sizes;
          after = judged.text;
          spelled = refl;
          rest = subst (λ (s : LineSizes). IsRest s dues.Prices judged.parts judged.text) one_size (subst (λ (d : Due). IsRest spells.sizes d judged.parts judged.text) due spells.rest);
        } in
        let (lists, lemmas, tree, is, spelled) = have width start.height (length problem.agents) claim judged.parts (header_text width (length problem.agents) claim ++ judged.text) text in
        record {
          lists = lists;
          lemmas = lemmas;
          tree = tree;
          shows = (show problem lists lemmas tree claim).1 (judged.last, subst (λ (ps : List Part). ShowParts problem (target_of claim) first_state ps judged.last) is judged.shown);
        }

    -- and no more bytes came than are allowed
    pub cert_within : AreJudgedParts problem (target_of claim) mid headed → (bytes : List ℕ) → had ≡ Some bytes → length bytes ≤ buffer.left
    cert_within judged bytes known =
        let (rest, known_mid, spelled, count) = Window-known had mid start.buffer headed.buffer (header_text start.width (length problem.agents) claim) bytes takes.window known in
        let within : length bytes ≤ start.buffer.left = omega (arith, count, judged.within rest known_mid) in
        subst (λ (b : Buffered). length bytes ≤ b.left) same within

-- after the header of the certificate the number of lists is due
pub headed : (problem : Instance) (had left : Option (List ℕ)) (old new : PartReading) (claim : Claim) → IsOpened problem old → TakesHeader had left old new (length problem.agents) claim → new.fault ≡ None → new.is_whole ≡ old.is_whole → new.due ≡ old.due →
    IsBetweenParts problem (target_of claim) new first_state
headed problem had left old new claim opened takes no_fault going due = record {
  sizes = takes.sizes;
  claim = claim;
  header = takes.header;
  of_problem = record {
    width_is = takes.first_sizes.width_is ∙ opened.width_is;
    height_is = takes.first_sizes.height_is ∙ opened.height_is;
    agents_are = takes.first_sizes.agents_are;
  };
  no_fault = no_fault;
  going = going ∙ opened.going;
  state_at = subst (λ (d : Due). IsStateAt problem (target_of claim) takes.sizes.lists d first_state) (sym (due ∙ opened.first_due)) (refl, refl, takes.first_sizes.no_lists);
}

-- a weaker statement about the same error
pub stops_as : (P Q : LemmaRefusal → Type 0) (had left : Option (List ℕ)) (failed : Bool) (old new : Buffered) (fault : LemmaFault) → old ≡ new → ((refusal : LemmaRefusal) → P refusal → Q refusal) → IsOfChecking had left failed old P fault → IsOfChecking had left failed new Q fault
stops_as P Q had left failed old new (faults.Refused refusal) same f stops = (stops.0, subst (λ (b : Buffered). ComesWithin had left b) same stops.1, f refusal stops.2)
stops_as P Q had left failed old new faults.Device same f stops = (stops.0, subst (λ (b : Buffered). ComesWithin had left b) same stops.1)
stops_as P Q had left failed old new faults.TooLong same f stops = (stops.0, subst (λ (b : Buffered). Exceeds had left b) same stops.1)
stops_as P Q had left failed old new faults.Memory same f stops = (stops.0, subst (λ (b : Buffered). ComesWithin had left b) same stops.1)

-- an error after this was taken
pub stops_after : (P : LemmaRefusal → Type 0) (had mid left : Option (List ℕ)) (failed : Bool) (old now : Buffered) (taken : List ℕ) (fault : LemmaFault) → Window had mid old now taken → IsOfChecking mid left failed now P fault → IsOfChecking had left failed old P fault
stops_after P had mid left failed old now taken (faults.Refused refusal) window stops = (stops.0, ComesWithin-after had mid left old now taken window stops.1, stops.2)
stops_after P had mid left failed old now taken faults.Device window stops = (stops.0, ComesWithin-after had mid left old now taken window stops.1)
stops_after P had mid left failed old now taken faults.TooLong window stops = (stops.0, Exceeds-after had mid left old now taken window stops.1)
stops_after P had mid left failed old now taken faults.Memory window stops = (stops.0, ComesWithin-after had mid left old now taken window stops.1)

-- nothing is refused if what a refusal says is wrong
pub no_refusal : (P : LemmaRefusal → Type 0) (had left : Option (List ℕ)) (failed : Bool) (buffer : Buffered) (fault : LemmaFault) → IsOfChecking had left failed buffer P fault → ((refusal : LemmaRefusal) → P refusal → ⊥) → IsNoRefusal fault
no_refusal P had left failed buffer (faults.Refused refusal) stops wrong = wrong refusal stops.2
no_refusal P had left failed buffer faults.Device stops wrong = tt
no_refusal P had left failed buffer faults.TooLong stops wrong = tt
no_refusal P had left failed buffer faults.Memory stops wrong = tt

-- where some certificate is good, nothing is refused
only_if_stops : (problem : Instance) (answer claim : Claim) (had left : Option (List ℕ)) (failed : Bool) (buffer : Buffered) (fault : LemmaFault) (bytes : List ℕ) → had ≡ Some bytes →
    IsOfChecking had left failed buffer (HasLemmaRefusal problem answer (option_map (λ bytes. buffer.bytes ++ bytes) had)) fault → FitsAnswer answer claim → IsGoodLemmaCert problem claim (buffer.bytes ++ bytes) → IsNoRefusal fault
only_if_stops problem answer claim had left failed buffer fault bytes known stops fits good =
    no_refusal (HasLemmaRefusal problem answer (option_map (λ bytes. buffer.bytes ++ bytes) had)) had left failed buffer fault stops
    (λ refusal says.
    let none = subst (λ (o : Option (List ℕ)). IfSome (option_map (λ bytes. buffer.bytes ++ bytes) o) (λ text. ((made : Claim) → FitsAnswer answer made → IsGoodLemmaCert problem made text → ⊥) × HasLemmaDefect problem answer text refusal)) known says.1 in
    none.0 claim fits good)

-- so a result that is an error is no refusal
pub only_on_error : (problem : Instance) (answer claim : Claim) (had left : Option (List ℕ)) (failed : Bool) (buffer : Buffered) (result : Result Claim LemmaFault) (fault : LemmaFault) → IsErrAnd result (λ y. y ≡ fault) → (bytes : List ℕ) → had ≡ Some bytes →
    IfErr result (IsOfChecking had left failed buffer (HasLemmaRefusal problem answer (option_map (λ bytes. buffer.bytes ++ bytes) had))) → FitsAnswer answer claim → IsGoodLemmaCert problem claim (buffer.bytes ++ bytes) →
    MatchResult result (λ given. given ≡ claim) IsNoRefusal
only_on_error problem answer claim had left failed buffer (Ok given) fault is bytes known stops fits good = absurd is
only_on_error problem answer claim had left failed buffer (Err given) fault is bytes known stops fits good = only_if_stops problem answer claim had left failed buffer given bytes known stops fits good
