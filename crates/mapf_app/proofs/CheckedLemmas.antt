-- A plan text of version 2 and a certificate of version 3 that were written in memory and accepted print the answer that
-- their verdict tells.
use Rattle.std.proofs.Common.{◌≡◌, ℕ, List, ◌++◌, length, slice_get, Some, ⊎_elim, append_assoc, refl, sym, ap, ◌∙◌, subst, arith}
use Rattle.std.proofs.lemmas.List.{append_cancel_left}
use Rattle.std.proofs.lemmas.Option.{same_Some}
use Rattle.mapf_app.specs.Checked.{IsBoundInRange, IsKindOf}
use Rattle.mapf_app.specs.Solved.{Prints, PrintsOptimal, PrintsImpossible, PrintsLimit, PrintsWithin, SpellsClaim}
use Rattle.mapf_app.specs.declared.kind.Kind.{Kind}
use Rattle.mapf_app.specs.declared.kind.Kind.TheVariants.{Found, Impossible, Limit, Within}
use Rattle.mapf_certificate.specs.Certificates.{cert_text}
use Rattle.mapf_certificate.specs.Plans.{IsPlanText, SpellsOnePlan, SpellsPlan, plan_text}
use Rattle.mapf_certificate.specs.declared.plan_text.PlanAnswer.{PlanAnswer}
use Rattle.mapf_certificate.specs.declared.plan_text.PlanAnswer.TheVariants as answers
use Rattle.mapf_certificate.specs.declared.plan_text.PlanText.{PlanText}
use Rattle.mapf_certificate.specs.declared.version.Version.{Version}
use Rattle.mapf_certificate.specs.declared.version.Version.TheVariants.{One, Two}
use Rattle.mapf_checker.specs.Verdict.{AreAccepted, IsGoodTreeCert, IsTrueText, IsTrueOf, IsVerdictOn}
use Rattle.mapf_checker.specs.declared.fault.Verdict.{Verdict}
use Rattle.mapf_checker.specs.declared.fault.Verdict.TheVariants as verdicts
use Rattle.mapf_lemma_checker.specs.Whole.{IsGoodLemmaCert}
use Rattle.mapf_lemma_texts.specs.declared.line.LemmaLine.TheVariants as lines
use Rattle.mapf_lemma_texts.specs.declared.part.Part.{Part}
use Rattle.mapf_lemma_texts.specs.Lines.{line_text}
use Rattle.mapf_lemma_texts.specs.PartReading.{header_text}
use Rattle.mapf_lemma_texts.specs.PartWriting.{certificate_text}
use Rattle.mapf_model.specs.Grid.{IsGridMap}
use Rattle.mapf_model.specs.Plan.{Instance}
use Rattle.mapf_model.specs.Tree.{Node, nodes_of}
use Rattle.mapf_model.specs.declared.cause.Cause.{Cause}
use Rattle.mapf_model.specs.declared.item.Claim.{Claim}
use Rattle.mapf_model.specs.declared.item.Claim.TheVariants as claims
use Rattle.mapf_words.specs.declared.job.Search.TheVariants.{Cbsh}

-- the title of a plan text tells its version
plan_is_two : (width agents other_agents : ℕ) (answer other : PlanAnswer) (version : Version) → plan_text width (record { version = Two; agents = agents; answer = answer }) ≡ plan_text width (record { version = version; agents = other_agents; answer = other }) → version ≡ Two
plan_is_two width agents other_agents answer other One same =
    let apart : Some 50 ≡ Some 49 = ap (λ (text : List ℕ). slice_get text 10) same in
    let differ : 50 ≡ 49 = same_Some 50 49 apart in
    absurd (omega (arith, differ))
plan_is_two width agents other_agents answer other Two same = refl

-- a certificate that was written in version 3 is none of version 1 or 2
not_of_trees : (width agents other_agents : ℕ) (claim other : Claim) (written : List Part) (nodes : List Node) (version : Version) → certificate_text width agents claim written ≡ cert_text version width other_agents other nodes → ⊥
not_of_trees width agents other_agents claim other written nodes One same =
    let apart : Some 51 ≡ Some 49 = ap (λ (text : List ℕ). slice_get text 10) same in
    let differ : 51 ≡ 49 = same_Some 51 49 apart in
    omega (arith, differ)
not_of_trees width agents other_agents claim other written nodes Two same =
    let apart : Some 51 ≡ Some 50 = ap (λ (text : List ℕ). slice_get text 10) same in
    let differ : 51 ≡ 50 = same_Some 51 50 apart in
    omega (arith, differ)

-- the first byte of a claim's line by which it differs from those of other kinds
abbrev mark : Claim → ℕ
mark (claims.Cost cost) = 99
mark (claims.Bound bound) = 98
mark claims.Impossible = 105

mark_there : (width : ℕ) (claim : Claim) (rest : List ℕ) → slice_get (line_text width (lines.Claim claim) ++ rest) 6 ≡ Some (mark claim)
mark_there width (claims.Cost cost) rest = refl
mark_there width (claims.Bound bound) rest = refl
mark_there width claims.Impossible rest = refl

-- two texts with headers that are one text have claims of one kind
same_mark : (width agents : ℕ) (claim other : Claim) (rest after : List ℕ) → header_text width agents claim ++ rest ≡ header_text width agents other ++ after → mark claim ≡ mark other
same_mark width agents claim other rest after same =
    let title = line_text width lines.Title in
    let count = line_text width (lines.Agents agents) in
    let one = line_text width (lines.Claim claim) in
    let two = line_text width (lines.Claim other) in
    let later : count ++ (one ++ rest) ≡ count ++ (two ++ after) = append_cancel_left title (count ++ (one ++ rest)) (count ++ (two ++ after))
    (ap (λ t. title ++ t) (sym (append_assoc count one rest)) ∙ sym (append_assoc title (count ++ one) rest) ∙ same ∙ append_assoc title (count ++ two) after ∙ ap (λ t. title ++ t) (append_assoc count two after)) in
    let last = append_cancel_left count (one ++ rest) (two ++ after) later in
    same_Some (mark claim) (mark other) (sym (mark_there width claim rest) ∙ ap (λ (text : List ℕ). slice_get text 6) last ∙ mark_there width other after)

-- the claim that was shown, by the verdict and the kind of claim that was written
claim_of_cost : (answer claimed : Claim) (sum : ℕ) → IsVerdictOn answer claimed (verdicts.Optimal sum) → 99 ≡ mark claimed → claimed ≡ claims.Cost sum
claim_of_cost (claims.Cost cost) (claims.Cost claimed) sum fits same = ap claims.Cost (fits.1 ∙ sym fits.0)
claim_of_cost answer (claims.Bound claimed) sum fits same = let differ : 99 ≡ 98 = same in absurd (omega (arith, differ))
claim_of_cost answer claims.Impossible sum fits same = let differ : 99 ≡ 105 = same in absurd (omega (arith, differ))
claim_of_cost (claims.Bound bound) (claims.Cost claimed) sum fits same = absurd fits
claim_of_cost claims.Impossible (claims.Cost claimed) sum fits same = absurd fits

claim_of_bound : (answer claimed : Claim) (shown : ℕ) → IsVerdictOn answer claimed (verdicts.Bound shown) → 98 ≡ mark claimed → claimed ≡ claims.Bound shown
claim_of_bound (claims.Bound bound) (claims.Bound claimed) shown fits same = ap claims.Bound (fits.1 ∙ sym fits.0)
claim_of_bound answer (claims.Cost claimed) shown fits same = let differ : 98 ≡ 99 = same in absurd (omega (arith, differ))
claim_of_bound answer claims.Impossible shown fits same = let differ : 98 ≡ 105 = same in absurd (omega (arith, differ))
claim_of_bound (claims.Cost cost) (claims.Bound claimed) shown fits same = absurd fits
claim_of_bound claims.Impossible (claims.Bound claimed) shown fits same = absurd fits

claim_of_within : (answer claimed : Claim) (shown cost : ℕ) → IsVerdictOn answer claimed (verdicts.Within shown cost) → claimed ≡ claims.Bound shown
claim_of_within (claims.Cost cost) (claims.Bound claimed) shown sum fits = ap claims.Bound (sym fits.1)
claim_of_within (claims.Cost cost) (claims.Cost claimed) shown sum fits = absurd fits
claim_of_within (claims.Cost cost) claims.Impossible shown sum fits = absurd fits
claim_of_within (claims.Bound bound) (claims.Cost claimed) shown sum fits = absurd fits
claim_of_within (claims.Bound bound) (claims.Bound claimed) shown sum fits = absurd fits
claim_of_within (claims.Bound bound) claims.Impossible shown sum fits = absurd fits
claim_of_within claims.Impossible (claims.Cost claimed) shown sum fits = absurd fits
claim_of_within claims.Impossible (claims.Bound claimed) shown sum fits = absurd fits
claim_of_within claims.Impossible claims.Impossible shown sum fits = absurd fits

claim_of_impossible : (claimed : Claim) → 105 ≡ mark claimed → claimed ≡ claims.Impossible
claim_of_impossible (claims.Cost claimed) same = let differ : 105 ≡ 99 = same in absurd (omega (arith, differ))
claim_of_impossible (claims.Bound claimed) same = let differ : 105 ≡ 98 = same in absurd (omega (arith, differ))
claim_of_impossible claims.Impossible same = refl

module _ (problem : Instance) (plan cert : List ℕ) where
  prints_optimal : (cost : ℕ) (says : PlanAnswer) → SpellsPlan problem.grid plan Two (length problem.agents) says → SpellsClaim Cbsh problem (claims.Cost cost) cert → IsTrueOf problem says (verdicts.Optimal cost) → AreAccepted problem plan cert (verdicts.Optimal cost) → PrintsOptimal Cbsh problem cost plan cert
  prints_optimal cost (answers.Found paths) spelled certified is_true accepted = record { paths = paths; spelled = spelled; certified = certified; optimal = is_true; accepted = accepted }
  prints_optimal cost answers.Impossible spelled certified is_true accepted = absurd is_true
  prints_optimal cost (answers.Bounded cause bound) spelled certified is_true accepted = absurd is_true
  prints_optimal cost (answers.Limit cause) spelled certified is_true accepted = absurd is_true

  prints_impossible : (says : PlanAnswer) → SpellsPlan problem.grid plan Two (length problem.agents) says → SpellsClaim Cbsh problem claims.Impossible cert → IsTrueOf problem says verdicts.Impossible → AreAccepted problem plan cert verdicts.Impossible → PrintsImpossible Cbsh problem plan cert
  prints_impossible (answers.Found paths) spelled certified is_true accepted = absurd is_true
  prints_impossible answers.Impossible spelled certified is_true accepted = record { spelled = spelled; certified = certified; impossible = is_true; accepted = accepted }
  prints_impossible (answers.Bounded cause bound) spelled certified is_true accepted = absurd is_true
  prints_impossible (answers.Limit cause) spelled certified is_true accepted = absurd is_true

  prints_limit : (cause : Cause) (bound says : ℕ) → SpellsPlan problem.grid plan Two (length problem.agents) (answers.Bounded cause says) → SpellsClaim Cbsh problem (claims.Bound bound) cert → IsTrueOf problem (answers.Bounded cause says) (verdicts.Bound bound) → AreAccepted problem plan cert (verdicts.Bound bound) → PrintsLimit Cbsh problem cause bound plan cert
  prints_limit cause bound says spelled certified is_true accepted = record {
    spelled = subst (λ n. SpellsPlan problem.grid plan Two (length problem.agents) (answers.Bounded cause n)) is_true.0 spelled;
    certified = certified;
    holds = is_true.1;
    accepted = accepted;
  }

  prints_within : (bound cost : ℕ) (says : PlanAnswer) → SpellsPlan problem.grid plan Two (length problem.agents) says → SpellsClaim Cbsh problem (claims.Bound bound) cert → IsTrueOf problem says (verdicts.Within bound cost) → AreAccepted problem plan cert (verdicts.Within bound cost) → PrintsWithin Cbsh problem bound cost plan cert
  prints_within bound cost (answers.Found paths) spelled certified is_true accepted = record { second = refl; paths = paths; spelled = spelled; certified = certified; valid = is_true.0; sum = is_true.1; holds = is_true.2; below = is_true.3; accepted = accepted }
  prints_within bound cost answers.Impossible spelled certified is_true accepted = absurd is_true
  prints_within bound cost (answers.Bounded cause says) spelled certified is_true accepted = absurd is_true
  prints_within bound cost (answers.Limit cause) spelled certified is_true accepted = absurd is_true

module _ (problem : Instance) (law : SpellsOnePlan) (is_grid : IsGridMap problem.grid) (answer : PlanAnswer) (claim : Claim) (written : List Part) (plan cert : List ℕ) (verdict : Verdict) (in_range : IsBoundInRange answer)
    (plan_is : plan ≡ plan_text problem.grid.width (record { version = Two; agents = length problem.agents; answer = answer }))
    (cert_is : cert ≡ certificate_text problem.grid.width (length problem.agents) claim written)
    (truth : IsTrueText problem plan verdict) (accepted : AreAccepted problem plan cert verdict) where
  -- the plan text that was accepted is of version 2
  spelled : SpellsPlan problem.grid plan Two (length problem.agents) truth.says
  spelled = subst (λ (v : Version). SpellsPlan problem.grid plan v (length problem.agents) truth.says) (plan_is_two problem.grid.width (length problem.agents) (length problem.agents) answer truth.says truth.version (sym plan_is ∙ truth.spelled.spelled)) truth.spelled

  -- and the certificate of version 3
  good : IsGoodLemmaCert problem accepted.claimed cert
  good = ⊎_elim
      (λ (tree : (accepted.claimed ≡ accepted.answer) × IsGoodTreeCert problem accepted.claimed cert). absurd (not_of_trees problem.grid.width (length problem.agents) (length problem.agents) claim accepted.claimed written (nodes_of tree.1.tree) tree.1.version (sym cert_is ∙ tree.1.spelled.spelled)))
      (λ (lemmas : IsGoodLemmaCert problem accepted.claimed cert). lemmas)
      accepted.cert

  -- its claim is of the kind of the claim that was written
  marked : mark claim ≡ mark accepted.claimed
  marked = same_mark problem.grid.width (length problem.agents) claim accepted.claimed _ _ (sym cert_is ∙ good.spelled.spelled)

  certified : (given : Claim) → accepted.claimed ≡ given → SpellsClaim Cbsh problem given cert
  certified given is = subst (λ (c : Claim). SpellsClaim Cbsh problem c cert) is (good.lists, good.lemmas, good.tree, good.spelled)

  fits : (given : Verdict) → verdict ≡ given → IsVerdictOn accepted.answer accepted.claimed given
  fits given is = subst (IsVerdictOn accepted.answer accepted.claimed) is accepted.fits

  true_of : (given : Verdict) → verdict ≡ given → IsTrueOf problem truth.says given
  true_of given is = subst (IsTrueOf problem truth.says) is truth.is_true

  accepted_with : (given : Verdict) → verdict ≡ given → AreAccepted problem plan cert given
  accepted_with given is = subst (AreAccepted problem plan cert) is accepted

  -- the text that was accepted has the answer that was written
  says_is : (cause : Cause) (bound : ℕ) → answer ≡ answers.Bounded cause bound → truth.says ≡ answers.Bounded cause bound
  says_is cause bound is =
      let own : IsPlanText problem.grid (record { version = Two; agents = length problem.agents; answer = answers.Bounded cause bound }) = (spelled.in_range.0, subst IsBoundInRange is in_range, refl) in
      let text_is = plan_is ∙ ap (λ (a : PlanAnswer). plan_text problem.grid.width (record { version = Two; agents = length problem.agents; answer = a })) is in
      ap (λ (t : PlanText). t.answer) (law problem.grid plan _ _ is_grid spelled.in_range own spelled.spelled text_is)

  pub prints : (kind : Kind) → IsKindOf verdict answer claim kind → Prints Cbsh problem kind plan cert
  prints (Found cost) (is, written, claim_is) =
      let same : 99 ≡ mark accepted.claimed = ap mark (sym claim_is) ∙ marked in
      prints_optimal problem plan cert cost truth.says spelled (certified _ (claim_of_cost accepted.answer accepted.claimed cost (fits _ is) same)) (true_of _ is) (accepted_with _ is)
  prints Impossible (is, answer_is, claim_is) =
      let same : 105 ≡ mark accepted.claimed = ap mark (sym claim_is) ∙ marked in
      prints_impossible problem plan cert truth.says spelled (certified _ (claim_of_impossible accepted.claimed same)) (true_of _ is) (accepted_with _ is)
  prints (Limit cause bound) (is, answer_is, claim_is) =
      let same = says_is cause bound answer_is in
      let kind : 98 ≡ mark accepted.claimed = ap mark (sym claim_is) ∙ marked in
      prints_limit problem plan cert cause bound bound
      (subst (SpellsPlan problem.grid plan Two (length problem.agents)) same spelled)
      (certified _ (claim_of_bound accepted.answer accepted.claimed bound (fits _ is) kind))
      (subst (λ (a : PlanAnswer). IsTrueOf problem a (verdicts.Bound bound)) same (true_of _ is))
      (accepted_with _ is)
  prints (Within bound cost) (is, written, claim_is) =
      prints_within problem plan cert bound cost truth.says spelled (certified _ (claim_of_within accepted.answer accepted.claimed bound cost (fits _ is))) (true_of _ is) (accepted_with _ is)
