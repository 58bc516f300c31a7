use Rattle.std.proofs.Common.{◌≡◌, ◌++◌, ◌∙◌, List, ℕ, length, option_map, refl, rules, subst, sym}
use Rattle.mapf_certificate.proofs.Windows.{ComesWithin-after, Window-within}
use Rattle.mapf_certificate.specs.Buffered.{Buffered}
use Rattle.mapf_certificate.specs.Window.{ComesWithin}
use Rattle.mapf_lemmas.specs.Lemmas.{target_of}
use Rattle.mapf_lemma_checker.specs.CertJudging.{AreJudgedParts, HasHeaderRefusal, HasPartRefusal, IsBetweenParts, IsOpened}
use Rattle.mapf_lemma_checker.specs.Faults.{IsOfChecking}
use Rattle.mapf_lemma_checker.specs.States.{first_state}
use Rattle.mapf_lemma_checker.specs.Whole.{HasLemmaRefusal}
use Rattle.mapf_lemma_checker.proofs.JudgedLemmas.{err_passed}
use Rattle.mapf_lemma_checker.proofs.WholeLemmas.{awaits_spelled, cert_within, good_cert, header_refusal, only_on_error, parts_refusal, shown_cert, stops_after, stops_as}
use Rattle.mapf_lemma_texts.specs.PartReading.{header_text}
use Rattle.mapf_lemma_texts.specs.WholeTexts.{parts_of}
use Rattle.mapf_lemma_checker.specs.declared.fault.LemmaFault.TheVariants.{Memory}
use Rattle.mapf_model.specs.declared.label.Label.{Label}
use Rattle.mapf_lemma_checker.proofs.cert_judge.judge_lemmas.Goals as goal

pub returns-in_err-claim-clause-stops : goal.returns-in_err-claim-clause-stops
returns-in_err-claim-clause-stops g c =
    let problem = c.args.problem.now in
    let answer = c.args.answer.now in
    let had = (g.S.Source).remaining c.args.source.now in
    let left = (g.S.Source).remaining c.judge_header.new.source in
    let failed = (g.S.Source).has_failed c.judge_header.new.source in
    let start = c.over-reader.result in
    let buffer = c.args.buffer in
    let opened : IsOpened problem start = search rules in
    let same : start.buffer ≡ buffer = rw c.over-reader.ensures refl in
    let fault = c.in_err-claim.field-0.0 in
    let Says = HasLemmaRefusal problem answer (option_map (λ bytes. buffer.bytes ++ bytes) had) in
    err_passed c.from_residual.result (IsOfChecking had left failed buffer Says) fault c.from_residual.ensures.1
    (stops_as (HasHeaderRefusal problem answer had start) Says had left failed start.buffer buffer fault same (header_refusal problem had start opened buffer same c.trees_have_texts.ensures answer) c.in_err-claim.ensures.stops)

pub returns-in_err-judge_parts-clause-stops : goal.returns-in_err-judge_parts-clause-stops
returns-in_err-judge_parts-clause-stops g c =
    let problem = c.args.problem.now in
    let answer = c.args.answer.now in
    let claim = c.in_ok-claim.claim in
    let had = (g.S.Source).remaining c.args.source.now in
    let mid = (g.S.Source).remaining c.judge_header.new.source in
    let left = (g.S.Source).remaining c.judge_parts.new.source in
    let failed = (g.S.Source).has_failed c.judge_parts.new.source in
    let start = c.over-reader.result in
    let headed = c.judge_header.new.reader in
    let buffer = c.args.buffer in
    let opened : IsOpened problem start = search rules in
    let same : start.buffer ≡ buffer = rw c.over-reader.ensures refl in
    let fault = c.in_err-judge_parts.field-0.0 in
    let said = c.in_ok-claim.ensures in
    let target : c.in_ok-judge.judge.target ≡ target_of claim = c.in_ok-judge.ensures.target ∙ c.target_of.ensures in
    let Says = HasLemmaRefusal problem answer (option_map (λ bytes. buffer.bytes ++ bytes) had) in
    let Refuses = HasPartRefusal problem (target_of claim) mid headed in
    let stops = subst (λ (t : Label). IsOfChecking mid left failed headed.buffer (HasPartRefusal problem t mid headed) fault) target c.in_err-judge_parts.ensures.stops in
    err_passed c.from_residual-in_err-judge_parts.result (IsOfChecking had left failed buffer Says) fault c.from_residual-in_err-judge_parts.ensures.1
    (stops_as Refuses Says had left failed start.buffer buffer fault same
    (parts_refusal problem had start opened buffer same mid headed claim said.taken (said.due ∙ opened.first_due) answer said.fits said.only c.trees_have_texts.ensures c.parts_show_certificates.ensures)
    (stops_after Refuses had mid left failed start.buffer headed.buffer (header_text start.width (length problem.agents) claim) fault said.taken.window stops))

pub returns-in_err-judge-clause-stops : goal.returns-in_err-judge-clause-stops
returns-in_err-judge-clause-stops g c =
    let problem = c.args.problem.now in
    let had = (g.S.Source).remaining c.args.source.now in
    let mid = (g.S.Source).remaining c.judge_header.new.source in
    let failed = (g.S.Source).has_failed c.judge_header.new.source in
    let start = c.over-reader.result in
    let buffer = c.args.buffer in
    let same : start.buffer ≡ buffer = rw c.over-reader.ensures refl in
    let said = c.in_ok-claim.ensures in
    let Says = HasLemmaRefusal problem c.args.answer.now (option_map (λ bytes. buffer.bytes ++ bytes) had) in
    let came = Window-within had mid start.buffer c.judge_header.new.reader.buffer (header_text start.width (length problem.agents) c.in_ok-claim.claim) said.taken.window in
    err_passed c.from_residual-in_err-judge.result (IsOfChecking had mid failed buffer Says) Memory c.from_residual-in_err-judge.ensures.1
    (said.works, subst (λ (b : Buffered). ComesWithin had mid b) same came)

pub returns-in_err-claim-clause-only : goal.returns-in_err-claim-clause-only
returns-in_err-claim-clause-only g c bytes claim known fits good =
    let had = (g.S.Source).remaining c.args.source.now in
    let left = (g.S.Source).remaining c.judge_header.new.source in
    let failed = (g.S.Source).has_failed c.judge_header.new.source in
    only_on_error c.args.problem.now c.args.answer.now claim had left failed c.args.buffer c.from_residual.result c.in_err-claim.field-0.0 c.from_residual.ensures.1 bytes known (returns-in_err-claim-clause-stops g c) fits good

pub returns-in_err-judge-clause-only : goal.returns-in_err-judge-clause-only
returns-in_err-judge-clause-only g c bytes claim known fits good =
    let had = (g.S.Source).remaining c.args.source.now in
    let left = (g.S.Source).remaining c.judge_header.new.source in
    let failed = (g.S.Source).has_failed c.judge_header.new.source in
    only_on_error c.args.problem.now c.args.answer.now claim had left failed c.args.buffer c.from_residual-in_err-judge.result Memory c.from_residual-in_err-judge.ensures.1 bytes known (returns-in_err-judge-clause-stops g c) fits good

pub returns-in_err-judge_parts-clause-only : goal.returns-in_err-judge_parts-clause-only
returns-in_err-judge_parts-clause-only g c bytes claim known fits good =
    let had = (g.S.Source).remaining c.args.source.now in
    let left = (g.S.Source).remaining c.judge_parts.new.source in
    let failed = (g.S.Source).has_failed c.judge_parts.new.source in
    only_on_error c.args.problem.now c.args.answer.now claim had left failed c.args.buffer c.from_residual-in_err-judge_parts.result c.in_err-judge_parts.field-0.0 c.from_residual-in_err-judge_parts.ensures.1 bytes known (returns-in_err-judge_parts-clause-stops g c) fits good

pub returns-clause-came : goal.returns-clause-came
returns-clause-came g c =
    let had = (g.S.Source).remaining c.args.source.now in
    let mid = (g.S.Source).remaining c.judge_header.new.source in
    let left = (g.S.Source).remaining c.judge_parts.new.source in
    let start = c.over-reader.result in
    let same : start.buffer ≡ c.args.buffer = rw c.over-reader.ensures refl in
    let window = c.in_ok-claim.ensures.taken.window in
    subst (λ (b : Buffered). ComesWithin had left b) same
    (ComesWithin-after had mid left start.buffer c.judge_header.new.reader.buffer (header_text start.width (length c.args.problem.now.agents) c.in_ok-claim.claim) window c.in_ok-judge_parts.ensures.came)

pub returns-clause-shown : goal.returns-clause-shown
returns-clause-shown g c =
    let problem = c.args.problem.now in
    let claim = c.in_ok-claim.claim in
    let had = (g.S.Source).remaining c.args.source.now in
    let mid = (g.S.Source).remaining c.judge_header.new.source in
    let start = c.over-reader.result in
    let headed = c.judge_header.new.reader in
    let opened : IsOpened problem start = search rules in
    let same : start.buffer ≡ c.args.buffer = rw c.over-reader.ensures refl in
    let said = c.in_ok-claim.ensures in
    let target : c.in_ok-judge.judge.target ≡ target_of claim = c.in_ok-judge.ensures.target ∙ c.target_of.ensures in
    shown_cert problem had start opened c.args.buffer same mid headed claim said.taken c.texts_have_trees.ensures c.parts_show_certificates.ensures (said.due ∙ opened.first_due)
    (subst (λ (t : Label). AreJudgedParts problem t mid headed) target c.in_ok-judge_parts.ensures.judged)

pub returns-clause-good : goal.returns-clause-good
returns-clause-good g c bytes known =
    let problem = c.args.problem.now in
    let claim = c.in_ok-claim.claim in
    let had = (g.S.Source).remaining c.args.source.now in
    let mid = (g.S.Source).remaining c.judge_header.new.source in
    let start = c.over-reader.result in
    let headed = c.judge_header.new.reader in
    let opened : IsOpened problem start = search rules in
    let same : start.buffer ≡ c.args.buffer = rw c.over-reader.ensures refl in
    let target : c.in_ok-judge.judge.target ≡ target_of claim = c.in_ok-judge.ensures.target ∙ c.target_of.ensures in
    good_cert problem had start opened c.args.buffer same mid headed claim c.in_ok-claim.ensures.taken c.texts_have_trees.ensures c.parts_show_certificates.ensures
    (subst (λ (t : Label). AreJudgedParts problem t mid headed) target c.in_ok-judge_parts.ensures.judged) bytes known

pub returns-clause-within : goal.returns-clause-within
returns-clause-within g c bytes known =
    let problem = c.args.problem.now in
    let claim = c.in_ok-claim.claim in
    let had = (g.S.Source).remaining c.args.source.now in
    let mid = (g.S.Source).remaining c.judge_header.new.source in
    let start = c.over-reader.result in
    let headed = c.judge_header.new.reader in
    let opened : IsOpened problem start = search rules in
    let same : start.buffer ≡ c.args.buffer = rw c.over-reader.ensures refl in
    let target : c.in_ok-judge.judge.target ≡ target_of claim = c.in_ok-judge.ensures.target ∙ c.target_of.ensures in
    cert_within problem had start opened c.args.buffer same mid headed claim c.in_ok-claim.ensures.taken
    (subst (λ (t : Label). AreJudgedParts problem t mid headed) target c.in_ok-judge_parts.ensures.judged) bytes known

pub returns-clause-only : goal.returns-clause-only
returns-clause-only g c bytes claim known fits good =
    let problem = c.args.problem.now in
    let had = (g.S.Source).remaining c.args.source.now in
    let start = c.over-reader.result in
    let opened : IsOpened problem start = search rules in
    let same : start.buffer ≡ c.args.buffer = rw c.over-reader.ensures refl in
    let awaits = awaits_spelled problem had start opened c.args.buffer same c.trees_have_texts.ensures bytes known (length problem.agents) claim good.lists good.lemmas good.tree good.spelled in
    (c.in_ok-claim.ensures.only (length problem.agents) claim (parts_of good.lists good.lemmas good.tree) awaits).0

pub judge_parts-requires-clause-between : goal.judge_parts-requires-clause-between
judge_parts-requires-clause-between g c =
    let target : c.in_ok-judge.judge.target ≡ target_of c.in_ok-claim.claim = c.in_ok-judge.ensures.target ∙ c.target_of.ensures in
    subst (λ (t : Label). IsBetweenParts c.args.problem.now t c.judge_header.new.reader first_state) (sym target) c.in_ok-claim.ensures.between
