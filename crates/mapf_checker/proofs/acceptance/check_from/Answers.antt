use Rattle.std.proofs.Common.{◌≡◌, [], Result, IsErrOf, sym, subst, inr}
use Rattle.mapf_certificate.specs.Buffered.{Buffered}
use Rattle.mapf_certificate.specs.Window.{Pulls}
use Rattle.mapf_lemma_checker.specs.Answers.{FitsAnswer}
use Rattle.mapf_checker.specs.declared.fault.FromFault.{FromFault}
use Rattle.mapf_checker.specs.declared.fault.FromFault.TheVariants.{TooLong}
use Rattle.mapf_checker.specs.declared.fault.Verdict.{Verdict}
use Rattle.mapf_checker.specs.Faults.{IfRefused, IsNoRefusal}
use Rattle.mapf_checker.specs.Refusals.{HasCertRefusal, HasRefusal}
use Rattle.mapf_checker.specs.Verdict.{IsGoodCert, IsVerdictOn}
use Rattle.mapf_checker.proofs.ReadLemmas.{err_matched, err_passed}
use Rattle.mapf_checker.proofs.StopLemmas.{passed, pulls_if_stops, refused_if_stops}
use Rattle.mapf_checker.proofs.VerdictLemmas.{one_verdict, verdict_fits}
use Rattle.mapf_checker.proofs.acceptance.check_from.Goals as goal

pub returns-in_err-answer-clause-only : goal.returns-in_err-answer-clause-only
returns-in_err-answer-clause-only g c bytes verdict known accepted =
    let memory = c.in_err-answer.ensures.only accepted.answer accepted.plan in
    err_matched c.from_residual.result (λ given. given ≡ verdict) IsNoRefusal c.in_err-answer.field-0.0 c.from_residual.ensures.1 (subst IsNoRefusal (sym memory) tt)

pub returns-in_err-claimed-clause-only : goal.returns-in_err-claimed-clause-only
returns-in_err-claimed-clause-only g c bytes verdict known accepted =
    let problem = c.args.problem.now in
    let same : accepted.answer ≡ c.in_ok-answer.answer = sym (c.in_ok-answer.ensures.only accepted.answer accepted.plan) in
    let fits = subst (λ answer. FitsAnswer answer accepted.claimed) same (verdict_fits accepted.answer accepted.claimed verdict accepted.fits) in
    let good = subst (λ answer. IsGoodCert problem answer accepted.claimed bytes) same accepted.cert in
    err_matched c.from_residual-in_err-claimed.result (λ given. given ≡ verdict) IsNoRefusal c.in_err-claimed.field-0.0 c.from_residual-in_err-claimed.ensures.1
    (c.in_err-claimed.ensures.only bytes accepted.claimed known fits good)

pub returns-in_err-claimed-clause-refused : goal.returns-in_err-claimed-clause-refused
returns-in_err-claimed-clause-refused g c =
    let had = (g.S.Source).remaining c.args.source.now in
    let fault = c.in_err-claimed.field-0.0 in
    err_passed c.from_residual-in_err-claimed.result (IfRefused (HasRefusal c.args.problem.now c.args.plan_text.now had)) fault c.from_residual-in_err-claimed.ensures.1
    (refused_if_stops had ((g.S.Source).remaining c.judge_cert.new.source) ((g.S.Source).has_failed c.judge_cert.new.source) (record { bytes = []; left = c.args.limit }) fault
    (λ refusal is. inr (c.in_ok-answer.answer, c.in_ok-answer.ensures.good, is)) c.in_err-claimed.ensures.stops)

pub returns-clause-truth : goal.returns-clause-truth
returns-clause-truth g c =
    let good = c.in_ok-answer.ensures.good in
    record {
      version = good.version;
      says = good.says;
      spelled = good.spelled;
      is_true = c.accepted_is_true.ensures c.args.problem.now good.says c.in_ok-answer.answer c.in_ok-claimed.claimed c.verdict_on.result good.good c.verdict_on.ensures c.in_ok-claimed.ensures.shown;
    }

pub returns-clause-accepted : goal.returns-clause-accepted
returns-clause-accepted g c bytes known = record {
  answer = c.in_ok-answer.answer;
  plan = c.in_ok-answer.ensures.good;
  claimed = c.in_ok-claimed.claimed;
  fits = c.verdict_on.ensures;
  cert = c.in_ok-claimed.ensures.good bytes known;
}

pub returns-clause-only : goal.returns-clause-only
returns-clause-only g c bytes verdict known accepted =
    let problem = c.args.problem.now in
    let answer = c.in_ok-answer.answer in
    let same : accepted.answer ≡ answer = sym (c.in_ok-answer.ensures.only accepted.answer accepted.plan) in
    let on_answer = subst (λ a. IsVerdictOn a accepted.claimed verdict) same accepted.fits in
    let good = subst (λ a. IsGoodCert problem a accepted.claimed bytes) same accepted.cert in
    let claims_it : c.in_ok-claimed.claimed ≡ accepted.claimed = c.in_ok-claimed.ensures.only bytes accepted.claimed known (verdict_fits answer accepted.claimed verdict on_answer) good in
    one_verdict answer c.in_ok-claimed.claimed c.verdict_on.result verdict c.verdict_on.ensures (subst (λ claimed. IsVerdictOn answer claimed verdict) (sym claims_it) on_answer)

pub returns-in_err-claimed-clause-pulls : goal.returns-in_err-claimed-clause-pulls
returns-in_err-claimed-clause-pulls g c =
    let had = (g.S.Source).remaining c.args.source.now in
    let left = (g.S.Source).remaining c.judge_cert.new.source in
    let none : Buffered = record { bytes = []; left = c.args.limit } in
    let fault = c.in_err-claimed.field-0.0 in
    let P : Result Verdict FromFault → Type 0 = λ r. Pulls had left c.args.limit (IsErrOf r TooLong) in
    subst P (sym (passed c.from_residual-in_err-claimed.result fault c.from_residual-in_err-claimed.ensures.1))
    (pulls_if_stops {A = Verdict} had left ((g.S.Source).has_failed c.judge_cert.new.source) none (HasCertRefusal c.args.problem.now c.in_ok-answer.answer had) fault c.in_err-claimed.ensures.stops)
