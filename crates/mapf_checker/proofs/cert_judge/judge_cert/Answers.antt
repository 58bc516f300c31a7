use Rattle.std.proofs.Common.{◌≡◌, [], IsTrue, false, sym}
use Rattle.mapf_certificate.proofs.Windows.{ComesWithin-after}
use Rattle.mapf_checker.specs.Faults.{of_cert, of_lemmas, IsNoRefusal, IsOfChecking}
use Rattle.mapf_checker.specs.Refusals.{HasCertRefusal}
use Rattle.mapf_checker.proofs.AnyCertLemmas.{lemmas_only, no_lemma_refusal, opened, stops_at_lemmas, stops_at_title, stops_at_tree, title_not_refused, tree_good, tree_only, within_after}
use Rattle.mapf_checker.proofs.ReadLemmas.{err_matched, err_passed, no_refusal}
use Rattle.mapf_checker.proofs.cert_judge.judge_cert.Goals as goal

pub returns-in_err-begins_version_three-clause-only : goal.returns-in_err-begins_version_three-clause-only
returns-in_err-begins_version_three-clause-only g c bytes claimed known fits good =
    let had = (g.S.Source).remaining c.args.source.now in
    let left = (g.S.Source).remaining c.begins_version_three.new.source in
    let failed = (g.S.Source).has_failed c.begins_version_three.new.source in
    let fault = c.in_err-begins_version_three.field-0.0 in
    let fails = rw c.in_ok-buffer.ensures at c.in_err-begins_version_three.ensures.fails in
    err_matched c.from_residual-in_err-begins_version_three.result (λ given. given ≡ claimed) IsNoRefusal (of_cert fault) c.from_residual-in_err-begins_version_three.ensures.1
    (no_refusal fault (title_not_refused c.args.problem.now c.args.answer.now claimed had left failed c.args.limit fault fails.0 fails.1 bytes known good))

pub returns-in_err-begins_version_three-clause-stops : goal.returns-in_err-begins_version_three-clause-stops
returns-in_err-begins_version_three-clause-stops g c =
    let problem = c.args.problem.now in
    let answer = c.args.answer.now in
    let had = (g.S.Source).remaining c.args.source.now in
    let left = (g.S.Source).remaining c.begins_version_three.new.source in
    let failed = (g.S.Source).has_failed c.begins_version_three.new.source in
    let fault = c.in_err-begins_version_three.field-0.0 in
    let fails = rw c.in_ok-buffer.ensures at c.in_err-begins_version_three.ensures.fails in
    err_passed c.from_residual-in_err-begins_version_three.result (IsOfChecking had left failed (opened c.args.limit) (HasCertRefusal problem answer had)) (of_cert fault) c.from_residual-in_err-begins_version_three.ensures.1
    (stops_at_title problem answer had left failed c.args.limit fault fails.0 fails.1)

pub returns-in_err-judge_lemmas-clause-only : goal.returns-in_err-judge_lemmas-clause-only
returns-in_err-judge_lemmas-clause-only g c bytes claimed known fits good =
    let problem = c.args.problem.now in
    let answer = c.args.answer.now in
    let had = (g.S.Source).remaining c.args.source.now in
    let mid = (g.S.Source).remaining c.begins_version_three.new.source in
    let buffer = c.begins_version_three.new.buffer in
    let window = rw c.in_ok-buffer.ensures at c.in_ok-begins_version_three.ensures.window in
    let title = c.in_ok-begins_version_three.ensures.title in
    let fault = c.in_err-judge_lemmas.field-0.0 in
    let (rest, known_mid, good_rest) = lemmas_only problem answer had mid c.args.limit buffer window c.in_ok-begins_version_three.field-0 title c.if-branch.true claimed bytes known good in
    err_matched c.from_residual-in_err-judge_lemmas.result (λ given. given ≡ claimed) IsNoRefusal (of_lemmas fault) c.from_residual-in_err-judge_lemmas.ensures.1
    (no_lemma_refusal fault (c.in_err-judge_lemmas.ensures.only rest claimed known_mid fits good_rest))

pub returns-in_err-judge_lemmas-clause-stops : goal.returns-in_err-judge_lemmas-clause-stops
returns-in_err-judge_lemmas-clause-stops g c =
    let problem = c.args.problem.now in
    let answer = c.args.answer.now in
    let had = (g.S.Source).remaining c.args.source.now in
    let mid = (g.S.Source).remaining c.begins_version_three.new.source in
    let buffer = c.begins_version_three.new.buffer in
    let window = rw c.in_ok-buffer.ensures at c.in_ok-begins_version_three.ensures.window in
    let title = c.in_ok-begins_version_three.ensures.title in
    let left = (g.S.Source).remaining c.judge_lemmas.new.source in
    let failed = (g.S.Source).has_failed c.judge_lemmas.new.source in
    let fault = c.in_err-judge_lemmas.field-0.0 in
    err_passed c.from_residual-in_err-judge_lemmas.result (IsOfChecking had left failed (opened c.args.limit) (HasCertRefusal problem answer had)) (of_lemmas fault) c.from_residual-in_err-judge_lemmas.ensures.1
    (stops_at_lemmas problem answer had mid c.args.limit buffer window c.in_ok-begins_version_three.field-0 title c.if-branch.true left failed fault c.in_err-judge_lemmas.ensures.stops)

pub returns-in_err-judge_tree_cert-clause-only : goal.returns-in_err-judge_tree_cert-clause-only
returns-in_err-judge_tree_cert-clause-only g c bytes claimed known fits good =
    let problem = c.args.problem.now in
    let answer = c.args.answer.now in
    let had = (g.S.Source).remaining c.args.source.now in
    let mid = (g.S.Source).remaining c.begins_version_three.new.source in
    let buffer = c.begins_version_three.new.buffer in
    let window = rw c.in_ok-buffer.ensures at c.in_ok-begins_version_three.ensures.window in
    let title = c.in_ok-begins_version_three.ensures.title in
    let other : IsTrue c.in_ok-begins_version_three.field-0 → ⊥ = λ is_three. let is_other = c.if-branch.false in absurd cc in
    let fault = c.in_err-judge_tree_cert.field-0.0 in
    let (is_answer, rest, known_mid, good_rest) = tree_only problem answer had mid c.args.limit buffer window c.in_ok-begins_version_three.field-0 title other claimed bytes known good in
    err_matched c.from_residual-in_err-judge_tree_cert.result (λ given. given ≡ claimed) IsNoRefusal fault c.from_residual-in_err-judge_tree_cert.ensures.1
    (c.in_err-judge_tree_cert.ensures.only rest known_mid good_rest)

pub returns-in_err-judge_tree_cert-clause-stops : goal.returns-in_err-judge_tree_cert-clause-stops
returns-in_err-judge_tree_cert-clause-stops g c =
    let problem = c.args.problem.now in
    let answer = c.args.answer.now in
    let had = (g.S.Source).remaining c.args.source.now in
    let mid = (g.S.Source).remaining c.begins_version_three.new.source in
    let buffer = c.begins_version_three.new.buffer in
    let window = rw c.in_ok-buffer.ensures at c.in_ok-begins_version_three.ensures.window in
    let title = c.in_ok-begins_version_three.ensures.title in
    let other : IsTrue c.in_ok-begins_version_three.field-0 → ⊥ = λ is_three. let is_other = c.if-branch.false in absurd cc in
    let left = (g.S.Source).remaining c.judge_tree_cert.new.source in
    let failed = (g.S.Source).has_failed c.judge_tree_cert.new.source in
    let fault = c.in_err-judge_tree_cert.field-0.0 in
    err_passed c.from_residual-in_err-judge_tree_cert.result (IsOfChecking had left failed (opened c.args.limit) (HasCertRefusal problem answer had)) fault c.from_residual-in_err-judge_tree_cert.ensures.1
    (stops_at_tree problem answer had mid c.args.limit buffer window c.in_ok-begins_version_three.field-0 title other left failed fault c.in_err-judge_tree_cert.ensures.stops)

pub returns-in_ok-judge_lemmas-clause-came : goal.returns-in_ok-judge_lemmas-clause-came
returns-in_ok-judge_lemmas-clause-came g c =
    let problem = c.args.problem.now in
    let answer = c.args.answer.now in
    let had = (g.S.Source).remaining c.args.source.now in
    let mid = (g.S.Source).remaining c.begins_version_three.new.source in
    let buffer = c.begins_version_three.new.buffer in
    let window = rw c.in_ok-buffer.ensures at c.in_ok-begins_version_three.ensures.window in
    let title = c.in_ok-begins_version_three.ensures.title in
    let left = (g.S.Source).remaining c.judge_lemmas.new.source in
    let failed = (g.S.Source).has_failed c.judge_lemmas.new.source in
    ComesWithin-after had mid left (opened c.args.limit) buffer [] window c.in_ok-judge_lemmas.ensures.came

pub returns-in_ok-judge_tree_cert-clause-came : goal.returns-in_ok-judge_tree_cert-clause-came
returns-in_ok-judge_tree_cert-clause-came g c =
    let problem = c.args.problem.now in
    let answer = c.args.answer.now in
    let had = (g.S.Source).remaining c.args.source.now in
    let mid = (g.S.Source).remaining c.begins_version_three.new.source in
    let buffer = c.begins_version_three.new.buffer in
    let window = rw c.in_ok-buffer.ensures at c.in_ok-begins_version_three.ensures.window in
    let title = c.in_ok-begins_version_three.ensures.title in
    let left = (g.S.Source).remaining c.judge_tree_cert.new.source in
    let failed = (g.S.Source).has_failed c.judge_tree_cert.new.source in
    ComesWithin-after had mid left (opened c.args.limit) buffer [] window c.in_ok-judge_tree_cert.ensures.came

pub returns-in_ok-judge_lemmas-clause-only : goal.returns-in_ok-judge_lemmas-clause-only
returns-in_ok-judge_lemmas-clause-only g c bytes claimed known fits good =
    let problem = c.args.problem.now in
    let answer = c.args.answer.now in
    let had = (g.S.Source).remaining c.args.source.now in
    let mid = (g.S.Source).remaining c.begins_version_three.new.source in
    let buffer = c.begins_version_three.new.buffer in
    let window = rw c.in_ok-buffer.ensures at c.in_ok-begins_version_three.ensures.window in
    let title = c.in_ok-begins_version_three.ensures.title in
    let (rest, known_mid, good_rest) = lemmas_only problem answer had mid c.args.limit buffer window c.in_ok-begins_version_three.field-0 title c.if-branch.true claimed bytes known good in
    c.in_ok-judge_lemmas.ensures.only rest claimed known_mid fits good_rest

pub returns-in_ok-judge_tree_cert-clause-only : goal.returns-in_ok-judge_tree_cert-clause-only
returns-in_ok-judge_tree_cert-clause-only g c bytes claimed known fits good =
    let problem = c.args.problem.now in
    let answer = c.args.answer.now in
    let had = (g.S.Source).remaining c.args.source.now in
    let mid = (g.S.Source).remaining c.begins_version_three.new.source in
    let buffer = c.begins_version_three.new.buffer in
    let window = rw c.in_ok-buffer.ensures at c.in_ok-begins_version_three.ensures.window in
    let title = c.in_ok-begins_version_three.ensures.title in
    let other : IsTrue c.in_ok-begins_version_three.field-0 → ⊥ = λ is_three. let is_other = c.if-branch.false in absurd cc in
    let (is_answer, rest, known_mid, good_rest) = tree_only problem answer had mid c.args.limit buffer window c.in_ok-begins_version_three.field-0 title other claimed bytes known good in
    sym is_answer

pub returns-in_ok-judge_tree_cert-clause-good : goal.returns-in_ok-judge_tree_cert-clause-good
returns-in_ok-judge_tree_cert-clause-good g c bytes known =
    let problem = c.args.problem.now in
    let answer = c.args.answer.now in
    let had = (g.S.Source).remaining c.args.source.now in
    let mid = (g.S.Source).remaining c.begins_version_three.new.source in
    let buffer = c.begins_version_three.new.buffer in
    let window = rw c.in_ok-buffer.ensures at c.in_ok-begins_version_three.ensures.window in
    let title = c.in_ok-begins_version_three.ensures.title in
    tree_good problem answer had mid c.args.limit buffer window c.in_ok-begins_version_three.field-0 title c.in_ok-judge_tree_cert.ensures.good bytes known

pub returns-in_ok-judge_tree_cert-clause-within : goal.returns-in_ok-judge_tree_cert-clause-within
returns-in_ok-judge_tree_cert-clause-within g c bytes known =
    let problem = c.args.problem.now in
    let answer = c.args.answer.now in
    let had = (g.S.Source).remaining c.args.source.now in
    let mid = (g.S.Source).remaining c.begins_version_three.new.source in
    let buffer = c.begins_version_three.new.buffer in
    let window = rw c.in_ok-buffer.ensures at c.in_ok-begins_version_three.ensures.window in
    let title = c.in_ok-begins_version_three.ensures.title in
    within_after problem answer had mid c.args.limit buffer window c.in_ok-begins_version_three.field-0 title c.in_ok-judge_tree_cert.ensures.within bytes known

pub returns-in_ok-judge_lemmas-clause-within : goal.returns-in_ok-judge_lemmas-clause-within
returns-in_ok-judge_lemmas-clause-within g c bytes known =
    let problem = c.args.problem.now in
    let answer = c.args.answer.now in
    let had = (g.S.Source).remaining c.args.source.now in
    let mid = (g.S.Source).remaining c.begins_version_three.new.source in
    let buffer = c.begins_version_three.new.buffer in
    let window = rw c.in_ok-buffer.ensures at c.in_ok-begins_version_three.ensures.window in
    let title = c.in_ok-begins_version_three.ensures.title in
    within_after problem answer had mid c.args.limit buffer window c.in_ok-begins_version_three.field-0 title c.in_ok-judge_lemmas.ensures.within bytes known
