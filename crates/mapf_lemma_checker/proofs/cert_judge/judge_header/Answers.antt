use Rattle.std.proofs.Common.{◌≡◌, ℕ, ◌++◌, length, sym, ◌∙◌, ap, subst, []}
use Rattle.std.proofs.lemmas.Bool.{iff_false}
use Rattle.mapf_certificate.proofs.Windows.{Window-within}
use Rattle.mapf_lemma_checker.specs.CertJudging.{HasHeaderRefusal}
use Rattle.mapf_lemma_checker.specs.Answers.{FitsAnswer}
use Rattle.mapf_lemma_checker.specs.Faults.{IsOfChecking, of_lines}
use Rattle.mapf_lemma_checker.specs.BadParts.{BeginsWithLemmaHeader}
use Rattle.mapf_lemma_checker.proofs.JudgedLemmas.{err_passed, none_taken, stops_reading}
use Rattle.mapf_lemma_checker.proofs.WholeLemmas.{begins, headed}
use Rattle.mapf_lemma_texts.specs.PartReading.{HasHeader, TakesHeader, header_text}
use Rattle.mapf_model.specs.declared.item.Claim.{Claim}
use Rattle.mapf_lemma_checker.proofs.cert_judge.judge_header.Goals as goal

pub returns-in_err-agents-clause-stops : goal.returns-in_err-agents-clause-stops
returns-in_err-agents-clause-stops g c =
    let problem = c.args.problem.now in
    let answer = c.args.answer.now in
    let had = (g.S.Source).remaining c.args.source.now in
    let left = (g.S.Source).remaining c.header.new.source in
    let failed = (g.S.Source).has_failed c.header.new.source in
    let start = c.args.reader.now in
    let fault = c.in_err-agents.field-0.0 in
    let opened = c.requires.opened in
    err_passed c.from_residual.result (IsOfChecking had left failed start.buffer (HasHeaderRefusal problem answer had start)) (of_lines fault) c.from_residual.ensures.1
    (stops_reading had left failed start.buffer (HasHeaderRefusal problem answer had start) had start.buffer [] (HasHeader start.width) fault (none_taken had start.buffer) (c.in_err-agents.ensures.fails opened.no_fault)
    (λ why other text. (other, (λ claim parts fits awaits. text (c.in_err-agents.ensures.only (length problem.agents) claim parts opened.no_fault awaits)), λ agents claim parts awaits. text (c.in_err-agents.ensures.only agents claim parts opened.no_fault awaits))))

pub returns-then-agents-clause-stops : goal.returns-then-agents-clause-stops
returns-then-agents-clause-stops g c =
    let start = c.args.reader.now in
    let opened = c.requires.opened in
    let takes = c.in_ok-agents.ensures.header opened.no_fault in (
      c.in_ok-agents.ensures.works,
      Window-within ((g.S.Source).remaining c.args.source.now) ((g.S.Source).remaining c.header.new.source) start.buffer c.header.new.self.buffer (header_text start.width c.in_ok-agents.agents c.in_ok-agents.claim) takes.window,
      (
        (λ e. cc),
        (λ claim parts fits awaits.
            let same = c.in_ok-agents.ensures.only (length c.args.problem.now.agents) claim parts opened.no_fault awaits in
            c.if-agents.true (same.0 ∙ ap length (sym c.agents.ensures.value))),
        λ bytes known. (
          c.in_ok-agents.agents,
          c.in_ok-agents.claim,
          begins c.args.problem.now ((g.S.Source).remaining c.args.source.now) ((g.S.Source).remaining c.header.new.source) start c.header.new.self opened c.in_ok-agents.agents c.in_ok-agents.claim takes bytes known,
          λ same. c.if-agents.true (same ∙ ap length (sym c.agents.ensures.value)),
        ),
      ),
    )

pub returns-then-not-fits_answer-clause-stops : goal.returns-then-not-fits_answer-clause-stops
returns-then-not-fits_answer-clause-stops g c =
    let start = c.args.reader.now in
    let opened = c.requires.opened in
    let takes = c.in_ok-agents.ensures.header opened.no_fault in (
      c.in_ok-agents.ensures.works,
      Window-within ((g.S.Source).remaining c.args.source.now) ((g.S.Source).remaining c.header.new.source) start.buffer c.header.new.self.buffer (header_text start.width c.in_ok-agents.agents c.in_ok-agents.claim) takes.window,
      (
        (λ e. cc),
        (λ claim parts fits awaits.
            let same = c.in_ok-agents.ensures.only (length c.args.problem.now.agents) claim parts opened.no_fault awaits in
            iff_false c.fits_answer.ensures c.if-not-fits_answer.true (subst (λ (made : Claim). FitsAnswer c.args.answer.now made) (sym same.1) fits)),
        λ bytes known.
            let same : c.in_ok-agents.agents ≡ length c.args.problem.now.agents = c.if-agents.false ∙ ap length c.agents.ensures.value in
            let header = begins c.args.problem.now ((g.S.Source).remaining c.args.source.now) ((g.S.Source).remaining c.header.new.source) start c.header.new.self opened c.in_ok-agents.agents c.in_ok-agents.claim takes bytes known in (
              c.in_ok-agents.claim,
              subst (λ (n : ℕ). BeginsWithLemmaHeader c.args.problem.now (start.buffer.bytes ++ bytes) n c.in_ok-agents.claim) same header,
              iff_false c.fits_answer.ensures c.if-not-fits_answer.true,
            ),
      ),
    )

pub returns-clause-only : goal.returns-clause-only
returns-clause-only g c agents claim parts awaits =
    let same = c.in_ok-agents.ensures.only agents claim parts c.requires.opened.no_fault awaits in
    (same.1, same.2)

pub returns-clause-taken : goal.returns-clause-taken
returns-clause-taken g c =
    let had = (g.S.Source).remaining c.args.source.now in
    let left = (g.S.Source).remaining c.header.new.source in
    let same : c.in_ok-agents.agents ≡ length c.args.problem.now.agents = c.if-agents.false ∙ ap length c.agents.ensures.value in
    subst (λ (n : ℕ). TakesHeader had left c.args.reader.now c.header.new.self n c.in_ok-agents.claim) same (c.in_ok-agents.ensures.header c.requires.opened.no_fault)

pub returns-clause-between : goal.returns-clause-between
returns-clause-between g c =
    let had = (g.S.Source).remaining c.args.source.now in
    let left = (g.S.Source).remaining c.header.new.source in
    let said = c.in_ok-agents.ensures in
    let same : c.in_ok-agents.agents ≡ length c.args.problem.now.agents = c.if-agents.false ∙ ap length c.agents.ensures.value in
    let takes = subst (λ (n : ℕ). TakesHeader had left c.args.reader.now c.header.new.self n c.in_ok-agents.claim) same (said.header c.requires.opened.no_fault) in
    headed c.args.problem.now had left c.args.reader.now c.header.new.self c.in_ok-agents.claim c.requires.opened takes said.unfaulted said.part.0 said.part.1
