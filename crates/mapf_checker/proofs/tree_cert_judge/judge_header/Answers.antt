use Rattle.std.proofs.Common.{length, sym, ◌∙◌, ap}
use Rattle.std.proofs.lemmas.Bool.{iff_false}
use Rattle.mapf_certificate.specs.CertReading.{HasHeader}
use Rattle.mapf_certificate.specs.Certificates.{header_text}
use Rattle.mapf_certificate.proofs.Windows.{Window-within}
use Rattle.mapf_checker.specs.CertJudging.{HasHeaderRefusal}
use Rattle.mapf_checker.specs.Faults.{of_cert, IsNoRefusal, IsOfChecking}
use Rattle.mapf_checker.proofs.CertLemmas.{begins, stops_heading}
use Rattle.mapf_checker.proofs.ReadLemmas.{err_passed, no_refusal}
use Rattle.mapf_checker.proofs.tree_cert_judge.judge_header.Goals as goal

pub returns-in_err-agents-clause-only : goal.returns-in_err-agents-clause-only
returns-in_err-agents-clause-only g c version nodes awaits =
    let fault = c.in_err-agents.field-0.0 in
    err_passed c.from_residual.result IsNoRefusal (of_cert fault) c.from_residual.ensures.1
    (no_refusal fault (c.in_err-agents.ensures.only version (length c.args.problem.now.agents) c.args.claim.now nodes c.requires.opened.fault c.requires.opened.header awaits))

pub returns-in_err-agents-clause-stops : goal.returns-in_err-agents-clause-stops
returns-in_err-agents-clause-stops g c =
    let problem = c.args.problem.now in
    let claim = c.args.claim.now in
    let had = (g.S.Source).remaining c.args.source.now in
    let left = (g.S.Source).remaining c.header.new.source in
    let failed = (g.S.Source).has_failed c.header.new.source in
    let start = c.args.lines.now in
    let fault = c.in_err-agents.field-0.0 in
    err_passed c.from_residual.result (IsOfChecking had left failed start.buffer (HasHeaderRefusal problem claim had start)) (of_cert fault) c.from_residual.ensures.1
    (stops_heading problem claim had left failed start (HasHeader start.width) fault (c.in_err-agents.ensures.fails c.requires.opened.fault)
    (λ version agents claimed nodes awaits. c.in_err-agents.ensures.only version agents claimed nodes c.requires.opened.fault c.requires.opened.header awaits))

pub returns-then-agents-clause-only : goal.returns-then-agents-clause-only
returns-then-agents-clause-only g c version nodes awaits =
    let same = c.in_ok-agents.ensures.only version (length c.args.problem.now.agents) c.args.claim.now nodes c.requires.opened.fault c.requires.opened.header awaits in
    c.if-agents.true (same.1 ∙ ap length (sym c.agents.ensures.value))

pub returns-then-agents-clause-stops : goal.returns-then-agents-clause-stops
returns-then-agents-clause-stops g c =
    let takes = c.in_ok-agents.ensures.header c.requires.opened.fault c.requires.opened.header in
    let start = c.args.lines.now in (
      c.in_ok-agents.ensures.works,
      Window-within ((g.S.Source).remaining c.args.source.now) ((g.S.Source).remaining c.header.new.source) start.buffer c.header.new.self.buffer (header_text c.header.new.self.version start.width c.in_ok-agents.agents c.in_ok-agents.claimed) takes.window,
      λ bytes known. (
        c.in_ok-agents.agents,
        c.in_ok-agents.claimed,
        begins c.args.problem.now ((g.S.Source).remaining c.args.source.now) c.args.lines.now c.requires.opened bytes known ((g.S.Source).remaining c.header.new.source) c.header.new.self c.in_ok-agents.agents c.in_ok-agents.claimed takes,
        λ same. c.if-agents.true (same ∙ ap length (sym c.agents.ensures.value)),
      ),
    )

pub returns-then-not-are_one_claim-clause-only : goal.returns-then-not-are_one_claim-clause-only
returns-then-not-are_one_claim-clause-only g c version nodes awaits =
    let same = c.in_ok-agents.ensures.only version (length c.args.problem.now.agents) c.args.claim.now nodes c.requires.opened.fault c.requires.opened.header awaits in
    iff_false c.are_one_claim.ensures c.if-not-are_one_claim.true same.2

pub returns-then-not-are_one_claim-clause-stops : goal.returns-then-not-are_one_claim-clause-stops
returns-then-not-are_one_claim-clause-stops g c =
    let takes = c.in_ok-agents.ensures.header c.requires.opened.fault c.requires.opened.header in
    let start = c.args.lines.now in (
      c.in_ok-agents.ensures.works,
      Window-within ((g.S.Source).remaining c.args.source.now) ((g.S.Source).remaining c.header.new.source) start.buffer c.header.new.self.buffer (header_text c.header.new.self.version start.width c.in_ok-agents.agents c.in_ok-agents.claimed) takes.window,
      λ bytes known. (
        c.in_ok-agents.agents,
        c.in_ok-agents.claimed,
        begins c.args.problem.now ((g.S.Source).remaining c.args.source.now) c.args.lines.now c.requires.opened bytes known ((g.S.Source).remaining c.header.new.source) c.header.new.self c.in_ok-agents.agents c.in_ok-agents.claimed takes,
        iff_false c.are_one_claim.ensures c.if-not-are_one_claim.true,
      ),
    )

pub returns-clause-ahead : goal.returns-clause-ahead
returns-clause-ahead g c version agents claimed nodes awaits = (c.in_ok-agents.ensures.only version agents claimed nodes c.requires.opened.fault c.requires.opened.header awaits).3
