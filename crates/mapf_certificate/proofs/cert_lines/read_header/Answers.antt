use Rattle.std.proofs.lemmas.Result.{err_from_is_err_and}
use Rattle.mapf_certificate.proofs.Windows.{err_passed}
use Rattle.mapf_certificate.proofs.Headers.{fails_in_title, fails_in_agents, fails_in_claim, header_there, header_window}
use Rattle.mapf_certificate.proofs.cert_lines.read_header.Goals as goal

pub returns-in_err-version-clause-fails : goal.returns-in_err-version-clause-fails
returns-in_err-version-clause-fails g c = λ width.
    err_passed _ _ _ (err_from_is_err_and _ c.from_residual.ensures.1)
    (fails_in_title width _ _ _ _ _ c.in_err-version.ensures.fails)

pub returns-in_err-agents-clause-fails : goal.returns-in_err-agents-clause-fails
returns-in_err-agents-clause-fails g c = λ width.
    err_passed _ _ _ (err_from_is_err_and _ c.from_residual-in_err-agents.ensures.1)
    (fails_in_agents width _ _ _ _ _ _ _ _ _ c.in-Title.is c.in_ok-version.ensures.taken c.in_err-agents.ensures.fails)

pub returns-in_err-claim-clause-fails : goal.returns-in_err-claim-clause-fails
returns-in_err-claim-clause-fails g c = λ width.
    err_passed _ _ _ (err_from_is_err_and _ c.from_residual-in_err-claim.ensures.1)
    (fails_in_claim width _ _ _ _ _ _ _ _ _ _ _ _ c.in-Title.is c.in_ok-agents.ensures.line c.in_ok-version.ensures.taken c.in_ok-agents.ensures.taken c.in_err-claim.ensures.fails)

pub returns-clause-taken : goal.returns-clause-taken
returns-clause-taken g c = λ width.
    header_window width _ _ _ _ _ _ _ _
    _ _ _ _ _ _ c.in_ok-version.ensures.taken c.in_ok-agents.ensures.taken c.in_ok-claim.ensures.taken c.in-Title.is c.in-Agents.is c.in-Claim.is

pub returns-clause-there : goal.returns-clause-there
returns-clause-there g c = λ width.
    header_there width c.args.source.now c.next.new.source c.next-2.new.source c.next-3.new.source c.args.lines.now.buffer c.next.new.self.buffer c.next-2.new.self.buffer c.next-3.new.self.buffer
    c.in_ok-version.field-0 c.in_ok-agents.field-0 c.in_ok-claim.field-0 c.in-Title.version c.in-Agents.agents c.in-Claim.claim c.in_ok-version.ensures.there c.in_ok-agents.ensures.there c.in_ok-claim.ensures.there c.in-Title.is c.in-Agents.is c.in-Claim.is
