use Rattle.std.proofs.lemmas.Result.{err_from_is_err_and}
use Rattle.mapf_certificate.proofs.Windows.{err_passed}
use Rattle.mapf_lemma_texts.proofs.PartHeaders.{fails_in_title, fails_in_agents, fails_in_claim, header_window}
use Rattle.mapf_lemma_texts.proofs.part_reader.read_header.Goals as goal

pub returns-in_err-next-clause-fails : goal.returns-in_err-next-clause-fails
returns-in_err-next-clause-fails g c = λ width.
    err_passed _ _ _ (err_from_is_err_and _ c.from_residual.ensures.1)
    (fails_in_title width _ _ _ _ _ c.in_err-next.ensures.fails)

pub returns-in_err-agents-clause-fails : goal.returns-in_err-agents-clause-fails
returns-in_err-agents-clause-fails g c = λ width.
    err_passed _ _ _ (err_from_is_err_and _ c.from_residual-in_err-agents.ensures.1)
    (fails_in_agents width _ _ _ _ _ _ _ _ c.in-Title.is c.in_ok-next.ensures.taken c.in_err-agents.ensures.fails)

pub returns-in_err-claim-clause-fails : goal.returns-in_err-claim-clause-fails
returns-in_err-claim-clause-fails g c = λ width.
    err_passed _ _ _ (err_from_is_err_and _ c.from_residual-in_err-claim.ensures.1)
    (fails_in_claim width _ _ _ _ _ _ _ _ _ _ _ c.in-Title.is c.in_ok-agents.ensures.line c.in_ok-next.ensures.taken c.in_ok-agents.ensures.taken c.in_err-claim.ensures.fails)

pub returns-clause-taken : goal.returns-clause-taken
returns-clause-taken g c = λ width.
    header_window width _ _ _ _ _ _ _ _ c.in_ok-next.field-0 c.in_ok-agents.field-0 c.in_ok-claim.field-0 c.in-Agents.agents c.in-Claim.claim c.in_ok-next.ensures.taken c.in_ok-agents.ensures.taken c.in_ok-claim.ensures.taken c.in-Title.is c.in-Agents.is c.in-Claim.is
