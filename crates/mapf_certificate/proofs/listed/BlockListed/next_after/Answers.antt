use Rattle.std.proofs.Common.{◌≡◌, length, ap, subst, sym, ◌∙◌, IsTrue}
use Rattle.std.proofs.lemmas.Bool.{false≢true}
use Rattle.std.proofs.lemmas.Result.{err_from_is_err_and}
use Rattle.mapf_certificate.specs.Untouched.{TakesThere}
use Rattle.mapf_certificate.specs.Certificates.{line_text, entries_text}
use Rattle.mapf_certificate.specs.declared.line.CertLine.{CertLine}
use Rattle.mapf_certificate.specs.declared.line.CertLine.TheVariants as lines
use Rattle.mapf_certificate.proofs.TakenThere.{there-trans}
use Rattle.mapf_certificate.proofs.Windows.{err_passed, Fails-weaker}
use Rattle.mapf_certificate.proofs.Blocks.{entries_apart, block_is_line, misfit_block, fails_in_entries, block_window}
use Rattle.mapf_certificate.proofs.listed.BlockListed.next_after.Goals as goal

pub returns-in_err-agent-clause-fails : goal.returns-in_err-agent-clause-fails
returns-in_err-agent-clause-fails g c =
    let sizes = c.args.sizes.now in
    err_passed _ _ _ (err_from_is_err_and _ c.from_residual.ensures.1)
    (Fails-weaker _ _ _ _ _ _ _ (block_is_line sizes c.args.before.now) c.in_err-agent.ensures.fails)

pub returns-then-not-follows_blocks-clause-fails : goal.returns-then-not-follows_blocks-clause-fails
returns-then-not-follows_blocks-clause-fails g c =
    misfit_block c.args.sizes.now c.args.before.now _ _ _ _ _ _ _ _
    _ c.misfit-then-not-follows_blocks.ensures c.in_ok-agent.ensures.works c.in_ok-agent.ensures.line c.in_ok-agent.ensures.taken c.in-Agent.is (λ all.
    let wrong : IsTrue c.follows_blocks.result = c.follows_blocks.ensures.1 all in
    false≢true (sym c.if-not-follows_blocks.true ∙ wrong))

pub returns-in_err-entries-clause-fails : goal.returns-in_err-entries-clause-fails
returns-in_err-entries-clause-fails g c =
    let sizes = c.args.sizes.now in
    err_passed _ _ _ (err_from_is_err_and _ c.from_residual-in_err-entries.ensures.1)
    (fails_in_entries sizes c.args.before.now _ _ _ _ _ _ _ _ _ _ c.in_ok-agent.ensures.line c.in_ok-agent.ensures.taken c.in-Agent.is c.in_err-entries.ensures.fails)

pub returns-clause-taken : goal.returns-clause-taken
returns-clause-taken g c =
    block_window c.args.sizes.now _ _ _ _ _ _ _ _ _ _
    c.in_ok-agent.ensures.taken c.in-Agent.is c.in_ok-entries.ensures.values.many c.in_ok-entries.ensures.taken

pub returns-clause-there : goal.returns-clause-there
returns-clause-there g c =
    let width = c.args.sizes.now.width in
    let entries = c.in_ok-entries.entries.items in
    let whole : c.in_ok-agent.field-0 ≡ lines.Agent c.in-Agent.agent (length entries) = c.in-Agent.is ∙ ap (lines.Agent c.in-Agent.agent) (sym c.in_ok-entries.ensures.values.many) in
    let first = subst (λ (l : CertLine). TakesThere c.args.source.now c.next.new.source c.args.lines.now.buffer c.next.new.self.buffer (line_text width l)) whole c.in_ok-agent.ensures.there in
    there-trans c.args.source.now c.next.new.source c.list.new.source c.args.lines.now.buffer c.next.new.self.buffer c.list.new.self.buffer (line_text width (lines.Agent c.in-Agent.agent (length entries))) (entries_text width entries) first c.in_ok-entries.ensures.there

pub list-requires-clause-apart : goal.list-requires-clause-apart
list-requires-clause-apart g c = entries_apart c.args.sizes.now
