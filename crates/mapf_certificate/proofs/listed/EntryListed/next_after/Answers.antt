use Rattle.std.proofs.Common.{subst, sym, ◌∙◌, IsTrue}
use Rattle.std.proofs.lemmas.Bool.{false≢true}
use Rattle.std.proofs.lemmas.Result.{err_from_is_err_and}
use Rattle.mapf_certificate.specs.Untouched.{TakesThere}
use Rattle.mapf_certificate.specs.Certificates.{line_text}
use Rattle.mapf_certificate.specs.declared.line.CertLine.{CertLine}
use Rattle.mapf_certificate.proofs.Windows.{err_passed, Fails-weaker}
use Rattle.mapf_certificate.proofs.Blocks.{entry_is_line, misfit_entry}
use Rattle.mapf_certificate.proofs.EntryFronts.{there_window, there_taken, there_spare}
use Rattle.mapf_certificate.proofs.listed.EntryListed.next_after.Goals as goal

pub returns-in_err-entry-clause-fails : goal.returns-in_err-entry-clause-fails
returns-in_err-entry-clause-fails g c =
    let sizes = c.args.sizes.now in
    err_passed _ _ _ (err_from_is_err_and _ c.from_residual.ensures.1)
    (Fails-weaker _ _ _ _ _ _ _ (entry_is_line sizes c.args.before.now) c.in_err-entry.ensures.fails)

pub returns-then-not-follows_entries-clause-fails : goal.returns-then-not-follows_entries-clause-fails
returns-then-not-follows_entries-clause-fails g c =
    misfit_entry c.args.sizes.now c.args.before.now _ _ _ _ _ _ _
    _ c.misfit-then-not-follows_entries.ensures c.in_ok-entry.ensures.works c.in_ok-entry.ensures.line c.in_ok-entry.ensures.taken c.in-At.is (λ all.
    let wrong : IsTrue c.follows_entries.result = c.follows_entries.ensures.1 all in
    false≢true (sym c.if-not-follows_entries.true ∙ wrong))

pub returns-clause-there : goal.returns-clause-there
returns-clause-there g c =
    let buffer = c.next.new.self.buffer in
    subst (λ (l : CertLine). TakesThere c.args.source.now c.next.new.source c.args.lines.now.buffer buffer (line_text c.args.sizes.now.width l)) c.in-At.is c.in_ok-entry.ensures.there

pub returns-in-Some-clause-spare : goal.returns-in-Some-clause-spare
returns-in-Some-clause-spare g c = there_spare c.args.lines.now.buffer c.take.new.self c.in-Some.length c.take.ensures

pub returns-in-Some-clause-taken : goal.returns-in-Some-clause-taken
returns-in-Some-clause-taken g c = there_window (g.S.Source.remaining c.args.source.now) c.args.lines.now.buffer c.take.new.self _ c.in-Some.length c.in-Some.ensures.text c.take.ensures

pub returns-in-Some-clause-there : goal.returns-in-Some-clause-there
returns-in-Some-clause-there g c = there_taken c.args.source.now c.args.lines.now.buffer c.take.new.self _ c.in-Some.length c.in-Some.ensures.text c.take.ensures
