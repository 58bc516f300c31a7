use Rattle.std.proofs.Common.{sym, ◌∙◌, IsTrue}
use Rattle.std.proofs.lemmas.Bool.{false≢true}
use Rattle.std.proofs.lemmas.Result.{err_from_is_err_and}
use Rattle.mapf_certificate.proofs.Windows.{err_passed, Fails-weaker}
use Rattle.mapf_lemma_texts.proofs.ListLaws.{value_is_line, misfit_line, misfit_value}
use Rattle.mapf_lemma_texts.proofs.lists.next_value.Goals as goal

pub returns-in_err-line-clause-fails : goal.returns-in_err-line-clause-fails
returns-in_err-line-clause-fails g c =
    let listed = g.T.Listed in
    let bounds = c.args.bounds.now in
    err_passed _ _ _ (err_from_is_err_and _ c.from_residual.ensures.1)
    (Fails-weaker _ _ _ _ _ _ _ (value_is_line bounds.sizes listed.line_of (listed.fits bounds.agents.now) listed.precedes g.met.T.Listed.apart c.args.before.now) c.in_err-line.ensures.fails)

pub returns-in_default-clause-fails : goal.returns-in_default-clause-fails
returns-in_default-clause-fails g c =
    let listed = g.T.Listed in
    let bounds = c.args.bounds.now in
    misfit_line bounds.sizes listed.line_of (listed.fits bounds.agents.now) listed.precedes g.met.T.Listed.apart c.args.before.now _ _ _ _ _ _ _ c.misfit.ensures c.in_ok-line.ensures.works c.in_ok-line.ensures.line c.in_ok-line.ensures.taken (λ value same follows. c.in_default.ensures.none value same)

pub returns-then-not-is_fit-clause-fails : goal.returns-then-not-is_fit-clause-fails
returns-then-not-is_fit-clause-fails g c =
    let listed = g.T.Listed in
    let bounds = c.args.bounds.now in
    misfit_value bounds.sizes listed.line_of (listed.fits bounds.agents.now) listed.precedes g.met.T.Listed.apart c.args.before.now _ _ _ _ _ _ _ _ c.misfit-then-not-is_fit.ensures c.in_ok-line.ensures.works c.in_ok-line.ensures.line c.in_ok-line.ensures.taken c.in-Some.ensures.found (λ follows.
    let wrong : IsTrue c.is_fit.result = c.is_fit.ensures.1 follows.0.1 in
    false≢true (sym c.if-not-is_fit.true ∙ wrong))

pub returns-then-not-follows-clause-fails : goal.returns-then-not-follows-clause-fails
returns-then-not-follows-clause-fails g c =
    let listed = g.T.Listed in
    let bounds = c.args.bounds.now in
    misfit_value bounds.sizes listed.line_of (listed.fits bounds.agents.now) listed.precedes g.met.T.Listed.apart c.args.before.now _ _ _ _ _ _ _ _ c.misfit-then-not-follows.ensures c.in_ok-line.ensures.works c.in_ok-line.ensures.line c.in_ok-line.ensures.taken c.in-Some.ensures.found (λ follows.
    let wrong : IsTrue c.follows.result = c.follows.ensures.1 follows.1 in
    false≢true (sym c.if-not-follows.true ∙ wrong))
