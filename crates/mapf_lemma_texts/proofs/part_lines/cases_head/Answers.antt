use Rattle.std.proofs.Common.{List, ℕ, subst}
use Rattle.std.proofs.lemmas.Result.{err_from_is_err_and}
use Rattle.mapf_certificate.proofs.Windows.{err_passed, Fails-weaker, Fails-after}
use Rattle.mapf_certificate.specs.Window.{Fails}
use Rattle.mapf_certificate.specs.Bounded.{AreInOrder}
use Rattle.mapf_lemmas.specs.declared.constraint.AgentConstraint.{AgentConstraint}
use Rattle.mapf_lemma_texts.specs.declared.line.LemmaLine.TheVariants as lines
use Rattle.mapf_lemma_texts.specs.Listing.{IsListed, IsOfAgents, InAnyOrder}
use Rattle.mapf_lemma_texts.proofs.PartTexts.{ConstraintsDue, cases_next, cases_then, cases_completed}
use Rattle.mapf_lemma_texts.proofs.part_lines.cases_head.Goals as goal

pub returns-in_err-agents-clause-fails : goal.returns-in_err-agents-clause-fails
returns-in_err-agents-clause-fails g c =
    let l = c.in-Cases in
    err_passed _ _ _ (err_from_is_err_and _ c.from_residual.ensures.1)
    (Fails-weaker _ _ _ _ _ _ _ (cases_next c.args.sizes.now c.args.line.now l.agents l.constraints l.bound l.is) c.in_err-agents.ensures.fails)

pub returns-in_err-constraints-clause-fails : goal.returns-in_err-constraints-clause-fails
returns-in_err-constraints-clause-fails g c =
    let l = c.in-Cases in
    let s = g.S.Source in
    let sizes = c.args.sizes.now in
    let agents = c.in_ok-agents.agents.items in
    let fails = subst (λ (as' : List ℕ). Fails (s.remaining c.list.new.source) (s.remaining c.list-2.new.source) (s.has_failed c.list-2.new.source) c.list.new.lines.buffer (ConstraintsDue sizes as' l.constraints) c.in_err-constraints.field-0.0) c.deref.ensures.value c.in_err-constraints.ensures.fails in
    err_passed _ _ _ (err_from_is_err_and _ c.from_residual-in_err-constraints.ensures.1)
    (Fails-after _ _ _ _ _ _ _ _ _ _ c.in_ok-agents.ensures.taken (λ more follows. cases_then sizes c.args.line.now l.agents l.constraints l.bound l.is agents more c.in_ok-agents.ensures.values follows) fails)

pub returns-clause-completes : goal.returns-clause-completes
returns-clause-completes g c =
    let l = c.in-Cases in
    let sizes = c.args.sizes.now in
    let agents = c.in_ok-agents.agents.items in
    let constraints = c.in_ok-constraints.constraints.items in
    let values = subst (λ (as' : List ℕ). AreInOrder AgentConstraint (IsListed sizes lines.Constraint (IsOfAgents as')) InAnyOrder l.constraints constraints) c.deref.ensures.value c.in_ok-constraints.ensures.values in
    cases_completed sizes _ _ _ _ _ _ c.args.line.now l.agents l.constraints l.bound agents constraints c.requires.line l.is c.in_ok-agents.ensures.values values c.in_ok-agents.ensures.taken c.in_ok-constraints.ensures.taken
