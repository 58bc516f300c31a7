use Rattle.std.proofs.Common.{[], ◌∷◌}
use Rattle.std.proofs.lemmas.Result.{err_from_is_err_and}
use Rattle.mapf_certificate.proofs.Windows.{err_passed, Fails-weaker, Fails-after}
use Rattle.mapf_lemma_texts.specs.declared.line.LemmaLine.TheVariants as lines
use Rattle.mapf_lemma_texts.specs.Listing.{IsOfAgents, InAnyOrder}
use Rattle.mapf_lemma_texts.proofs.ListLaws.{list_here, list_after}
use Rattle.mapf_lemma_texts.proofs.PartTexts.{EntriesDue, constraint_same, one_next, one_completed}
use Rattle.mapf_lemma_texts.proofs.part_lines.one_lemma.Goals as goal

pub returns-in_err-constraints-clause-fails : goal.returns-in_err-constraints-clause-fails
returns-in_err-constraints-clause-fails g c =
    let sizes = c.args.sizes.now in
    let l = c.in-One in
    err_passed _ _ _ (err_from_is_err_and _ c.from_residual.ensures.1)
    (Fails-weaker _ _ _ _ _ _ _ (λ t follows. list_here sizes lines.Constraint (IsOfAgents (l.agent ∷ [])) InAnyOrder constraint_same l.constraints (EntriesDue sizes l.entries) t (one_next sizes c.args.line.now l.agent l.constraints l.entries l.list_number l.is t follows)) c.in_err-constraints.ensures.fails)

pub returns-in_err-entries-clause-fails : goal.returns-in_err-entries-clause-fails
returns-in_err-entries-clause-fails g c =
    let sizes = c.args.sizes.now in
    let l = c.in-One in
    let constraints = c.in_ok-constraints.constraints.items in
    err_passed _ _ _ (err_from_is_err_and _ c.from_residual-in_err-entries.ensures.1)
    (Fails-after _ _ _ _ _ _ _ _ _ _ c.in_ok-constraints.ensures.taken (λ more follows. list_after sizes lines.Constraint (IsOfAgents (l.agent ∷ [])) InAnyOrder constraint_same l.constraints (EntriesDue sizes l.entries) constraints more c.in_ok-constraints.ensures.values (one_next sizes c.args.line.now l.agent l.constraints l.entries l.list_number l.is _ follows)) c.in_err-entries.ensures.fails)

pub returns-clause-completes : goal.returns-clause-completes
returns-clause-completes g c =
    let l = c.in-One in
    one_completed c.args.sizes.now _ _ _ _ _ _ c.args.line.now l.agent l.constraints l.entries l.list_number c.in_ok-constraints.constraints.items c.in_ok-entries.entries.items c.requires.line l.is c.in_ok-constraints.ensures.values c.in_ok-entries.ensures.values c.in_ok-constraints.ensures.taken c.in_ok-entries.ensures.taken
