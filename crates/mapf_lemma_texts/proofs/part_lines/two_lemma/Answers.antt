use Rattle.std.proofs.Common.{[], ◌∷◌, length, sym}
use Rattle.std.proofs.lemmas.Result.{err_from_is_err_and}
use Rattle.mapf_certificate.proofs.Windows.{err_passed, Fails-weaker, Fails-after}
use Rattle.mapf_lemma_texts.specs.declared.line.LemmaLine.TheVariants as lines
use Rattle.mapf_lemma_texts.specs.Listing.{IsOfAgents, InAnyOrder, FitsAnyhow}
use Rattle.mapf_lemma_texts.proofs.ListLaws.{list_here, list_after}
use Rattle.mapf_lemma_texts.proofs.PartTexts.{BeforeEntry, FirstDue, SecondDue, JointDue, constraint_same, entry_same, two_next, two_completed, nothing_fits}
use Rattle.mapf_lemma_texts.proofs.part_lines.two_lemma.Goals as goal

pub returns-in_default-clause-fails : goal.returns-in_default-clause-fails
returns-in_default-clause-fails g c =
    nothing_fits _ _ _ _ _ c.misfit.ensures c.requires.works (λ t follows. let v = follows.value in c.in_default.not-Two v.i v.j (length v.constraints) (length v.first) (length v.second) (length v.joint) v.list_number (sym follows.first))

pub returns-in_err-constraints-clause-fails : goal.returns-in_err-constraints-clause-fails
returns-in_err-constraints-clause-fails g c =
    let sizes = c.args.sizes.now in
    let l = c.in-Two in
    err_passed _ _ _ (err_from_is_err_and _ c.from_residual.ensures.1)
    (Fails-weaker _ _ _ _ _ _ _ (λ t follows. list_here sizes lines.Constraint (IsOfAgents (l.i ∷ l.j ∷ [])) InAnyOrder constraint_same l.constraints (FirstDue sizes l.first_entries l.second_entries l.joint_entries) t
    (two_next sizes c.args.line.now l.i l.j l.constraints l.first_entries l.second_entries l.joint_entries l.list_number l.is t follows)) c.in_err-constraints.ensures.fails)

pub returns-in_err-first-clause-fails : goal.returns-in_err-first-clause-fails
returns-in_err-first-clause-fails g c =
    let sizes = c.args.sizes.now in
    let l = c.in-Two in
    err_passed _ _ _ (err_from_is_err_and _ c.from_residual-in_err-first.ensures.1)
    (Fails-after _ _ _ _ _ _ _ _ _ _ c.in_ok-constraints.ensures.taken (λ more follows. list_here sizes lines.At FitsAnyhow BeforeEntry entry_same l.first_entries (SecondDue sizes l.second_entries l.joint_entries) more
    (list_after sizes lines.Constraint (IsOfAgents (l.i ∷ l.j ∷ [])) InAnyOrder constraint_same l.constraints (FirstDue sizes l.first_entries l.second_entries l.joint_entries) c.in_ok-constraints.constraints.items more c.in_ok-constraints.ensures.values
    (two_next sizes c.args.line.now l.i l.j l.constraints l.first_entries l.second_entries l.joint_entries l.list_number l.is _ follows))) c.in_err-first.ensures.fails)

pub returns-in_err-second-clause-fails : goal.returns-in_err-second-clause-fails
returns-in_err-second-clause-fails g c =
    let sizes = c.args.sizes.now in
    let l = c.in-Two in
    err_passed _ _ _ (err_from_is_err_and _ c.from_residual-in_err-second.ensures.1)
    (Fails-after _ _ _ _ _ _ _ _ (FirstDue sizes l.first_entries l.second_entries l.joint_entries) _ c.in_ok-constraints.ensures.taken (λ more follows.
    list_after sizes lines.Constraint (IsOfAgents (l.i ∷ l.j ∷ [])) InAnyOrder constraint_same l.constraints (FirstDue sizes l.first_entries l.second_entries l.joint_entries) c.in_ok-constraints.constraints.items more c.in_ok-constraints.ensures.values
    (two_next sizes c.args.line.now l.i l.j l.constraints l.first_entries l.second_entries l.joint_entries l.list_number l.is _ follows))
    (Fails-after _ _ _ _ _ _ _ _ _ _ c.in_ok-first.ensures.taken (λ more listed. list_here sizes lines.At FitsAnyhow BeforeEntry entry_same l.second_entries (JointDue sizes l.joint_entries) more
    (list_after sizes lines.At FitsAnyhow BeforeEntry entry_same l.first_entries (SecondDue sizes l.second_entries l.joint_entries) c.in_ok-first.first.items more c.in_ok-first.ensures.values listed)) c.in_err-second.ensures.fails))

pub returns-in_err-joint-clause-fails : goal.returns-in_err-joint-clause-fails
returns-in_err-joint-clause-fails g c =
    let sizes = c.args.sizes.now in
    let l = c.in-Two in
    err_passed _ _ _ (err_from_is_err_and _ c.from_residual-in_err-joint.ensures.1)
    (Fails-after _ _ _ _ _ _ _ _ (FirstDue sizes l.first_entries l.second_entries l.joint_entries) _ c.in_ok-constraints.ensures.taken (λ more follows.
    list_after sizes lines.Constraint (IsOfAgents (l.i ∷ l.j ∷ [])) InAnyOrder constraint_same l.constraints (FirstDue sizes l.first_entries l.second_entries l.joint_entries) c.in_ok-constraints.constraints.items more c.in_ok-constraints.ensures.values
    (two_next sizes c.args.line.now l.i l.j l.constraints l.first_entries l.second_entries l.joint_entries l.list_number l.is _ follows))
    (Fails-after _ _ _ _ _ _ _ _ (SecondDue sizes l.second_entries l.joint_entries) _ c.in_ok-first.ensures.taken (λ more listed.
    list_after sizes lines.At FitsAnyhow BeforeEntry entry_same l.first_entries (SecondDue sizes l.second_entries l.joint_entries) c.in_ok-first.first.items more c.in_ok-first.ensures.values listed)
    (Fails-after _ _ _ _ _ _ _ _ _ _ c.in_ok-second.ensures.taken (λ more listed.
    list_after sizes lines.At FitsAnyhow BeforeEntry entry_same l.second_entries (JointDue sizes l.joint_entries) c.in_ok-second.second.items more c.in_ok-second.ensures.values listed) c.in_err-joint.ensures.fails)))

pub returns-clause-completes : goal.returns-clause-completes
returns-clause-completes g c =
    let l = c.in-Two in
    two_completed c.args.sizes.now _ _ _ _ _ _ _ _ _ _ c.args.line.now l.i l.j l.constraints l.first_entries l.second_entries l.joint_entries l.list_number
    c.in_ok-constraints.constraints.items c.in_ok-first.first.items c.in_ok-second.second.items c.in_ok-joint.joint.items c.requires.line l.is
    c.in_ok-constraints.ensures.values c.in_ok-first.ensures.values c.in_ok-second.ensures.values c.in_ok-joint.ensures.values
    c.in_ok-constraints.ensures.taken c.in_ok-first.ensures.taken c.in_ok-second.ensures.taken c.in_ok-joint.ensures.taken
