use Rattle.std.proofs.Common.{◌<◌, length, sym}
use Rattle.std.proofs.lemmas.Result.{err_from_is_err_and}
use Rattle.mapf_certificate.proofs.Windows.{err_passed, Fails-weaker, Fails-after}
use Rattle.mapf_lemma_texts.specs.declared.line.LemmaLine.TheVariants as lines
use Rattle.mapf_lemma_texts.specs.Listing.{FitsAnyhow}
use Rattle.mapf_lemma_texts.proofs.ListLaws.{list_here, list_after}
use Rattle.mapf_lemma_texts.proofs.PartTexts.{GroupsDue, single_same, leaf_next, leaf_completed, nothing_fits}
use Rattle.mapf_lemma_texts.proofs.part_lines.leaf_uses.Goals as goal

pub returns-in_default-clause-fails : goal.returns-in_default-clause-fails
returns-in_default-clause-fails g c =
    nothing_fits _ _ _ _ _ c.misfit.ensures c.requires.works (λ t follows. let v = follows.value in c.in_default.not-Leaf (length v.singles) (length v.groups) v.list_number (sym follows.first))

pub returns-in_err-singles-clause-fails : goal.returns-in_err-singles-clause-fails
returns-in_err-singles-clause-fails g c =
    let sizes = c.args.sizes.now in
    let l = c.in-Leaf in
    err_passed _ _ _ (err_from_is_err_and _ c.from_residual.ensures.1)
    (Fails-weaker _ _ _ _ _ _ _ (λ t follows. list_here sizes lines.Use FitsAnyhow ◌<◌ single_same l.uses (GroupsDue sizes l.count) t (leaf_next sizes c.args.line.now l.uses l.count l.list_number l.is t follows)) c.in_err-singles.ensures.fails)

pub returns-in_err-groups-clause-fails : goal.returns-in_err-groups-clause-fails
returns-in_err-groups-clause-fails g c =
    let sizes = c.args.sizes.now in
    let l = c.in-Leaf in
    err_passed _ _ _ (err_from_is_err_and _ c.from_residual-in_err-groups.ensures.1)
    (Fails-after _ _ _ _ _ _ _ _ _ _ c.in_ok-singles.ensures.taken (λ more follows. list_after sizes lines.Use FitsAnyhow ◌<◌ single_same l.uses (GroupsDue sizes l.count) c.in_ok-singles.singles.items more c.in_ok-singles.ensures.values (leaf_next sizes c.args.line.now l.uses l.count l.list_number l.is _ follows)) c.in_err-groups.ensures.fails)

pub returns-clause-completes : goal.returns-clause-completes
returns-clause-completes g c =
    let l = c.in-Leaf in
    leaf_completed c.args.sizes.now _ _ _ _ _ _ c.args.line.now l.uses l.count l.list_number c.in_ok-singles.singles.items c.in_ok-groups.groups.items c.requires.line l.is c.in_ok-singles.ensures.values c.in_ok-groups.ensures.values c.in_ok-singles.ensures.taken c.in_ok-groups.ensures.taken
