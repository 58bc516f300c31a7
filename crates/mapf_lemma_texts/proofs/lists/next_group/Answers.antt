use Rattle.std.proofs.lemmas.Result.{err_from_is_err_and}
use Rattle.mapf_certificate.proofs.Windows.{err_passed, Fails-weaker}
use Rattle.mapf_lemma_texts.proofs.ListLaws.{group_is_line, fails_in_uses, group_window}
use Rattle.mapf_lemma_texts.proofs.lists.next_group.Goals as goal

pub returns-in_err-line-clause-fails : goal.returns-in_err-line-clause-fails
returns-in_err-line-clause-fails g c =
    err_passed _ _ _ (err_from_is_err_and _ c.from_residual.ensures.1)
    (Fails-weaker _ _ _ _ _ _ _ (group_is_line c.args.sizes.now) c.in_err-line.ensures.fails)

pub returns-in_err-uses-clause-fails : goal.returns-in_err-uses-clause-fails
returns-in_err-uses-clause-fails g c =
    err_passed _ _ _ (err_from_is_err_and _ c.from_residual-in_err-uses.ensures.1)
    (fails_in_uses c.args.sizes.now _ _ _ _ _ _ _ _ _ _ c.in_ok-line.ensures.line c.in_ok-line.ensures.taken c.in-Group.is c.in_err-uses.ensures.fails)

pub returns-clause-taken : goal.returns-clause-taken
returns-clause-taken g c =
    group_window c.args.sizes.now _ _ _ _ _ _ _ _ _ _ c.in_ok-line.ensures.taken c.in-Group.is c.in_ok-uses.ensures.values.many c.in_ok-uses.ensures.taken
