use Rattle.std.proofs.lemmas.Result.{err_from_is_err_and}
use Rattle.mapf_certificate.proofs.Windows.{err_passed, Fails-weaker}
use Rattle.mapf_lemma_texts.proofs.PartTexts.{as_list, as_one, as_two, as_never, as_cases, as_leaf, nothing_fits, no_part}
use Rattle.mapf_lemma_texts.proofs.part_lines.part_of.Goals as goal

pub returns-in_err-price_list-in-List-clause-fails : goal.returns-in_err-price_list-in-List-clause-fails
returns-in_err-price_list-in-List-clause-fails g c =
    let l = c.in-List in
    err_passed _ _ _ (err_from_is_err_and _ c.from_residual.ensures.1)
    (Fails-weaker _ _ _ _ _ _ _ (as_list c.args.sizes.now c.args.line.now l.unit l.prices l.is) c.in_err-price_list-in-List.ensures.fails)

pub returns-in_err-one_lemma-in-One-clause-fails : goal.returns-in_err-one_lemma-in-One-clause-fails
returns-in_err-one_lemma-in-One-clause-fails g c =
    let l = c.in-One in
    err_passed _ _ _ (err_from_is_err_and _ c.from_residual-in_err-one_lemma-in-One.ensures.1)
    (Fails-weaker _ _ _ _ _ _ _ (as_one c.args.sizes.now c.args.line.now l.agent l.constraints l.entries l.list_number l.is) c.in_err-one_lemma-in-One.ensures.fails)

pub returns-in_err-two_lemma-in-Two-clause-fails : goal.returns-in_err-two_lemma-in-Two-clause-fails
returns-in_err-two_lemma-in-Two-clause-fails g c =
    let l = c.in-Two in
    err_passed _ _ _ (err_from_is_err_and _ c.from_residual-in_err-two_lemma-in-Two.ensures.1)
    (Fails-weaker _ _ _ _ _ _ _ (as_two c.args.sizes.now c.args.line.now l.first l.second l.constraints l.first_entries l.second_entries l.joint_entries l.list_number l.is) c.in_err-two_lemma-in-Two.ensures.fails)

pub returns-in_err-never_lemma-in-Never-clause-fails : goal.returns-in_err-never_lemma-in-Never-clause-fails
returns-in_err-never_lemma-in-Never-clause-fails g c =
    let l = c.in-Never in
    err_passed _ _ _ (err_from_is_err_and _ c.from_residual-in_err-never_lemma-in-Never.ensures.1)
    (Fails-weaker _ _ _ _ _ _ _ (as_never c.args.sizes.now c.args.line.now l.first l.second l.cells l.is) c.in_err-never_lemma-in-Never.ensures.fails)

pub returns-in_err-cases_head-in-Cases-clause-fails : goal.returns-in_err-cases_head-in-Cases-clause-fails
returns-in_err-cases_head-in-Cases-clause-fails g c =
    let l = c.in-Cases in
    err_passed _ _ _ (err_from_is_err_and _ c.from_residual-in_err-cases_head-in-Cases.ensures.1)
    (Fails-weaker _ _ _ _ _ _ _ (as_cases c.args.sizes.now c.args.line.now l.agents l.constraints l.bound l.is) c.in_err-cases_head-in-Cases.ensures.fails)

pub returns-in_err-leaf_uses-in-Leaf-clause-fails : goal.returns-in_err-leaf_uses-in-Leaf-clause-fails
returns-in_err-leaf_uses-in-Leaf-clause-fails g c =
    let l = c.in-Leaf in
    err_passed _ _ _ (err_from_is_err_and _ c.from_residual-in_err-leaf_uses-in-Leaf.ensures.1)
    (Fails-weaker _ _ _ _ _ _ _ (as_leaf c.args.sizes.now c.args.line.now l.uses l.groups l.list_number l.is) c.in_err-leaf_uses-in-Leaf.ensures.fails)

pub returns-in_default-clause-fails : goal.returns-in_default-clause-fails
returns-in_default-clause-fails g c =
    let n = c.in_default in
    nothing_fits _ _ _ _ _ c.misfit.ensures c.requires.works (λ t follows. no_part c.args.line.now n.not-Prices n.not-List n.not-Lemmas n.not-One n.not-Two n.not-Never n.not-Cases n.not-Vertex n.not-Swap n.not-Cost n.not-Costs n.not-Clash n.not-Leaf follows.value follows.first)
