use Rattle.std.proofs.Common.{refl, inl, inr}
use Rattle.std.proofs.lemmas.Bool.{iff_false}
use Rattle.mapf_checker.specs.Branch.{place_of}
use Rattle.mapf_checker.proofs.StartLemmas.{starts_decide}
use Rattle.mapf_checker.proofs.BlockLemmas.{leaf_shows}
use Rattle.mapf_checker.proofs.leaf.judge_leaf.Goals as goal

pub returns-in-Err-clause-err : goal.returns-in-Err-clause-err
returns-in-Err-clause-err c = inl (c.in-Err.unsound, refl, c.in-Err.ensures.err)

pub returns-then-is_enough-clause-ok : goal.returns-then-is_enough-clause-ok
returns-then-is_enough-clause-ok c =
    let law = c.definitions_are_decided.ensures in
    let decide = starts_decide law.starts law.impossible c.args.node.now.problem.now c.args.claim.now c.args.blocks.now (place_of c.args.node.now.branch.now).here.entries c.start_total-total.result c.start_total-total.ensures in
    leaf_shows c.args.node.now.problem.now c.args.claim.now (place_of c.args.node.now.branch.now).here c.args.blocks.now c.requires.blocks.rising c.in_default.ensures.ok (decide.1 (c.is_enough.ensures.0 c.if-is_enough.true))

pub returns-else-is_enough-clause-err : goal.returns-else-is_enough-clause-err
returns-else-is_enough-clause-err c =
    let law = c.definitions_are_decided.ensures in
    let decide = starts_decide law.starts law.impossible c.args.node.now.problem.now c.args.claim.now c.args.blocks.now (place_of c.args.node.now.branch.now).here.entries c.start_total-total.result c.start_total-total.ensures in
    inr (c.args.line, refl, λ shows. iff_false c.is_enough.ensures c.if-is_enough.false (decide.0 shows))
