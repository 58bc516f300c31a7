use Rattle.mapf_certificate.specs.Plans.{plan_text}
use Rattle.mapf_app.proofs.PrintLemmas.{prints_optimal, policy_optimal}
use Rattle.mapf_app.proofs.solved.found.Goals as goal

pub returns-clause-prints : goal.returns-clause-prints
returns-clause-prints c =
    let (tree, printable, shown) = c.requires in
    prints_optimal c.args.problem.now c.args.plan c.args.tree.items c.sums_are_one.ensures c.sum_of-sum.result c.sum_of-sum.ensures (plan_text c.args.problem.now.grid.width c.text_of.result) c.text_of.ensures.spells tree printable shown

pub returns-clause-policy : goal.returns-clause-policy
returns-clause-policy c = λ limit answer.
    policy_optimal c.args.problem.now c.args.plan c.args.tree.items c.sums_are_one.ensures c.sum_of-sum.result c.sum_of-sum.ensures (plan_text c.args.problem.now.grid.width c.text_of.result) c.text_of.ensures.spells limit answer
