use Rattle.mapf_certificate.specs.Plans.{plan_text}
use Rattle.mapf_app.proofs.PrintLemmas.{prints_limit, policy_limit}
use Rattle.mapf_app.proofs.solved.limited.Goals as goal

pub returns-clause-prints : goal.returns-clause-prints
returns-clause-prints c =
    let (tree, printable, shown) = c.requires.shown in
    prints_limit c.args.problem.now c.args.tree.items (plan_text c.args.problem.now.grid.width c.text_of.result) c.args.cause c.args.bound c.text_of.ensures.spells tree printable shown

pub returns-clause-policy : goal.returns-clause-policy
returns-clause-policy c = λ limit answer.
    policy_limit c.args.problem.now c.args.tree.items (plan_text c.args.problem.now.grid.width c.text_of.result) c.args.cause c.args.bound c.text_of.ensures.spells limit answer
