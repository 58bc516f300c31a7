use Rattle.mapf_certificate.specs.Plans.{plan_text}
use Rattle.mapf_app.proofs.PrintLemmas.{prints_impossible, policy_impossible}
use Rattle.mapf_app.proofs.solved.impossible.Goals as goal

pub returns-clause-prints : goal.returns-clause-prints
returns-clause-prints c =
    let (tree, printable, shown) = c.requires in
    prints_impossible c.args.problem.now c.args.tree.items (plan_text c.args.problem.now.grid.width c.text_of.result) c.text_of.ensures.spells tree printable shown

pub returns-clause-policy : goal.returns-clause-policy
returns-clause-policy c = λ limit answer.
    policy_impossible c.args.problem.now c.args.tree.items (plan_text c.args.problem.now.grid.width c.text_of.result) c.text_of.ensures.spells limit answer
