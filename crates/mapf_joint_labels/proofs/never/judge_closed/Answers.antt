use Rattle.mapf_joint_labels.proofs.NeverLemmas.{closed_in}
use Rattle.mapf_lemmas.specs.declared.joint.JointCell.{JointCell}
use Rattle.mapf_joint_labels.proofs.never.judge_closed.Goals as goal

pub returns-in-Some-clause-closed : goal.returns-in-Some-clause-closed
returns-in-Some-clause-closed c =
    let some = c.in-Some.ensures.some in
    let d : JointCell = record { first = 0; second = 0 } in
    (λ no. absurd cc, λ closed. absurd (some.open_here d (closed_in c.args.grid.now c.args.first.now c.args.second.now c.args.cells.now closed c.in-Some.place d some.within)))
