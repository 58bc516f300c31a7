use Rattle.std.proofs.Common.{subst, ap}
use Rattle.mapf_checker.specs.Leaf.{IsGoalOf}
use Rattle.mapf_checker.specs.Branch.{place_of}
use Rattle.mapf_checker.proofs.BlockLemmas.{unsound_entry}
use Rattle.mapf_checker.proofs.blocks.judge_block.Goals as goal

pub returns-in-Some-clause-err : goal.returns-in-Some-clause-err
returns-in-Some-clause-err c =
    let problem = c.args.node.now.problem.now in
    let here = (place_of c.args.node.now.branch.now).here in
    unsound_entry problem here c.args.block.now _ c.entries_in.result.now c.in-Some.k c.grid.ensures
    (ap here.bars c.agent_of-agent.ensures) c.entries_in.ensures
    (subst (λ i. IsGoalOf problem i c.goal_of-goal.result) c.agent_of-agent.ensures c.goal_of-goal.ensures) c.in-Some.ensures.some
