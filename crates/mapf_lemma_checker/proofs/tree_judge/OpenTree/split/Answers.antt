use Rattle.mapf_cases.specs.Progress.{here_of}
use Rattle.mapf_cases.specs.Nodes.{BranchNode}
use Rattle.mapf_lemma_checker.proofs.TreeLemmas.{scope_with}
use Rattle.mapf_lemma_checker.proofs.tree_judge.OpenTree.split.Goals as goal

pub returns-in-Ok-clause-good : goal.returns-in-Ok-clause-good
returns-in-Ok-clause-good c scope are =
    c.in-Ok.ensures.good scope c.args.self.now.target (scope_with c.args.node.now c.args.self.now.agents scope are)

pub returns-in-Err-clause-refused : goal.returns-in-Err-clause-refused
returns-in-Err-clause-refused c scope are =
    c.fault_of_node.ensures scope c.args.self.now.target (here_of c.args.self.now.progress) (BranchNode c.args.split.now)
    (c.in-Err.ensures.refused scope (scope_with c.args.node.now c.args.self.now.agents scope are))
