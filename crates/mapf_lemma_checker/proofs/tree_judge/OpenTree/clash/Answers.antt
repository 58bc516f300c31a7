use Rattle.mapf_cases.specs.Progress.{here_of}
use Rattle.mapf_cases.specs.Nodes.{ClashNode}
use Rattle.mapf_lemma_checker.proofs.tree_judge.OpenTree.clash.Goals as goal

pub returns-in-Err-clause-refused : goal.returns-in-Err-clause-refused
returns-in-Err-clause-refused c scope is =
    c.fault_of_node.ensures scope c.args.self.now.target (here_of c.args.self.now.progress) (ClashNode c.args.i c.args.j) (c.in-Err.ensures.refused scope is)
