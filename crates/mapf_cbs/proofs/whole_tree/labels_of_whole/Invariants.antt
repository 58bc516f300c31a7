use Rattle.mapf_cbs.proofs.BlockLemmas.{ArePaired, IsHeldList}
use Rattle.mapf_cbs.proofs.whole_tree.labels_of_whole.Given as goal

abbrev pub invariant-loop-node : goal.invariant-loop-node
invariant-loop-node l = ArePaired IsHeldList l.yielded l.lists.items
