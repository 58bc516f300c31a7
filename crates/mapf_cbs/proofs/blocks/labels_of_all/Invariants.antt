use Rattle.mapf_cbs.proofs.BlockLemmas.{ArePaired, IsOwnList}
use Rattle.mapf_cbs.proofs.blocks.labels_of_all.Given as goal

abbrev pub invariant-loop-node : goal.invariant-loop-node
invariant-loop-node l = ArePaired IsOwnList l.yielded l.lists.items
