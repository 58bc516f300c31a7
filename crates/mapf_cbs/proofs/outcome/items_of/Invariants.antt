use Rattle.std.proofs.Common.{◌≡◌, map}
use Rattle.mapf_model.specs.Tree.{node_of}
use Rattle.mapf_cbs.proofs.outcome.items_of.Given as goal

abbrev pub invariant-loop-node : goal.invariant-loop-node
invariant-loop-node l = map node_of l.items.items ≡ l.yielded
