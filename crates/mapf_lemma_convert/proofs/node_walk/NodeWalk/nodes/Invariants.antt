use Rattle.std.proofs.Common.{◌≡◌, map, take}
use Rattle.mapf_model.specs.Tree.{node_of}
use Rattle.mapf_lemma_convert.specs.NodeWalk.{walk_over}
use Rattle.mapf_lemma_convert.proofs.node_walk.NodeWalk.nodes.Given as goal

abbrev pub invariant-loop-item : goal.invariant-loop-item
invariant-loop-item l = record {
  same : l.self ≡ walk_over l.fn.self (map node_of (take l.item-index l.items));
}
