use Rattle.std.proofs.Common.{◌≡◌, drop}
use Rattle.mapf_model.specs.Tree.{block_of}
use Rattle.mapf_lemma_convert.proofs.node_walk.has_block.Given as goal

abbrev pub invariant-loop-block : goal.invariant-loop-block
invariant-loop-block l = record {
  same : block_of l.blocks l.agent ≡ block_of (drop l.block-index l.blocks) l.agent;
}
