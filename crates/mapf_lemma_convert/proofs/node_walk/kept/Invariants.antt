use Rattle.std.proofs.Common.{◌≡◌, filter, is_none, take}
use Rattle.mapf_model.specs.Tree.{block_of}
use Rattle.mapf_lemma_convert.proofs.node_walk.kept.Given as goal

abbrev pub invariant-loop-lemma : goal.invariant-loop-lemma
invariant-loop-lemma l = record {
  same : l.kept.items ≡ filter (λ lemma. is_none (block_of l.blocks lemma.agent)) (take l.lemma-index l.above);
}
