use Rattle.std.proofs.Common.{◌≡◌, ◌++◌, length, map, take}
use Rattle.mapf_lemma_convert.specs.Conversion.{numbered}
use Rattle.mapf_lemma_convert.specs.NodeWalk.{block_part}
use Rattle.mapf_lemma_convert.proofs.node_walk.add_lemmas.Given as goal

abbrev pub invariant-loop-block : goal.invariant-loop-block
invariant-loop-block l = record {
  lemmas : l.lemmas.items ≡ l.fn.lemmas.items ++ map (block_part l.constraints) (take l.block-index l.blocks);
  in_force : l.in_force.items ≡ l.fn.in_force.items ++ numbered (length l.fn.lemmas.items) (take l.block-index l.blocks);
}
