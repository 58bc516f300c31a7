use Rattle.std.proofs.Common.{◌≡◌, map, take}
use Rattle.mapf_lemma_convert.proofs.node_walk.numbers_of.Given as goal

abbrev pub invariant-loop-lemma : goal.invariant-loop-lemma
invariant-loop-lemma l = record {
  same : l.numbers.items ≡ map (λ lemma. lemma.number) (take l.lemma-index l.lemmas);
}
