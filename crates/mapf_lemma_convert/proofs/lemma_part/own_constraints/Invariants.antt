use Rattle.std.proofs.Common.{◌≡◌, take}
use Rattle.mapf_lemma_convert.specs.NodeWalk.{own_constraints}
use Rattle.mapf_lemma_convert.proofs.lemma_part.own_constraints.Given as goal

abbrev pub invariant-loop-one : goal.invariant-loop-one
invariant-loop-one l = record {
  same : l.own.items ≡ own_constraints l.agent (take l.one-index l.constraints);
}
