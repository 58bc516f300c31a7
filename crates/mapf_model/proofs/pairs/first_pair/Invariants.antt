use Rattle.std.proofs.Common.{false}
use Rattle.mapf_model.specs.Pairs.{EachPairBefore}
use Rattle.mapf_model.proofs.pairs.first_pair.Given as goal

abbrev pub invariant-loop-i : goal.invariant-loop-i
invariant-loop-i g l = EachPairBefore (λ i j. goal.F-post g l.test i j false) l.count l.i l.i

abbrev pub invariant-loop-j : goal.invariant-loop-j
invariant-loop-j g l = EachPairBefore (λ i j. goal.F-post g l.test i j false) l.count l.i l.j
