use Rattle.std.proofs.Common.{All, take}
use Rattle.mapf_lemmas.specs.Lemmas.{AreConstraintsOn}
use Rattle.mapf_lemma_checker.proofs.constraints.judge_constraints.Given as goal

abbrev pub invariant-loop-k : goal.invariant-loop-k
invariant-loop-k l = AreConstraintsOn l.grid (take l.k l.constraints)
