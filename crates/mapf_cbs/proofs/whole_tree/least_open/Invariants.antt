use Rattle.mapf_cbs.specs.Whole.{IsLeastBelow}
use Rattle.mapf_cbs.proofs.whole_tree.least_open.Given as goal

abbrev pub invariant-loop-k : goal.invariant-loop-k
invariant-loop-k l = IsLeastBelow l.nodes l.statuses l.k l.least
