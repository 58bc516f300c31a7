use Rattle.mapf_spacetime.specs.PathSearch.{IsSearching, turns_left}
use Rattle.mapf_spacetime.proofs.path_search.PathSearch.finish.Given as goal

abbrev pub invariant-loop-self : goal.invariant-loop-self
invariant-loop-self g l = IsSearching l.task l.cost l.self

abbrev pub decreases-loop-self : goal.decreases-loop-self
decreases-loop-self g l = turns_left l.self
