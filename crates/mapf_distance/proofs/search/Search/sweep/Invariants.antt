use Rattle.mapf_distance.specs.Search.{IsSearchOn, IsSameSearch, effort}
use Rattle.mapf_distance.proofs.search.Search.sweep.Given as goal

abbrev pub invariant-loop-cell : goal.invariant-loop-cell
invariant-loop-cell l = record {
  search : IsSearchOn l.grid l.self;
  same : IsSameSearch l.fn.self l.self;
}

abbrev pub decreases-loop-cell : goal.decreases-loop-cell
decreases-loop-cell l = effort l.self
