use Rattle.mapf_distance.specs.Search.{IsSearchOn, IsSameSearch, effort}
use Rattle.mapf_distance.proofs.search.Search.dive.Given as goal

abbrev pub invariant-loop-self : goal.invariant-loop-self
invariant-loop-self l = record {
  search : IsSearchOn l.grid l.self;
  same : IsSameSearch l.fn.self l.self;
}

abbrev pub decreases-loop-self : goal.decreases-loop-self
decreases-loop-self l = effort l.self
