use Rattle.std.proofs.Common.{◌≡◌, ◌-◌, ◌^◌, []}
use Rattle.mapf_distance.specs.Search.{IsFound, IsSearchOn, open_of}
use Rattle.mapf_distance.proofs.search.Search.spread.Given as goal

abbrev pub invariant-loop-aim : goal.invariant-loop-aim
invariant-loop-aim l = record {
  search : IsSearchOn l.grid l.self;
  start : l.self.start ≡ l.fn.self.start;
  goal : l.self.goal ≡ l.fn.self.goal;
  swept : (IsFound l.self → ⊥) → open_of l.self ≡ [];
}

abbrev pub decreases-loop-aim : goal.decreases-loop-aim
decreases-loop-aim l = 2 ^ 64 - l.self.level
