use Rattle.mapf_model.specs.Distance.{IsDistance}
use Rattle.mapf_distance.proofs.BesideLemmas.{IsNoneBefore}
use Rattle.mapf_distance.proofs.distances.Distances.nearer.Given as goal

abbrev pub invariant-loop-beside : goal.invariant-loop-beside
invariant-loop-beside l = IsNoneBefore l.beside-items (λ next. IsDistance l.self.grid l.self.goal next l.distance) l.beside-index
