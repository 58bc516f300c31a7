use Rattle.std.proofs.Common.{◌≡◌, ◌<◌, ℕ, Some, None, slice_index_or}
use Rattle.mapf_spacetime.specs.PathSearch.{IsNoWayOn}
use Rattle.mapf_spacetime.proofs.path_search.PathSearch.next.Given as goal

abbrev pub invariant-loop-place : goal.invariant-loop-place
invariant-loop-place g l =
    (place to : ℕ) → place < l.place-index → slice_index_or l.place-items place None ≡ Some to → IsNoWayOn l.task l.cost l.self.failed l.from to
