use Rattle.std.proofs.Common.{◌≡◌, ℕ, ◌<◌, List, Some, None, slice_index_or}
use Rattle.mapf_model.specs.declared.state.State.{State}
use Rattle.mapf_spacetime.specs.Frontiers.{IsFrontier, Keeps, IsTaken}
use Rattle.mapf_spacetime.proofs.frontier.Frontier.take_all.Given as goal

abbrev pub invariant-loop-place : goal.invariant-loop-place
invariant-loop-place g l = record {
  frontier : (busy : List State) → IsFrontier l.task busy l.initial.self → IsFrontier l.task busy l.self;
  keeps : Keeps l.initial.self l.self;
  taken : (place to : ℕ) → place < l.place-index → slice_index_or l.place-items place None ≡ Some to → IsTaken l.task l.self l.from to;
}
