use Rattle.std.proofs.Common.{◌≡◌, ℕ, ◌<◌, Some, None, slice_index_or}
use Rattle.mapf_spacetime.specs.Sweeps.{AreNext, IsExtended, IsNoted}
use Rattle.mapf_spacetime.proofs.sweep.Sweep.follow.Given as goal

abbrev pub invariant-loop-place : goal.invariant-loop-place
invariant-loop-place g l = record {
  next : AreNext l.task l.from.tick l.self;
  extended : IsExtended l.initial.self l.self;
  noted : (place to : ℕ) → place < l.place-index → slice_index_or l.place-items place None ≡ Some to → IsNoted l.task l.self l.from to;
}
