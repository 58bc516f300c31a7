use Rattle.std.proofs.Common.{ℕ, ◌<◌, ◌≤◌, slice_index_or}
use Rattle.mapf_spacetime.specs.Sweeps.{AreNext, IsExtended, IsNoted}
use Rattle.mapf_spacetime.specs.Task.{start_of}
use Rattle.mapf_spacetime.proofs.sweep.Sweep.follow_tick.Given as goal

abbrev pub invariant-loop-place : goal.invariant-loop-place
invariant-loop-place g l = record {
  next : AreNext l.task l.initial.self.tick l.self;
  extended : IsExtended l.initial.self l.self;
  noted : (k : ℕ) → l.initial.self.first ≤ k → k < l.place → (to : ℕ) → IsNoted l.task l.self (slice_index_or l.initial.self.states k (start_of l.task)) to;
}
