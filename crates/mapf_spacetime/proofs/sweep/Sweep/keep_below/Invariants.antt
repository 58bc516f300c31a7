use Rattle.std.proofs.Common.{◌≡◌}
use Rattle.mapf_spacetime.proofs.SweepInvariants.{AreKept}
use Rattle.mapf_spacetime.proofs.sweep.Sweep.keep_below.Given as goal

abbrev pub invariant-loop-place : goal.invariant-loop-place
invariant-loop-place g l = record {
  same : l.self-inside.states.items ≡ l.initial.self-inside.states.items;
  kept : AreKept l.task l.cost l.place l.initial.self-inside.states.items l.self-inside.low.items;
}
