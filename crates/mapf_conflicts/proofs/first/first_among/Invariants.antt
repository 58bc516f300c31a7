use Rattle.std.proofs.Common.{◌≡◌, length, take}
use Rattle.mapf_model.specs.Conflicts.{AreConflictFreeBefore}
use Rattle.mapf_model.specs.Limits.{most_agents}
use Rattle.mapf_conflicts.specs.Pairs.{cells_at}
use Rattle.mapf_conflicts.proofs.first.first_among.Given as goal

abbrev pub invariant-loop-tick : goal.invariant-loop-tick
invariant-loop-tick g l = record {
  here_size : length l.here ≡ most_agents;
  next_size : length l.next ≡ most_agents;
  cells : take l.count l.here ≡ cells_at (g.P.PathsByTick.paths l.paths) l.tick;
  free : AreConflictFreeBefore (g.P.PathsByTick.paths l.paths) l.tick;
}
