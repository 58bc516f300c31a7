use Rattle.std.proofs.Common.{take}
use Rattle.mapf_player.specs.Visits.{AreVisitsOfAll}
use Rattle.mapf_player.proofs.dispatch.visits_of.Given as goal

abbrev pub invariant-loop-path : goal.invariant-loop-path
invariant-loop-path l = AreVisitsOfAll (take l.path-index l.path-items) l.visits.items
