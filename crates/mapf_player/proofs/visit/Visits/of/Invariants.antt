use Rattle.mapf_player.proofs.VisitLemmas.{AreVisitsBefore}
use Rattle.mapf_player.proofs.visit.Visits.of.Given as goal

abbrev pub invariant-loop-tick : goal.invariant-loop-tick
invariant-loop-tick l = AreVisitsBefore l.path l.tick l.visits.items
