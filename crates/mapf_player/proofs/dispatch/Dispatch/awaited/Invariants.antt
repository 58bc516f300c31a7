use Rattle.mapf_player.proofs.DueLemmas.{IsScanned}
use Rattle.mapf_player.proofs.dispatch.Dispatch.awaited.Given as goal

abbrev pub invariant-loop-place : goal.invariant-loop-place
invariant-loop-place l = IsScanned l.self l.self-inside.turns.items l.from l.place l.earlier l.least

abbrev pub decreases-loop-place : goal.decreases-loop-place
decreases-loop-place l = l.place
