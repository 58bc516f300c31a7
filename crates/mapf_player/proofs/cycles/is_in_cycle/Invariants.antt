use Rattle.mapf_player.proofs.CycleLemmas.{IsWalked}
use Rattle.mapf_player.proofs.cycles.is_in_cycle.Given as goal

abbrev pub invariant-loop-step : goal.invariant-loop-step
invariant-loop-step l = IsWalked l.dispatch l.agent l.last l._step
