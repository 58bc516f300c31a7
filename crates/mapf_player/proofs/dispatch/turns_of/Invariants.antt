use Rattle.std.proofs.Common.{◌≡◌, take}
use Rattle.mapf_player.proofs.TurnLemmas.{all_turns, AreEarly}
use Rattle.mapf_player.proofs.dispatch.turns_of.Given as goal

abbrev pub invariant-loop-agent : goal.invariant-loop-agent
invariant-loop-agent l = record {
  same : l.turns.items ≡ all_turns 0 (take l.agent l.visits);
  early : AreEarly (take l.agent l.visits);
}
