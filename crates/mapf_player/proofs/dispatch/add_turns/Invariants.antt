use Rattle.std.proofs.Common.{◌≡◌, ◌++◌, take}
use Rattle.mapf_player.specs.Turns.{own_turns}
use Rattle.mapf_player.proofs.dispatch.add_turns.Given as goal

abbrev pub invariant-loop-number : goal.invariant-loop-number
invariant-loop-number l = l.turns.items ≡ l.initial.turns.items ++ own_turns l.agent 0 (take l.number l.visits)
