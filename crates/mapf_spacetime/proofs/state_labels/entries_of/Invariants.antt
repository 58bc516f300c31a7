use Rattle.std.proofs.Common.{◌≡◌, map, take}
use Rattle.mapf_spacetime.specs.Listed.{entry_for}
use Rattle.mapf_spacetime.proofs.state_labels.entries_of.Given as goal

abbrev pub invariant-loop-state : goal.invariant-loop-state
invariant-loop-state l = l.entries.items ≡ map (entry_for l.cost) (take l.state-index l.states)
