use Rattle.std.proofs.Common.{take}
use Rattle.mapf_constraints.specs.BarSets.{IsLastOn}
use Rattle.mapf_constraints.proofs.list_bars.last_among.Given as goal

abbrev pub invariant-loop-bar : goal.invariant-loop-bar
invariant-loop-bar l = IsLastOn (take l.bar-index l.bars) l.cell l.last
