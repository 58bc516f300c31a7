use Rattle.std.proofs.Common.{take}
use Rattle.mapf_constraints.specs.BarSets.{IsHorizon}
use Rattle.mapf_constraints.proofs.list_bars.horizon_of.Given as goal

abbrev pub invariant-loop-bar : goal.invariant-loop-bar
invariant-loop-bar l = IsHorizon (take l.bar-index l.bars) l.horizon
