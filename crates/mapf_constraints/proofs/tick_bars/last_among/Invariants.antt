use Rattle.std.proofs.Common.{take}
use Rattle.mapf_constraints.specs.BarSets.{IsLastOn}
use Rattle.mapf_constraints.specs.Chains.{bars_of}
use Rattle.mapf_constraints.proofs.tick_bars.last_among.Given as goal

abbrev pub invariant-loop-link : goal.invariant-loop-link
invariant-loop-link l = IsLastOn (bars_of (take l.link-index l.links)) l.cell l.last
