use Rattle.std.proofs.Common.{◌≡◌, ◌-◌, ◌^◌, vec_capacity}
use Rattle.mapf_distance.specs.Wave.{IsWave, source_of}
use Rattle.mapf_distance.proofs.wave.Wave.spread.Given as goal

abbrev pub invariant-loop-done : goal.invariant-loop-done
invariant-loop-done l = record {
  wave : IsWave l.grid l.done l.self.table.items l.self.reached.items;
  source : source_of l.self.reached.items ≡ source_of l.fn.self.reached.items;
  capacity : vec_capacity l.self.reached ≡ vec_capacity l.fn.self.reached;
}

abbrev pub decreases-loop-done : goal.decreases-loop-done
decreases-loop-done l = 2 ^ 64 - l.done
