use Rattle.std.proofs.Common.{◌≡◌, ℕ, ◌<◌, length, get_or, slice_index}
use Rattle.mapf_cases.specs.Loads.{HaveLoads}
use Rattle.mapf_cases.proofs.loads.Loads.begin.Given as goal

abbrev pub invariant-loop-agent : goal.invariant-loop-agent
invariant-loop-agent l = record {
  have : HaveLoads (length l.initial.self.marks.items) l.self;
  none : (k d : ℕ) → k < l.agent-index → slice_index l.self.marks.items (get_or l.agents k d) ≡ 0;
}
