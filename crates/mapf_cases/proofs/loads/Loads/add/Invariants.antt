use Rattle.std.proofs.Common.{ℕ, ◌+◌, ◌*◌, List, length, take}
use Rattle.mapf_lemmas.specs.Groups.{occurrences}
use Rattle.mapf_cases.specs.Loads.{AreLoads, HaveLoads}
use Rattle.mapf_cases.proofs.loads.Loads.add.Given as goal

abbrev pub invariant-loop-agent : goal.invariant-loop-agent
invariant-loop-agent l = record {
  have : HaveLoads (length l.initial.self.marks.items) l.self;
  loads : (scope : List ℕ) (earlier : ℕ → ℕ → ℕ) (present : ℕ → ℕ) → AreLoads scope earlier l.group present l.divisor l.initial.self →
      AreLoads scope earlier l.group (λ agent. present agent + l.weight * occurrences agent (take l.agent-index l.agents)) l.divisor l.self;
}
