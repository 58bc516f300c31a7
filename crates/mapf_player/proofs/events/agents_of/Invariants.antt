use Rattle.std.proofs.Common.{◌≡◌, ◌<◌, ◌≤◌, ◌+◌, ◌++◌, ℕ, List, All, length}
use Rattle.mapf_player.specs.Events.{event_lines, asked_lines}
use Rattle.mapf_player.proofs.events.agents_of.Given as goal

abbrev pub invariant-loop-events : goal.invariant-loop-events
invariant-loop-events l = record {
  low : All (λ agent. agent < l.agents) l.events.items;
  read : l.bytes ≡ asked_lines l.events.items ++ l.rest;
  left : (events rest : List ℕ) → All (λ agent. agent < l.agents) events → l.bytes ≡ event_lines events ++ rest →
      (others : List ℕ) × (events ≡ l.events.items ++ others) × (l.rest ≡ event_lines others ++ rest);
  number : l.number ≡ length l.events.items + 2;
  lines : l.number + length l.rest ≤ length l.bytes + 2;
}

abbrev pub decreases-loop-events : goal.decreases-loop-events
decreases-loop-events l = length l.rest
