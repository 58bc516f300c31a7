use Rattle.std.proofs.Common.{◌≡◌, ℕ, ◌+◌, ◌<◌, ◌≤◌, length}
use Rattle.mapf_constraints.specs.BarSets.{bar_tick}
use Rattle.mapf_constraints.specs.Chains.{link_at, chain_of, chain_at}
use Rattle.mapf_constraints.proofs.tick_bars.TickBars.has.Given as goal

-- the constraint, if a link has it, is among the first `count` links, the last of which is in its chain
abbrev pub invariant-loop-count : goal.invariant-loop-count
invariant-loop-count l =
    (l.count ≤ length l.self-inside.links.items)
    × ((place : ℕ) → place + 1 ≡ l.count → chain_at l.self-inside.links.items place ≡ chain_of (bar_tick l.bar))
    × ((place : ℕ) → place < length l.self-inside.links.items → (link_at l.self-inside.links.items place).bar ≡ l.bar → place < l.count)

abbrev pub decreases-loop-count : goal.decreases-loop-count
decreases-loop-count l = l.count
