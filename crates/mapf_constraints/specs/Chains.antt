-- Constraints in chains, one for each remainder of their ticks.
use Rattle.std.specs.Prelude.{◌≡◌, ℕ, ◌+◌, ◌*◌, ◌%◌, ◌<◌, ◌≤◌, Bool, false, true, List, Contains, length, map}
use Rattle.std.specs.Prelude.{slice_index, slice_index_or}
use Rattle.mapf_model.specs.declared.bar.Bar.{Bar}
use Rattle.mapf_model.specs.declared.bar.Bar.TheVariants.{Cell}
use Rattle.mapf_constraints.specs.BarSets.{arrival, bar_tick}
use Rattle.mapf_constraints.specs.declared.link.Link.{Link}

-- the constraints of the links
abbrev pub bars_of : List Link → List Bar
bars_of = map (λ link. link.bar)

-- the link at this index of a list, if there is one
abbrev pub link_at : List Link → ℕ → Link
link_at links place = slice_index_or links place (record { bar = Cell 0 0; older = 0 })

-- the chain of a tick, by its remainder
abbrev pub chain_of : ℕ → ℕ
chain_of tick = tick % 64

-- the index of an arrival's mark
abbrev pub mark_index : ℕ × ℕ → ℕ
mark_index (cell, tick) = (cell + 197 * tick) % 512

-- the arrival of each constraint is marked
abbrev pub AreMarked : List Bar → List Bool → Type 0
AreMarked bars marks = (bar : Bar) → Contains bars bar → slice_index_or marks (mark_index (arrival bar)) false ≡ true

-- the chain of the link at this index
abbrev pub chain_at : List Link → ℕ → ℕ
chain_at links place = chain_of (bar_tick (link_at links place).bar)

-- among the first `end` links the newest of the chain is the last of the first `count`; if the count is 0, the chain
-- has none there
pub record IsNewest (links : List Link) (end chain count : ℕ) : Type 0 where
  pub within : count ≤ end
  pub own : (place : ℕ) → place + 1 ≡ count → chain_at links place ≡ chain
  pub newest : (place : ℕ) → place < end → chain_at links place ≡ chain → place < count

-- from the newest link of each chain its others are reached, each from the next newer one
pub record AreChained (links : List Link) (newest : List ℕ) : Type 0 where
  pub first : (chain : ℕ) → chain < 64 → IsNewest links (length links) chain (slice_index newest chain)
  pub next : (place : ℕ) → place < length links →
      IsNewest links place (chain_at links place) (link_at links place).older
