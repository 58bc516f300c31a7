-- Paths of agents and their cost. (Stern et al. 2019: single-agent plans, stay at target, sum of costs)
use Rattle.std.specs.Prelude.{◌≡◌, ◌≢◌, ◌⊎◌, ℕ, ◌+◌, ◌-◌, ◌≤◌, min, List, [], slice_index, length}
use Rattle.mapf_model.specs.declared.problem.Agent.{Agent}
use Rattle.mapf_model.specs.Grid.{GridMap, Step}

-- the cell at this tick. After its end the agent stays at the last cell
abbrev pub at : List ℕ → ℕ → ℕ
at path tick = slice_index path (min tick (length path - 1))

-- a nonempty list of cells in which each two consecutive cells are a step
pub record IsPath (grid : GridMap) (path : List ℕ) : Type 0 where
  pub nonempty : path ≢ []
  pub steps : (tick : ℕ) → Step grid (at path tick) (at path (tick + 1))

-- a path from the agent's start to its goal: a single-agent plan
pub record IsLawful (grid : GridMap) (agent : Agent) (path : List ℕ) : Type 0 where
  pub is_path : IsPath grid path
  pub start : at path 0 ≡ agent.start
  pub goal : at path (length path - 1) ≡ agent.goal

-- the agent is at the goal at every tick from this one on
abbrev pub RestsFrom : ℕ → List ℕ → ℕ → Type 0
RestsFrom goal path from = (tick : ℕ) → from ≤ tick → at path tick ≡ goal

-- the least tick from which on the agent is at the goal
pub record IsCost (goal : ℕ) (path : List ℕ) (cost : ℕ) : Type 0 where
  pub rests : RestsFrom goal path cost
  pub least : (from : ℕ) → RestsFrom goal path from → cost ≤ from

-- no trailing waits: the path has one cell, or its last two cells differ (own)
abbrev pub IsTight : List ℕ → Type 0
IsTight path = (length path ≡ 1) ⊎ (slice_index path (length path - 1) ≢ slice_index path (length path - 2))
