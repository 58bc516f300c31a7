-- Which group of a leaf an agent is in, and with which weight.
use Rattle.std.specs.Prelude.{◌≡◌, ◌≢◌, ◌⊎◌, ℕ, ◌+◌, ◌<◌, ◌≤◌, ◌==◌, if◌then◌else◌, List, All, Contains, length}
use Rattle.std.specs.Prelude.{slice_index, slice_set}
use Rattle.mapf_cases.specs.Ranges.{greatest_unit}
use Rattle.mapf_cases.specs.declared.loads.Loads.{Loads}

-- there is a mark and a small weight for each of so many agents
pub record HaveLoads (agents : ℕ) (loads : Loads) : Type 0 where
  pub marks : length loads.marks.items ≡ agents
  pub weights : length loads.weights.items ≡ agents
  pub small : All (λ weight. weight ≤ greatest_unit) loads.weights.items

-- the agent's weight in the group with this number, by its mark, which is the number of the group that it is in and 1
-- more, and 0 in no group
abbrev pub weight_in : ℕ → ℕ → ℕ → ℕ
weight_in group mark weight = if mark == group + 1 then weight else 0

-- the mark and the weight of an agent that has these weights in earlier groups, and this one in the present group
pub record IsLoadOf (earlier : ℕ → ℕ) (group present divisor mark weight : ℕ) : Type 0 where
  pub is_weight : present ≡ weight_in group mark weight
  pub within : present ≤ divisor
  pub bounded : mark ≤ group + 1
  pub positive : mark ≡ group + 1 → 1 ≤ weight
  pub is_free : (mark ≡ 0) ⊎ (mark ≡ group + 1) → (k : ℕ) → k < group → earlier k ≡ 0
  pub is_taken : mark ≢ 0 → mark ≢ group + 1 → (k : ℕ) × (k < group) × (1 ≤ earlier k)

-- the marks and weights of these agents, each of which has such weights in earlier groups and in the present one
abbrev pub AreLoads : List ℕ → (ℕ → ℕ → ℕ) → ℕ → (ℕ → ℕ) → ℕ → Loads → Type 0
AreLoads agents earlier group present divisor loads =
    (agent : ℕ) → Contains agents agent →
    IsLoadOf (λ k. earlier k agent) group (present agent) divisor (slice_index loads.marks.items agent)
    (slice_index loads.weights.items agent)

-- one of these agents is in an earlier group, or it has more than the divisor in the present one
abbrev pub IsOverloaded : List ℕ → (ℕ → ℕ → ℕ) → ℕ → (ℕ → ℕ) → ℕ → Type 0
IsOverloaded agents earlier group present divisor =
    (agent : ℕ) × Contains agents agent
    × (((k : ℕ) × (k < group) × (1 ≤ earlier k agent)) ⊎ (divisor < present agent))

-- by its mark the agent is in no group or in this one, and with the weight it has at most the divisor there; the weight
-- is added
pub record IsAdded (group divisor agent weight : ℕ) (old new : Loads) : Type 0 where
  pub is_free : (slice_index old.marks.items agent ≡ 0) ⊎ (slice_index old.marks.items agent ≡ group + 1)
  pub fits : weight_in group (slice_index old.marks.items agent) (slice_index old.weights.items agent) + weight
      ≤ divisor
  pub marks : new.marks.items ≡ slice_set old.marks.items agent (group + 1)
  pub weights : new.weights.items ≡ slice_set old.weights.items agent
      (weight_in group (slice_index old.marks.items agent) (slice_index old.weights.items agent) + weight)

-- by its mark the agent is in another group, or with the weight it has more than the divisor
abbrev pub IsRefused : ℕ → ℕ → ℕ → ℕ → Loads → Type 0
IsRefused group divisor agent weight old =
    ((slice_index old.marks.items agent ≢ 0) × (slice_index old.marks.items agent ≢ group + 1))
    ⊎ (divisor < weight_in group (slice_index old.marks.items agent) (slice_index old.weights.items agent) + weight)
