-- Distances on a grid. (Usual)
use Rattle.std.specs.Prelude.{◌≡◌, ℕ, zero, suc, ◌≤◌}
use Rattle.mapf_model.specs.Grid.{GridMap, IsFree, Step}

-- so many steps, waits included, lead from the one free cell to the other
abbrev pub Walk : GridMap → ℕ → ℕ → ℕ → Type 0
Walk grid from to zero = IsFree grid from × (from ≡ to)
Walk grid from to (suc n) = (next : ℕ) × Step grid from next × Walk grid next to n

-- the least number of steps that lead from the cell to the goal
pub record IsDistance (grid : GridMap) (goal cell distance : ℕ) : Type 0 where
  pub walk : Walk grid cell goal distance
  pub least : (n : ℕ) → Walk grid cell goal n → distance ≤ n

-- no steps lead from the cell to the goal
abbrev pub IsUnreachable : GridMap → ℕ → ℕ → Type 0
IsUnreachable grid goal cell = (n : ℕ) → Walk grid cell goal n → ⊥
