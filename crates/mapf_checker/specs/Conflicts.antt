-- Conflicts of the agents of a plan.
use Rattle.std.specs.Prelude.{◌≡◌, ◌≢◌, ℕ, ◌+◌, ◌<◌, List, Some, slice_get}
use Rattle.mapf_model.specs.Path.{at}
use Rattle.mapf_model.specs.Plan.{ConflictAt}

-- the agents are in one cell at the tick
pub record AreInOneCell (paths : List (List ℕ)) (tick i j : ℕ) : Type 0 where
  pub first : List ℕ
  pub second : List ℕ
  pub is_first : slice_get paths i ≡ Some first
  pub is_second : slice_get paths j ≡ Some second
  pub same : at first tick ≡ at second tick

-- they exchange their cells between the tick and the next
pub record ExchangeCells (paths : List (List ℕ)) (tick i j : ℕ) : Type 0 where
  pub first : List ℕ
  pub second : List ℕ
  pub is_first : slice_get paths i ≡ Some first
  pub is_second : slice_get paths j ≡ Some second
  pub moves : at first tick ≢ at first (tick + 1)
  pub there : at second tick ≡ at first (tick + 1)
  pub back : at second (tick + 1) ≡ at first tick

-- the relation holds of these two numbers below the count, of which the first is smaller
abbrev pub IsPairWith : (ℕ → ℕ → Type 0) → ℕ → ℕ × ℕ → Type 0
IsPairWith Fact count pair = (pair.0 < pair.1) × (pair.1 < count) × Fact pair.0 pair.1

-- no two agents are in conflict at the tick
abbrev pub AreApartAt : List (List ℕ) → ℕ → Type 0
AreApartAt paths tick =
    (i j : ℕ) (p q : List ℕ) → i < j → slice_get paths i ≡ Some p → slice_get paths j ≡ Some q → ConflictAt p q tick → ⊥
