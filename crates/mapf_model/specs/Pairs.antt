-- Pairs of a number and a greater one, ordered by the first and then by the second.
use Rattle.std.specs.Prelude.{ℕ, ◌<◌}

-- the relation holds of each pair of numbers below the count
abbrev pub EachPair : (ℕ → ℕ → Type 0) → ℕ → Type 0
EachPair Fact count = (i j : ℕ) → i < j → j < count → Fact i j

-- the relation holds of each pair that comes before this one: those of a smaller first number, and those of the same
-- first number and a smaller second one
abbrev pub EachPairBefore : (ℕ → ℕ → Type 0) → ℕ → ℕ → ℕ → Type 0
EachPairBefore Fact count i j =
    ((a b : ℕ) → a < i → a < b → b < count → Fact a b) × ((b : ℕ) → i < b → b < j → Fact i b)

-- the relation holds of no pair of numbers below the count
abbrev pub HoldsOfNoPair : (ℕ → ℕ → Type 0) → ℕ → Type 0
HoldsOfNoPair Fact count = EachPair (λ i j. Fact i j → ⊥) count

-- the relation holds of this pair of numbers below the count, and of none that comes before it
pub record IsFirstPair (Fact : ℕ → ℕ → Type 0) (count : ℕ) (pair : ℕ × ℕ) : Type 0 where
  pub order : pair.0 < pair.1
  pub within : pair.1 < count
  pub holds : Fact pair.0 pair.1
  pub first : EachPairBefore (λ i j. Fact i j → ⊥) count pair.0 pair.1
