-- No walk is shorter than rows and columns are apart.
use Rattle.std.proofs.Common.{◌≡◌, ◌⊎◌, ℕ, zero, suc, ◌+◌, ◌-◌, ◌≤◌, inl, inr, subst, arith}
use Rattle.mapf_model.specs.Distance.{Walk, IsDistance}
use Rattle.mapf_model.specs.Grid.{GridMap, column, row, DifferByOne, Step}

-- how far two numbers are apart
abbrev between : ℕ → ℕ → ℕ
between a b = (a - b) + (b - a)

-- how far the columns and the rows of two cells are apart
abbrev pub apart_on : GridMap → ℕ → ℕ → ℕ
apart_on grid u v = between (column grid u) (column grid v) + between (row grid u) (row grid v)

nearer : (a b goal c d other : ℕ) → ((c ≡ d) × DifferByOne a b) ⊎ ((a ≡ b) × DifferByOne c d) →
    between a goal + between c other ≤ 1 + (between b goal + between d other)
nearer a b goal c d other (inl (same, inl more)) = omega arith
nearer a b goal c d other (inl (same, inr less)) = omega arith
nearer a b goal c d other (inr (same, inl more)) = omega arith
nearer a b goal c d other (inr (same, inr less)) = omega arith

at_most_more : (n : ℕ) → n ≤ 1 + n
at_most_more n = omega arith

one_further : (a b n : ℕ) → a ≤ 1 + b → b ≤ n → a ≤ suc n
one_further a b n p q = omega arith

none_between : (a b : ℕ) → between a a + between b b ≤ 0
none_between a b = omega arith

pub step_apart : (grid : GridMap) (u v goal : ℕ) → Step grid u v → apart_on grid u goal ≤ 1 + apart_on grid v goal
step_apart grid u v goal (inl (free, same)) =
    subst (λ cell. apart_on grid u goal ≤ 1 + apart_on grid cell goal) same (at_most_more (apart_on grid u goal))
step_apart grid u v goal (inr move) =
    nearer (column grid u) (column grid v) (column grid goal) (row grid u) (row grid v) (row grid goal) move.apart

pub walk_apart : (grid : GridMap) (goal n u : ℕ) → Walk grid u goal n → apart_on grid u goal ≤ n
walk_apart grid goal zero u (free, same) =
    subst (λ cell. apart_on grid u cell ≤ 0) same (none_between (column grid u) (row grid u))
walk_apart grid goal (suc n) u (next, step, walk) =
    one_further (apart_on grid u goal) (apart_on grid next goal) n (step_apart grid u next goal step) (walk_apart grid goal n next walk)

-- a walk that is no longer than that is a shortest one
pub distance_by_walk : (grid : GridMap) (u goal n : ℕ) → Walk grid u goal n → apart_on grid u goal ≡ n → IsDistance grid goal u n
distance_by_walk grid u goal n walk same =
    record { walk = walk; least = λ m other. subst (λ k. k ≤ m) same (walk_apart grid goal m u other) }
