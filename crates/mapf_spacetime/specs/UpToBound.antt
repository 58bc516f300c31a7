-- What a walk and a sweep that go by turns find.
use Rattle.std.specs.Prelude.{◌≡◌, ℕ, ◌≤◌, List}
use Rattle.mapf_spacetime.specs.declared.turns.UpToBound.{UpToBound}
use Rattle.mapf_spacetime.specs.declared.turns.UpToBound.TheVariants.{Walked, Arrived, Swept}
use Rattle.mapf_spacetime.specs.PathSearch.{IsWholeWalk}
use Rattle.mapf_spacetime.specs.States.{IsBelowLimit}
use Rattle.mapf_spacetime.specs.Sweeps.{Sweeping, HasArrived, IsWhole}
use Rattle.mapf_spacetime.specs.Task.{Task}

-- the agent arrives at this cost, up to the bound, and not earlier; the sweep has kept the states below it, and the
-- cells are the least walk of the cost
pub record IsArrivalBy (task : Task) (bound : ℕ) (sweep : Sweeping) (cost : ℕ) (cells : List ℕ) : Type 0 where
  pub arrived : HasArrived task cost sweep.low
  pub limit : IsBelowLimit task cost
  pub early : cost ≤ bound
  pub walk : IsWholeWalk task cost cells

-- a walk that ends at the bound; or an arrival up to the bound; or the sweep has followed each step of each state up to
-- the bound
abbrev pub IsUpTo : Task → ℕ → Sweeping → UpToBound → Type 0
IsUpTo task bound sweep (Walked cells) = IsWholeWalk task bound cells.items
IsUpTo task bound sweep (Arrived cost cells) = IsArrivalBy task bound sweep cost cells.items
IsUpTo task bound sweep Swept = IsWhole task sweep × (sweep.bound ≡ bound)
