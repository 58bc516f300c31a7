-- What holds in the loops of a sweep.
use Rattle.std.proofs.Common.{◌≡◌, ◌⊎◌, ℕ, ◌<◌, ◌≤◌, List, length, slice_index_or, Contains, AllPairs}
use Rattle.mapf_spacetime.specs.CellSets.{HasNumber}
use Rattle.mapf_model.specs.States.{IsEarlier}
use Rattle.mapf_spacetime.specs.Task.{Task, IsBelow, state_at, start_of}
use Rattle.mapf_model.specs.declared.state.State.{State}

-- of these cells some are left, and the others are in these states at the tick
pub record AreTaken (tick : ℕ) (cells rest : List ℕ) (states : List State) : Type 0 where
  pub each : (s : State) → Contains states s → (s.tick ≡ tick) × HasNumber cells s.cell
  pub left : (cell : ℕ) → HasNumber rest cell → HasNumber cells cell
  pub all : (cell : ℕ) → HasNumber cells cell → HasNumber rest cell ⊎ Contains states (state_at cell tick)
  pub later : (s : State) (cell : ℕ) → Contains states s → HasNumber rest cell → s.cell < cell
  pub count : (cell : ℕ) → HasNumber rest cell → length states ≤ cell
  pub rising : AllPairs IsEarlier states

-- of the first states so many, those whose f-value is below the cost, in their order
pub record AreKept (task : Task) (cost count : ℕ) (states low : List State) : Type 0 where
  pub kept : (k : ℕ) → k < count → IsBelow task cost (slice_index_or states k (start_of task)) → Contains low (slice_index_or states k (start_of task))
  pub only : (s : State) → Contains low s → ((k : ℕ) × (k < count) × (slice_index_or states k (start_of task) ≡ s)) × IsBelow task cost s
  pub rising : AllPairs IsEarlier low
