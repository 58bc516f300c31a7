-- Cells that all agents but one keep clear of, found by cell.
use Rattle.std.specs.Prelude.{◌≡◌, ◌≢◌, ◌↔◌, ◌⊎◌, ◌≤◌, ℕ, List, Option, Some, None, Contains}
use Rattle.std.specs.BTreeMap.{get}
use Rattle.mapf_model.specs.contracts.cell.CellOrd.TheImpl as cell_order
use Rattle.mapf_cases.specs.declared.clear_index.Earliest.{Earliest}
use Rattle.mapf_cases.specs.declared.clear_index.ClearIndex.{ClearIndex}

-- all agents but this one keep clear of the cell from the tick on
pub record Clearing : Type 0 where
  pub agent : ℕ
  pub cell : ℕ
  pub tick : ℕ

-- by some of these the agent keeps clear of the cell from the tick on
abbrev pub IsClear : List Clearing → ℕ → ℕ → ℕ → Type 0
IsClear clears cell agent tick =
    (clearing : Clearing) × Contains clears clearing × (clearing.cell ≡ cell) × (clearing.agent ≢ agent)
    × (clearing.tick ≤ tick)

-- what is kept of a cell says that the agent keeps clear of it from the tick on
abbrev pub IsClearFor : Option Earliest → ℕ → ℕ → Type 0
IsClearFor (Some kept) agent tick =
    ((kept.agent ≢ agent) × (kept.tick ≤ tick))
    ⊎ ((kept.agent ≡ agent) × (own : ℕ) × (kept.own ≡ Some own) × (own ≤ tick))
IsClearFor None agent tick = ⊥

-- its first tick isn't after that for the one agent
abbrev pub IsOrdered : Option Earliest → Type 0
IsOrdered (Some kept) = (own : ℕ) → kept.own ≡ Some own → kept.tick ≤ own
IsOrdered None = Unit {0}

-- this is kept of the cell
pub record IsEntryOf (clears : List Clearing) (cell : ℕ) (kept : Option Earliest) : Type 0 where
  pub ordered : IsOrdered kept
  pub clear : (agent tick : ℕ) → IsClearFor kept agent tick ↔ IsClear clears cell agent tick

-- the index has what is kept of each cell
abbrev pub Keeps : List Clearing → ClearIndex → Type 0
Keeps clears index = (cell : ℕ) → IsEntryOf clears cell (get ((cell_order.ghosts).cmp) index.earliest cell)
