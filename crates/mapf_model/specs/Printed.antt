-- The ranges and orders of the values that plan texts and certificates spell. (Own)
use Rattle.std.specs.Prelude.{◌≡◌, ℕ, ◌*◌, ◌^◌, ◌<◌, ◌≤◌, ⊤, List, length, All, AllPairs}
use Rattle.mapf_model.specs.declared.item.Claim.{Claim}
use Rattle.mapf_model.specs.declared.item.Claim.TheVariants.{Cost, Bound, Impossible}
use Rattle.mapf_model.specs.declared.conflict.Conflict.{Conflict}
use Rattle.mapf_model.specs.declared.conflict.Conflict.TheVariants.{Vertex, Swap}
use Rattle.mapf_model.specs.declared.label.Entry.{Entry}
use Rattle.mapf_model.specs.declared.label.Label.{Label}
use Rattle.mapf_model.specs.declared.label.Label.TheVariants.{Ticks, Never}
use Rattle.mapf_model.specs.Limits.{most_agents, most_path_cells, greatest_cost, greatest_sum, last_split_tick}
use Rattle.mapf_model.specs.Blocks.{LabelBlock}
use Rattle.mapf_model.specs.Grid.{GridMap}
use Rattle.mapf_model.specs.Path.{IsTight}
use Rattle.mapf_model.specs.States.{IsEarlier, state_of}
use Rattle.mapf_model.specs.Tree.{ConstraintTree, Split, Leaf, Clash}

-- a cell of the grid, free or not
abbrev pub IsOnGrid : GridMap → ℕ → Type 0
IsOnGrid grid cell = cell < grid.width * grid.height

-- the state of the first is earlier than that of the second
abbrev pub IsBefore : Entry → Entry → Type 0
IsBefore a b = IsEarlier (state_of a) (state_of b)

-- 1 to 9,999,999, or never
abbrev pub IsLabelInRange : Label → Type 0
IsLabelInRange (Ticks n) = (1 ≤ n) × (n ≤ greatest_cost)
IsLabelInRange Never = ⊤

-- ticks up to 9,999,999
abbrev pub IsEntryInRange : GridMap → Entry → Type 0
IsEntryInRange grid entry = IsOnGrid grid entry.cell × (entry.tick ≤ greatest_cost) × IsLabelInRange entry.label

-- the entries of one agent: at least one, in strictly rising order
pub record IsBlockInRange (grid : GridMap) (agents : ℕ) (block : LabelBlock) : Type 0 where
  pub agent : block.agent < agents
  pub some : 1 ≤ length block.entries
  pub few : length block.entries < 2 ^ 64
  pub entries : All (IsEntryInRange grid) block.entries
  pub rising : AllPairs IsBefore block.entries

-- the blocks of a node, in strictly rising order of their agents
pub record AreBlocksInRange (grid : GridMap) (agents : ℕ) (blocks : List LabelBlock) : Type 0 where
  pub each : All (IsBlockInRange grid agents) blocks
  pub rising : AllPairs (λ a b. a.agent < b.agent) blocks

-- ticks up to 999,999
abbrev pub IsConflictInRange : GridMap → ℕ → Conflict → Type 0
IsConflictInRange grid agents (Vertex i j cell tick) =
    (i < agents) × (j < agents) × IsOnGrid grid cell × (tick ≤ last_split_tick)
IsConflictInRange grid agents (Swap i j from to tick) =
    (i < agents) × (j < agents) × IsOnGrid grid from × IsOnGrid grid to × (tick ≤ last_split_tick)

-- each node of the tree is in range
abbrev pub IsTreeInRange : GridMap → ℕ → ConstraintTree → Type 0
IsTreeInRange grid agents (Split conflict blocks left right) =
    IsConflictInRange grid agents conflict × AreBlocksInRange grid agents blocks × IsTreeInRange grid agents left
    × IsTreeInRange grid agents right
IsTreeInRange grid agents (Leaf blocks) = AreBlocksInRange grid agents blocks
IsTreeInRange grid agents (Clash i j) = (i < agents) × (j < agents)

-- costs and bounds up to 1,999,999,800
abbrev pub IsClaimInRange : Claim → Type 0
IsClaimInRange (Cost cost) = cost ≤ greatest_sum
IsClaimInRange (Bound bound) = bound ≤ greatest_sum
IsClaimInRange Impossible = ⊤

-- 1 to 10,000,000 cells, and no trailing waits
pub record IsPathInRange (grid : GridMap) (path : List ℕ) : Type 0 where
  pub some : 1 ≤ length path
  pub short : length path ≤ most_path_cells
  pub on_grid : All (IsOnGrid grid) path
  pub tight : IsTight path

-- 1 to 200 such paths. The steps of all of them are then at most 1,999,999,800
pub record IsPlanInRange (grid : GridMap) (plan : List (List ℕ)) : Type 0 where
  pub some : 1 ≤ length plan
  pub few : length plan ≤ most_agents
  pub paths : All (IsPathInRange grid) plan
