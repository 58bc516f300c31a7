-- The text of a played plan: one frame for each tick.
use Rattle.std.specs.Prelude.{◌≡◌, ◌≢◌, ◌≤◌, ℕ, ◌+◌, ◌-◌, ◌*◌, if◌then◌else◌, ◌==◌, nat_lt, false, Option, Some}
use Rattle.std.specs.Prelude.{option_map, unwrap_or, List, [], ◌∷◌, ◌++◌, map, codes, position, flat_map, slice_get}
use Rattle.std.specs.Prelude.{slice_index_or}
use Rattle.std.specs.List.{range_with_len}
use Rattle.std.specs.Fmt.{decimal}
use Rattle.mapf_model.specs.declared.problem.Agent.{Agent}
use Rattle.mapf_model.specs.Grid.{GridMap}
use Rattle.mapf_model.specs.Path.{at, IsCost}
use Rattle.mapf_model.specs.Plan.{Instance, IsValid}

-- the byte of an agent, by its number: `0` to `9`, then `a` to `z`, then `A` to `Z`, and `*` from 62 on
abbrev pub mark : ℕ → ℕ
mark agent =
    if nat_lt agent 10 then 48 + agent else
    (if nat_lt agent 36 then 97 + (agent - 10) else (if nat_lt agent 62 then 65 + (agent - 36) else 42))

-- the byte of a cell in which no agent is: `.` if it is free, else `@`
abbrev pub terrain : GridMap → ℕ → ℕ
terrain grid cell = if slice_index_or grid.free cell false then 46 else 64

-- the first agent whose path is in the cell at the tick
abbrev pub agent_in : List (List ℕ) → ℕ → ℕ → Option ℕ
agent_in plan tick cell = position (λ path. at path tick == cell) plan

-- the byte of a cell: the mark of the first agent that is in it, else the terrain
abbrev pub cell_byte : GridMap → List (List ℕ) → ℕ → ℕ → ℕ
cell_byte grid plan tick cell = unwrap_or (option_map mark (agent_in plan tick cell)) (terrain grid cell)

-- the bytes of a row's cells, from the left to the right
abbrev pub row_cells : GridMap → List (List ℕ) → ℕ → ℕ → List ℕ
row_cells grid plan tick row =
    map (λ column. cell_byte grid plan tick (row * grid.width + column)) (range_with_len 0 grid.width)

-- a row's line
unfoldable pub row_line : GridMap → List (List ℕ) → ℕ → ℕ → List ℕ
row_line grid plan tick row = row_cells grid plan tick row ++ (10 ∷ [])

-- a word, a number and LF
abbrev pub line : List ℕ → ℕ → List ℕ
line word number = word ++ (decimal number ++ (10 ∷ []))

-- the grid at a tick: a line for each row, from the top to the bottom
abbrev pub rows : GridMap → List (List ℕ) → ℕ → List ℕ
rows grid plan tick = flat_map (row_line grid plan tick) (range_with_len 0 grid.height)

-- what is shown of a tick
unfoldable pub frame : GridMap → List (List ℕ) → ℕ → List ℕ
frame grid plan tick = line (codes "tick ") tick ++ rows grid plan tick

-- the frames of the ticks from 0 to the last one, and then the number of the last one
abbrev pub play_text : GridMap → List (List ℕ) → ℕ → List ℕ
play_text grid plan last = flat_map (frame grid plan) (range_with_len 0 (last + 1)) ++ line (codes "end ") last

-- the makespan: some agent's path costs this, and none costs more
pub record IsMakespan (agents : List Agent) (plan : List (List ℕ)) (makespan : ℕ) : Type 0 where
  pub some : (i : ℕ) × (agent : Agent) × (path : List ℕ) × (slice_get agents i ≡ Some agent)
      × (slice_get plan i ≡ Some path) × IsCost agent.goal path makespan
  pub most : (i : ℕ) (agent : Agent) (path : List ℕ) (cost : ℕ) → slice_get agents i ≡ Some agent →
      slice_get plan i ≡ Some path → IsCost agent.goal path cost → cost ≤ makespan

-- the text of the plan, up to its makespan
abbrev pub IsPlayText : Instance → List (List ℕ) → List ℕ → Type 0
IsPlayText problem plan text =
    (makespan : ℕ) × IsMakespan problem.agents plan makespan × (text ≡ play_text problem.grid plan makespan)

-- a plan has at most one such text
abbrev pub PlaysAreOne : Type 0
PlaysAreOne =
    (problem : Instance) (plan : List (List ℕ)) (a b : List ℕ) → IsPlayText problem plan a → IsPlayText problem plan b →
    a ≡ b

-- in a valid plan each agent is shown where it is, at every tick
abbrev pub AgentsAreSeen : Type 0
AgentsAreSeen =
    (problem : Instance) (plan : List (List ℕ)) → IsValid problem plan → (i tick : ℕ) (path : List ℕ) →
    slice_get plan i ≡ Some path → cell_byte problem.grid plan tick (at path tick) ≡ mark i

-- where no agent is the terrain is shown
abbrev pub TerrainIsSeen : Type 0
TerrainIsSeen =
    (grid : GridMap) (plan : List (List ℕ)) (tick cell : ℕ) →
    ((i : ℕ) (path : List ℕ) → slice_get plan i ≡ Some path → at path tick ≢ cell) →
    cell_byte grid plan tick cell ≡ terrain grid cell
