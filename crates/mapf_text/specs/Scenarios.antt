-- Scenario texts: the problem that bytes spell, and the errors.
use Rattle.std.specs.Prelude.{◌≡◌, ◌⊎◌, ℕ, ◌<◌, ◌≤◌, not, List, [], ◌∷◌, length, take, slice_index_or, codes}
use Rattle.std.specs.List.{filter}
use Rattle.mapf_model.specs.Grid.{GridMap}
use Rattle.mapf_model.specs.Plan.{Instance}
use Rattle.mapf_model.specs.declared.problem.Agent.{Agent}
use Rattle.mapf_text.specs.Lines.{lines_of}
use Rattle.mapf_text.specs.Words.{is_blank_line, words_of}
use Rattle.mapf_text.specs.AgentRows.{SpellsAgent, HasRowFault}
use Rattle.mapf_text.specs.declared.scenario_fault.ScenFault.{ScenFault}
use Rattle.mapf_text.specs.declared.scenario_fault.ScenFault.TheVariants.{S1, S7, Memory}

-- the lines of a text that aren't blank
unfoldable pub filled_lines : List ℕ → List (List ℕ)
filled_lines text = filter (λ line. not (is_blank_line line)) (lines_of text)

-- the line `version 1` or `version 1.0`
abbrev pub IsVersionLine : List ℕ → Type 0
IsVersionLine line =
    (words_of line ≡ codes "version" ∷ codes "1" ∷ []) ⊎ (words_of line ≡ codes "version" ∷ codes "1.0" ∷ [])

-- the first of the lines is the version line, and the rows follow it
pub record AfterVersion (lines rows : List (List ℕ)) : Type 0 where
  pub line : List ℕ
  pub first : lines ≡ line ∷ rows
  pub is_version : IsVersionLine line

-- each row spells the agent at its index
abbrev pub SpellAgents : GridMap → List (List ℕ) → List Agent → Type 0
SpellAgents grid [] [] = Unit {0}
SpellAgents grid (row ∷ rows) (agent ∷ agents) = SpellsAgent grid (words_of row) agent × SpellAgents grid rows agents
SpellAgents grid _ _ = ⊥

-- the first k rows spell these agents
pub record HasAgents (grid : GridMap) (rows : List (List ℕ)) (k : ℕ) (agents : List Agent) : Type 0 where
  pub enough : k ≤ length rows
  pub spelled : SpellAgents grid (take k rows) agents

-- the version line and k rows, whatever follows them
pub record SpellsScenario (bytes : List ℕ) (grid : GridMap) (k : ℕ) (problem : Instance) : Type 0 where
  pub rows : List (List ℕ)
  pub version : AfterVersion (filled_lines bytes) rows
  pub agents : HasAgents grid rows k problem.agents
  pub on_grid : problem.grid ≡ grid

-- what each error of the rows says of them; out of memory says nothing
abbrev pub HasRowsFault : GridMap → List (List ℕ) → ℕ → ScenFault → Type 0
HasRowsFault grid rows k S1 = ⊥
HasRowsFault grid rows k (S7 count) =
    (count < k) × (length rows ≡ count) × ((agents : List Agent) × HasAgents grid rows count agents)
HasRowsFault grid rows k Memory = Unit {0}
HasRowsFault grid rows k fault =
    (row : ℕ) × (row < k) × (row < length rows) × ((agents : List Agent) × HasAgents grid rows row agents)
    × HasRowFault grid (words_of (slice_index_or rows row [])) row fault

-- what each error says of the lines of a text that aren't blank: the lines before its location are correct, and its
-- defect is there
abbrev pub HasScenarioFault : GridMap → List (List ℕ) → ℕ → ScenFault → Type 0
HasScenarioFault grid lines k S1 = (rows : List (List ℕ)) → AfterVersion lines rows → ⊥
HasScenarioFault grid lines k fault = (rows : List (List ℕ)) × AfterVersion lines rows × HasRowsFault grid rows k fault

-- on a grid, bytes spell at most one problem of so many agents
abbrev pub SpellsOneScenario : Type 0
SpellsOneScenario =
    (bytes : List ℕ) (grid : GridMap) (k : ℕ) (problem other : Instance) → SpellsScenario bytes grid k problem →
    SpellsScenario bytes grid k other → problem ≡ other
