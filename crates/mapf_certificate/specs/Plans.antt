-- How a plan text is spelled.
use Rattle.std.specs.Prelude.{◌≡◌, ◌≤◌, ◌<◌, ℕ, ◌+◌, ◌-◌, Bool, true, Option, Some, List, [], ◌∷◌, ◌++◌, codes, length}
use Rattle.std.specs.Prelude.{All, sum_by}
use Rattle.std.specs.List.{flat_map}
use Rattle.mapf_model.specs.declared.cause.Cause.{Cause}
use Rattle.mapf_model.specs.declared.cause.Cause.TheVariants.{Splits, Ticks}
use Rattle.mapf_model.specs.Limits.{most_agents, most_path_cells, most_splits, greatest_sum}
use Rattle.mapf_model.specs.Grid.{GridMap, IsGridMap}
use Rattle.mapf_model.specs.Printed.{IsOnGrid, IsPathInRange}
use Rattle.mapf_fields.specs.Numbers.{field, pair}
use Rattle.mapf_certificate.specs.declared.plan_text.PlanText.{PlanText}
use Rattle.mapf_certificate.specs.declared.plan_text.PlanAnswer.{PlanAnswer}
use Rattle.mapf_certificate.specs.declared.plan_text.PlanAnswer.TheVariants.{Found, Impossible, Limit, Bounded}
use Rattle.mapf_certificate.specs.declared.version.Version.{Version}
use Rattle.mapf_certificate.specs.declared.version.Version.TheVariants.{One, Two}
use Rattle.mapf_certificate.specs.Lines.{IsAgentCount}

-- the cost of a path: its length in ticks
abbrev pub ticks_of : List ℕ → ℕ
ticks_of path = length path - 1

-- the pairs of a path's cells
abbrev pub cells_text : ℕ → List ℕ → List ℕ
cells_text width path = flat_map (pair width) path

-- the words of a path's line
abbrev pub path_words : ℕ → ℕ → List ℕ → List ℕ
path_words width agent path = codes "path" ++ (field 32 agent ++ (field 32 (ticks_of path) ++ cells_text width path))

-- a path's line
abbrev pub path_text : ℕ → ℕ → List ℕ → List ℕ
path_text width agent path = path_words width agent path ++ (10 ∷ [])

-- the paths of the agents from this one on
abbrev pub paths_text : ℕ → ℕ → List (List ℕ) → List ℕ
paths_text width agent [] = []
paths_text width agent (path ∷ paths) = path_text width agent path ++ paths_text width (agent + 1) paths

-- the sum of the costs of a plan's paths
abbrev pub cost_of : List (List ℕ) → ℕ
cost_of plan = sum_by ticks_of plan

-- the first line, without its LF
abbrev pub plan_title : Version → List ℕ
plan_title One = codes "mapf-plan 1"
plan_title Two = codes "mapf-plan 2"

-- a blank and why the search ended: the number of splits, or `ticks`
abbrev pub cause_words : Cause → List ℕ
cause_words (Splits count) = field 32 count
cause_words Ticks = codes " ticks"

-- the lines of an answer
abbrev pub answer_text : ℕ → PlanAnswer → List ℕ
answer_text width (Found plan) = (codes "cost" ++ (field 32 (cost_of plan) ++ (10 ∷ []))) ++ paths_text width 0 plan
answer_text width Impossible = codes "impossible\n"
answer_text width (Limit cause) = codes "limit" ++ (cause_words cause ++ (10 ∷ []))
answer_text width (Bounded cause bound) =
    codes "limit" ++ (cause_words cause ++ (codes " bound" ++ (field 32 bound ++ (10 ∷ []))))

-- the whole text: the title, the number of agents, the answer and the end
abbrev pub plan_text : ℕ → PlanText → List ℕ
plan_text width p =
    plan_title p.version ++ (10 ∷ ((codes "agents" ++ (field 32 p.agents ++ (10 ∷ [])))
    ++ (answer_text width p.answer ++ codes "end\n")))

-- at most 100,000 splits
abbrev pub IsCauseInRange : Cause → Type 0
IsCauseInRange (Splits count) = count ≤ most_splits
IsCauseInRange Ticks = Unit {0}

-- an answer with its numbers in their ranges
abbrev pub IsAnswerInRange : GridMap → ℕ → PlanAnswer → Type 0
IsAnswerInRange grid agents (Found plan) = (length plan ≡ agents) × All (IsPathInRange grid) plan
IsAnswerInRange grid agents Impossible = Unit {0}
IsAnswerInRange grid agents (Limit cause) = IsCauseInRange cause
IsAnswerInRange grid agents (Bounded cause bound) = IsCauseInRange cause × (bound ≤ greatest_sum)

-- the answers of a version: a limit without a bound in version 1 only, and one with a bound in version 2 only
abbrev pub IsAnswerOfVersion : Version → PlanAnswer → Type 0
IsAnswerOfVersion version (Found plan) = Unit {0}
IsAnswerOfVersion version Impossible = Unit {0}
IsAnswerOfVersion version (Limit cause) = version ≡ One
IsAnswerOfVersion version (Bounded cause bound) = version ≡ Two

-- a plan for at most 200 agents
abbrev pub IsFew : PlanAnswer → Type 0
IsFew (Found plan) = length plan ≤ most_agents
IsFew _ = Unit {0}

-- a value that has a spelling
abbrev pub IsPlanText : GridMap → PlanText → Type 0
IsPlanText grid p =
    IsAgentCount p.agents × IsAnswerInRange grid p.agents p.answer × IsAnswerOfVersion p.version p.answer

-- these bytes spell a plan text of this version for so many agents with this answer
pub record SpellsPlan (grid : GridMap) (bytes : List ℕ) (version : Version) (agents : ℕ) (answer : PlanAnswer)
    : Type 0 where
  pub in_range : IsPlanText grid (record { version = version; agents = agents; answer = answer })
  pub spelled : bytes ≡ plan_text grid.width (record { version = version; agents = agents; answer = answer })

-- on one grid no bytes spell two plan texts, neither in one version nor in two
abbrev pub SpellsOnePlan : Type 0
SpellsOnePlan =
    (grid : GridMap) (bytes : List ℕ) (text other : PlanText) → IsGridMap grid → IsPlanText grid text →
    IsPlanText grid other
    → bytes ≡ plan_text grid.width text → bytes ≡ plan_text grid.width other → text ≡ other

-- the bytes begin with these paths, one for each agent, followed by this rest
pub record ArePaths (grid : GridMap) (agents : ℕ) (bytes : List ℕ) (paths : List (List ℕ)) (sum : ℕ) (rest : List ℕ)
    : Type 0 where
  pub count : length paths ≡ agents
  pub in_range : All (IsPathInRange grid) paths
  pub costs : sum ≡ cost_of paths
  pub spelled : bytes ≡ paths_text grid.width 0 paths ++ rest

-- the bytes begin with these cells of the grid, followed by this rest
pub record HasCells (grid : GridMap) (bytes cells rest : List ℕ) : Type 0 where
  pub in_range : All (IsOnGrid grid) cells
  pub spelled : bytes ≡ cells_text grid.width cells ++ rest

-- a path begins with these cells, and the rest spells its other cells
pub record GoesOn (width : ℕ) (path cells rest : List ℕ) : Type 0 where
  pub others : List ℕ
  pub same : path ≡ cells ++ others
  pub spelled : rest ≡ cells_text width others

-- a plan begins with these paths, and what is left spells the others, followed by the rest
pub record PathsGoOn (width due : ℕ) (plan paths : List (List ℕ)) (rest left : List ℕ) : Type 0 where
  pub others : List (List ℕ)
  pub same : plan ≡ paths ++ others
  pub spelled : left ≡ paths_text width due others ++ rest

-- the numbers of a path's line fit together: its agent is the expected one, and the cost is one less than the number of
-- its cells
pub record IsPathOf (agents : ℕ) (agent cost : Option ℕ) (due : ℕ) (are_cells : Bool) (count : ℕ) : Type 0 where
  pub agent_is : agent ≡ Some due
  pub agent_in_range : due < agents
  pub cells : are_cells ≡ true
  pub some : 1 ≤ count
  pub few : count ≤ most_path_cells
  pub cost_is : cost ≡ Some (count - 1)
