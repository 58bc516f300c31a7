-- How a search starts: goals, and the agents' shortest paths.
use Rattle.std.specs.Prelude.{◌≡◌, ◌-◌, ◌≤◌, ℕ, List, Some, length, slice_get}
use Rattle.mapf_model.specs.declared.problem.Agent.{Agent}
use Rattle.mapf_model.specs.Distance.{IsDistance}
use Rattle.mapf_distance.specs.Distances.{IsLeastDescent}
use Rattle.mapf_model.specs.Grid.{GridMap, IsGridMap, free_cell_count}
use Rattle.mapf_model.specs.Limits.{most_agents}
use Rattle.mapf_model.specs.Path.{IsLawful, IsTight}
use Rattle.mapf_model.specs.Plan.{Instance}
use Rattle.mapf_cbs.specs.declared.start.Beginning.{Beginning}
use Rattle.mapf_cbs.specs.declared.start.Beginning.TheVariants.{Impossible as ImpossibleBeginning}
use Rattle.mapf_cbs.specs.declared.start.Beginning.TheVariants.{Root as RootBeginning}
use Rattle.mapf_cbs.specs.Answer.{IsImpossibleAnswer}
use Rattle.mapf_cbs.specs.Goals.{HaveDifferentGoals}

-- these agents have the same goal
abbrev pub HaveGoal : List Agent → ℕ → ℕ → Type 0
HaveGoal agents i j =
    (a : Agent) × (b : Agent) × (slice_get agents i ≡ Some a) × (slice_get agents j ≡ Some b) × (a.goal ≡ b.goal)

-- the agent's path is lawful, has no trailing waits and no more steps than its distance, and each step goes to the
-- nearer cell of the least number
pub record IsShortest (grid : GridMap) (agent : Agent) (path : List ℕ) : Type 0 where
  pub lawful : IsLawful grid agent path
  pub tight : IsTight path
  pub few : length path ≤ free_cell_count grid
  pub short : IsDistance grid agent.goal agent.start (length path - 1)
  pub least : IsLeastDescent grid agent.goal path

-- the same of each of these paths, which are those of the first agents
pub record AreShortest (problem : Instance) (paths : List (List ℕ)) : Type 0 where
  pub within : length paths ≤ length problem.agents
  pub each : (i : ℕ) (agent : Agent) (path : List ℕ) → slice_get problem.agents i ≡ Some agent →
      slice_get paths i ≡ Some path → IsShortest problem.grid agent path

-- the paths with which a search begins at the root: no two agents have the same goal, and each has a shortest path
pub record IsRootStart (problem : Instance) (paths : List (List ℕ)) : Type 0 where
  pub shape : IsGridMap problem.grid
  pub agents : (1 ≤ length problem.agents) × (length problem.agents ≤ most_agents)
  pub goals : HaveDifferentGoals problem
  pub count : length paths ≡ length problem.agents
  pub shortest : AreShortest problem paths

-- a tree without splits that shows that no plan is valid, or the paths with which a search begins
abbrev pub IsBeginning : Instance → Beginning → Type 0
IsBeginning problem (ImpossibleBeginning nodes) = (limit : ℕ) → IsImpossibleAnswer problem limit nodes.items
IsBeginning problem (RootBeginning paths) = IsRootStart problem paths.items
