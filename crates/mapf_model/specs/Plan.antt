-- Plans: a path for each agent. (Stern et al. 2019)
use Rattle.std.specs.Prelude.{◌≡◌, ◌≢◌, ◌⊎◌, ℕ, ◌+◌, ◌-◌, ◌≤◌, All, List, Some, length, sum, slice_get}
use Rattle.mapf_model.specs.Limits.{most_agents}
use Rattle.mapf_model.specs.declared.problem.Agent.{Agent}
use Rattle.mapf_model.specs.Grid.{GridMap, IsGridMap, IsFree}
use Rattle.mapf_model.specs.Path.{at, IsLawful, IsCost}

-- a grid and the agents on it
pub record Instance : Type 0 where
  pub grid : GridMap
  pub agents : List Agent

-- 1 to 200 agents whose starts and goals are free cells (the number: own)
abbrev pub AreAgentsOn : GridMap → List Agent → Type 0
AreAgentsOn grid agents =
    (1 ≤ length agents) × (length agents ≤ most_agents)
    × All (λ agent. IsFree grid agent.start × IsFree grid agent.goal) agents

-- a problem whose sizes are within the limits, and whose agents are on its grid
pub record IsInstance (problem : Instance) : Type 0 where
  pub grid : IsGridMap problem.grid
  pub agents : AreAgentsOn problem.grid problem.agents

-- a vertex conflict: both are in one cell at the tick; or a swapping conflict: they exchange their cells
-- between this tick and the next
abbrev pub ConflictAt : List ℕ → List ℕ → ℕ → Type 0
ConflictAt p q tick = (at p tick ≡ at q tick) ⊎ ((at p tick ≡ at q (tick + 1)) × (at p (tick + 1) ≡ at q tick))

-- a lawful path for each agent, and no two different agents in conflict at any tick, however late
pub record IsValid (problem : Instance) (plan : List (List ℕ)) : Type 0 where
  pub count : length plan ≡ length problem.agents
  pub lawful : (i : ℕ) (agent : Agent) (path : List ℕ) → slice_get problem.agents i ≡ Some agent →
      slice_get plan i ≡ Some path → IsLawful problem.grid agent path
  pub apart : (i j tick : ℕ) (p q : List ℕ) → i ≢ j → slice_get plan i ≡ Some p → slice_get plan j ≡ Some q →
      ConflictAt p q tick → ⊥

-- the costs of the agents' paths
pub record AreCosts (agents : List Agent) (plan : List (List ℕ)) (costs : List ℕ) : Type 0 where
  pub one_each : length plan ≡ length agents
  pub count : length costs ≡ length plan
  pub each : (i : ℕ) (agent : Agent) (path : List ℕ) (cost : ℕ) → slice_get agents i ≡ Some agent →
      slice_get plan i ≡ Some path → slice_get costs i ≡ Some cost → IsCost agent.goal path cost

-- the sum of the costs of the agents' paths
abbrev pub IsSumOfCosts : List Agent → List (List ℕ) → ℕ → Type 0
IsSumOfCosts agents plan total = (costs : List ℕ) × AreCosts agents plan costs × (total ≡ sum costs)

-- the path of some agent doesn't end at the agent's goal (own)
abbrev pub SomePathEndsElsewhere : List Agent → List (List ℕ) → Type 0
SomePathEndsElsewhere agents plan =
    (i : ℕ) × (agent : Agent) × (path : List ℕ) × (slice_get agents i ≡ Some agent) × (slice_get plan i ≡ Some path)
    × (at path (length path - 1) ≢ agent.goal)

-- no valid plan has a smaller sum (usual)
abbrev pub IsLowerBound : Instance → ℕ → Type 0
IsLowerBound problem bound =
    (plan : List (List ℕ)) → IsValid problem plan → (total : ℕ) → IsSumOfCosts problem.agents plan total → bound ≤ total

-- the plan is valid with this sum, and no valid plan has a smaller one
pub record IsOptimal (problem : Instance) (plan : List (List ℕ)) (total : ℕ) : Type 0 where
  pub valid : IsValid problem plan
  pub sum : IsSumOfCosts problem.agents plan total
  pub least : IsLowerBound problem total

-- no plan is valid: the problem is unsolvable (usual)
abbrev pub IsImpossible : Instance → Type 0
IsImpossible problem = (plan : List (List ℕ)) → IsValid problem plan → ⊥
