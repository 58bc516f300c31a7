-- A table of distances for each agent of a problem.
use Rattle.std.specs.Prelude.{◌≡◌, ℕ, List, Option, Some, length, slice_get}
use Rattle.mapf_model.specs.declared.problem.Agent.{Agent}
use Rattle.mapf_model.specs.Plan.{Instance}
use Rattle.mapf_distance.specs.Distances.{GoalMap, IsDistanceOrNone}

-- one table for each agent, of the distances to its goal
pub record AreTables (problem : Instance) (tables : List GoalMap) : Type 0 where
  pub count : length tables ≡ length problem.agents
  pub each : (i : ℕ) (agent : Agent) (table : GoalMap) → slice_get problem.agents i ≡ Some agent →
      slice_get tables i ≡ Some table → (table.grid ≡ problem.grid) × (table.goal ≡ agent.goal)

-- an element for each agent: the table of the distances to the agent's goal, or none
pub record AreMade (problem : Instance) (tables : List (Option GoalMap)) : Type 0 where
  pub places : length tables ≡ length problem.agents
  pub made : (i : ℕ) (agent : Agent) (table : GoalMap) → slice_get problem.agents i ≡ Some agent →
      slice_get tables i ≡ Some (Some table) → (table.grid ≡ problem.grid) × (table.goal ≡ agent.goal)

-- there is a table for this agent
abbrev pub HasTable : List (Option GoalMap) → ℕ → Type 0
HasTable tables agent = (table : GoalMap) × (slice_get tables agent ≡ Some (Some table))

-- for each agent the distance from its start to its goal
pub record AreStartDistances (problem : Instance) (distances : List (Option ℕ)) : Type 0 where
  pub count : length distances ≡ length problem.agents
  pub each : (i : ℕ) (agent : Agent) (distance : Option ℕ) → slice_get problem.agents i ≡ Some agent →
      slice_get distances i ≡ Some distance → IsDistanceOrNone problem.grid agent.goal agent.start distance
