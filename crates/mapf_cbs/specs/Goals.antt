-- What the goals show before any search.
use Rattle.std.specs.Prelude.{◌≡◌, ℕ, ◌<◌, [], Some, slice_get}
use Rattle.mapf_model.specs.declared.problem.Agent.{Agent}
use Rattle.mapf_model.specs.Distance.{IsUnreachable}
use Rattle.mapf_model.specs.Plan.{Instance}
use Rattle.mapf_model.specs.Tree.{ConstraintTree, Leaf, Clash, ShareGoal}
use Rattle.mapf_conflicts.specs.Pairs.{AreLess}

-- no two agents have the same goal
abbrev pub HaveDifferentGoals : Instance → Type 0
HaveDifferentGoals problem = (i j : ℕ) → ShareGoal problem i j → ⊥

-- the first two agents with the same goal: the pair of the least first agent, and of these the one of the least second
-- agent
pub record IsFirstSharingPair (problem : Instance) (i j : ℕ) : Type 0 where
  pub order : i < j
  pub shared : ShareGoal problem i j
  pub first : (a b : ℕ) → a < b → ShareGoal problem a b → AreLess a b i j → ⊥

-- some agent can't reach its goal
abbrev pub SomeGoalIsUnreachable : Instance → Type 0
SomeGoalIsUnreachable problem = (i : ℕ) × (agent : Agent) × (slice_get problem.agents i ≡ Some agent)
    × IsUnreachable problem.grid agent.goal agent.start

-- if two agents have the same goal the tree is one clash, of the first two such agents; else, if some goal can't be
-- reached, it is one leaf without blocks
pub record NamesFirstDefect (problem : Instance) (tree : ConstraintTree) : Type 0 where
  pub clash : (i j : ℕ) → IsFirstSharingPair problem i j → tree ≡ Clash i j
  pub leaf : HaveDifferentGoals problem → SomeGoalIsUnreachable problem → tree ≡ Leaf []
