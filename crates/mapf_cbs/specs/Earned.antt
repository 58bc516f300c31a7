-- Trees whose splits name conflicts of the least tick of cheapest paths, at nodes with a sum of costs no greater than
-- that of any terminal node: what best-first expansion makes. (Sharon et al. 2015: least sum first; the terms are own)
use Rattle.std.specs.Prelude.{◌≡◌, ℕ, ◌≤◌, List, Some, length, slice_get}
use Rattle.mapf_model.specs.declared.problem.Agent.{Agent}
use Rattle.mapf_model.specs.Bars.{Satisfies}
use Rattle.mapf_model.specs.Conflicts.{HasConflict, AreConflictFreeBefore, tick_of}
use Rattle.mapf_model.specs.Path.{IsLawful, IsCost}
use Rattle.mapf_model.specs.Plan.{Instance, IsSumOfCosts}
use Rattle.mapf_model.specs.Tree.{ConstraintTree, Split, Leaf, Clash, NodeContext, root, IsProper, AtEachNode}
use Rattle.mapf_model.specs.Tree.{AtEachEnd}
use Rattle.mapf_cbs.specs.CheapestPath.{CostsLeast}

-- a lawful path of the agent that satisfies its constraints
abbrev pub IsConsistentPath : Instance → NodeContext → ℕ → Agent → List ℕ → Type 0
IsConsistentPath problem context i agent path = IsLawful problem.grid agent path × Satisfies (context.bars i) path

-- for each agent a path of least cost among its consistent ones: a node's solution
pub record AreCheapest (problem : Instance) (context : NodeContext) (paths : List (List ℕ)) : Type 0 where
  pub count : length paths ≡ length problem.agents
  pub lawful : (i : ℕ) (agent : Agent) (path : List ℕ) → slice_get problem.agents i ≡ Some agent →
      slice_get paths i ≡ Some path → IsConsistentPath problem context i agent path
  pub least : (i : ℕ) (agent : Agent) (path : List ℕ) (cost : ℕ) → slice_get problem.agents i ≡ Some agent →
      slice_get paths i ≡ Some path → IsCost agent.goal path cost →
      CostsLeast problem.grid agent (context.bars i) cost

-- cheapest paths at this node, with a sum of costs no greater than that of any terminal node
pub record AreDue (problem : Instance) (tree : ConstraintTree) (context : NodeContext) (paths : List (List ℕ))
    (total : ℕ) : Type 0 where
  pub cheapest : AreCheapest problem context paths
  pub sum : IsSumOfCosts problem.agents paths total
  pub least : AtEachEnd (λ end_context. (others : List (List ℕ)) (other_total : ℕ) →
      AreCheapest problem end_context others → IsSumOfCosts problem.agents others other_total →
      total ≤ other_total) root tree

-- a split names a conflict of due paths, and none has an earlier tick
abbrev pub IsEarnedNode : Instance → ConstraintTree → NodeContext → ConstraintTree → Type 0
IsEarnedNode problem tree context (Split conflict blocks left right) =
    (paths : List (List ℕ)) × (total : ℕ) × AreDue problem tree context paths total × HasConflict paths conflict
    × AreConflictFreeBefore paths (tick_of conflict)
IsEarnedNode problem tree context (Leaf blocks) = Unit {0}
IsEarnedNode problem tree context (Clash i j) = Unit {0}

-- a proper tree of which each split is earned
pub record IsEarned (problem : Instance) (tree : ConstraintTree) : Type 0 where
  pub proper : IsProper problem tree
  pub splits : AtEachNode (IsEarnedNode problem tree) root tree
