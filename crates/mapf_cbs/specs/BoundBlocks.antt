-- Which blocks the nodes of a tree have: each node has the block of the agent that was replanned when the node was
-- made.
use Rattle.std.specs.Prelude.{◌≡◌, ℕ, List, [], ◌∷◌, Option, None, Some, slice_get}
use Rattle.mapf_model.specs.declared.bar.Bar.{Bar}
use Rattle.mapf_model.specs.declared.label.Label.{Label}
use Rattle.mapf_model.specs.declared.label.Label.TheVariants.{Ticks, Never}
use Rattle.mapf_model.specs.declared.problem.Agent.{Agent}
use Rattle.mapf_model.specs.Bars.{Satisfies}
use Rattle.mapf_model.specs.Blocks.{LabelBlock}
use Rattle.mapf_model.specs.Distance.{IsDistance}
use Rattle.mapf_model.specs.Grid.{GridMap}
use Rattle.mapf_model.specs.Labels.{IsLabel, entries_of}
use Rattle.mapf_model.specs.Path.{IsLawful, IsCost}
use Rattle.mapf_model.specs.Plan.{Instance}
use Rattle.mapf_model.specs.Tree.{ConstraintTree, Split, Leaf, Clash, NodeContext, root, left_constraint}
use Rattle.mapf_model.specs.Tree.{right_constraint, left_child_context, right_child_context}
use Rattle.mapf_cbs.specs.CheapestPath.{CostsLeast}

-- some lawful path of the agent that satisfies the constraints costs its distance
pub record KeepsDistance (grid : GridMap) (agent : Agent) (bars : List Bar) : Type 0 where
  pub path : List ℕ
  pub cost : ℕ
  pub lawful : IsLawful grid agent path
  pub satisfies : Satisfies bars path
  pub is_cost : IsCost agent.goal path cost
  pub distance : IsDistance grid agent.goal agent.start cost

-- some lawful path of the agent that satisfies the constraints has this cost, and none costs less
pub record IsLeastCost (grid : GridMap) (agent : Agent) (bars : List Bar) (cost : ℕ) : Type 0 where
  pub path : List ℕ
  pub lawful : IsLawful grid agent path
  pub satisfies : Satisfies bars path
  pub is_cost : IsCost agent.goal path cost
  pub least : CostsLeast grid agent bars cost

-- the agent's least cost under the constraints as a label: infinite if no lawful path satisfies them
abbrev pub IsLeastLabel : GridMap → Agent → List Bar → Label → Type 0
IsLeastLabel grid agent bars (Ticks cost) = IsLeastCost grid agent bars cost
IsLeastLabel grid agent bars Never = (path : List ℕ) → IsLawful grid agent path → Satisfies bars path → ⊥

-- a block of this agent, in which the label of the start is the agent's least cost, if this is greater than its
-- distance; else none
abbrev pub AreBlocksOfBound : GridMap → Agent → List Bar → ℕ → List LabelBlock → Type 0
AreBlocksOfBound grid agent bars replanned [] = KeepsDistance grid agent bars
AreBlocksOfBound grid agent bars replanned (block ∷ []) =
    (block.agent ≡ replanned) × (KeepsDistance grid agent bars → ⊥)
    × (label : Label) × IsLeastLabel grid agent bars label
    × IsLabel grid agent.goal (entries_of block.entries) agent.start 0 label
AreBlocksOfBound grid agent bars replanned (block ∷ other ∷ blocks) = ⊥

-- the blocks of a node at which this agent was replanned; the root, at which none was, has none
abbrev pub AreBlocksFor : Instance → NodeContext → Option ℕ → List LabelBlock → Type 0
AreBlocksFor problem context None blocks = blocks ≡ []
AreBlocksFor problem context (Some replanned) blocks =
    (agent : Agent) × (slice_get problem.agents replanned ≡ Some agent)
    × AreBlocksOfBound problem.grid agent (context.bars replanned) replanned blocks

-- the same of each node of a tree at whose root this agent was replanned: at each child of a split the agent of its
-- constraint is replanned
abbrev pub CarriesBlocksFor : Instance → NodeContext → Option ℕ → ConstraintTree → Type 0
CarriesBlocksFor problem context replanned (Split conflict blocks left right) =
    AreBlocksFor problem context replanned blocks
    × CarriesBlocksFor problem (left_child_context context conflict blocks) (Some (left_constraint conflict).agent) left
    × CarriesBlocksFor problem (right_child_context context conflict blocks) (Some (right_constraint conflict).agent)
    right
CarriesBlocksFor problem context replanned (Leaf blocks) = AreBlocksFor problem context replanned blocks
CarriesBlocksFor problem context replanned (Clash i j) = Unit {0}

-- each node has a block of the agent that was replanned there, if its least cost is greater than its distance, with
-- this cost as the label of the start, and no other block
abbrev pub CarriesBoundBlocks : Instance → ConstraintTree → Type 0
CarriesBoundBlocks problem tree = CarriesBlocksFor problem root None tree
