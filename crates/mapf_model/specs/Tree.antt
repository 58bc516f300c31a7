-- Constraint trees and what they show. (Sharon et al. 2015: the constraint tree; what one shows is own)
use Rattle.std.specs.Prelude.{◌≡◌, ◌≢◌, ◌⊎◌, ℕ, ◌+◌, ◌<◌, ◌==◌, if◌then◌else◌, List, [], ◌∷◌, ◌++◌, Option, None, Some}
use Rattle.std.specs.Prelude.{length, slice_get, find, AllPairs, All, map}
use Rattle.std.specs.List.{AllZip}
use Rattle.mapf_model.specs.declared.bar.Bar.{Bar}
use Rattle.mapf_model.specs.declared.bar.Bar.TheVariants.{Cell, Move}
use Rattle.mapf_model.specs.declared.problem.Agent.{Agent}
use Rattle.mapf_model.specs.declared.label.Label.{Label}
use Rattle.mapf_model.specs.declared.label.Label.TheVariants.{Ticks, Never}
use Rattle.mapf_model.specs.Blocks.{LabelBlock}
use Rattle.mapf_model.specs.declared.conflict.Conflict.{Conflict}
use Rattle.mapf_model.specs.declared.conflict.Conflict.TheVariants.{Vertex, Swap}
use Rattle.mapf_model.specs.declared.constraint.Constraint.{Constraint}
use Rattle.mapf_model.specs.declared.item.Claim.{Claim}
use Rattle.mapf_model.specs.declared.item.Claim.TheVariants.{Cost, Bound, Impossible}
use Rattle.mapf_model.specs.declared.item.Item.{Item}
use Rattle.mapf_model.specs.declared.item.Item.TheVariants.{Vertex as VertexItem, Swap as SwapItem, Leaf as LeafItem}
use Rattle.mapf_model.specs.declared.item.Item.TheVariants.{Clash as ClashItem}
use Rattle.mapf_model.specs.Grid.{IsFree, AreAdjacent}
use Rattle.mapf_model.specs.Bars.{Satisfies}
use Rattle.mapf_model.specs.Labels.{Entries, entries_of, AreSound, IsLabel, IsAtMost, label_sum}
use Rattle.mapf_model.specs.Plan.{Instance, IsLowerBound, IsImpossible}

-- a split on a conflict with blocks of labels and two children, a leaf with blocks of labels, or a terminal node that
-- names two agents with the same goal
pub data ConstraintTree : Type 0 where
  Split : (conflict : Conflict) → (blocks : List LabelBlock) → (left right : ConstraintTree) → ConstraintTree
  Leaf : (blocks : List LabelBlock) → ConstraintTree
  Clash : (i j : ℕ) → ConstraintTree

-- a node without its children
pub data Node : Type 0 where
  SplitNode : (conflict : Conflict) → (blocks : List LabelBlock) → Node
  LeafNode : (blocks : List LabelBlock) → Node
  ClashNode : (i j : ℕ) → Node

-- the blocks of a node; a clash has none
abbrev pub blocks_of : Node → List LabelBlock
blocks_of (SplitNode conflict blocks) = blocks
blocks_of (LeafNode blocks) = blocks
blocks_of (ClashNode i j) = []

-- the node that an item gives
abbrev pub node_of : Item → Node
node_of (VertexItem i j cell tick blocks) = SplitNode (Vertex i j cell tick) blocks.items
node_of (SwapItem i j from to tick blocks) = SplitNode (Swap i j from to tick) blocks.items
node_of (LeafItem blocks) = LeafNode blocks.items
node_of (ClashItem i j) = ClashNode i j

-- the nodes of a tree in pre-order
abbrev pub nodes_of : ConstraintTree → List Node
nodes_of (Split conflict blocks left right) = SplitNode conflict blocks ∷ (nodes_of left ++ nodes_of right)
nodes_of (Leaf blocks) = LeafNode blocks ∷ []
nodes_of (Clash i j) = ClashNode i j ∷ []

-- the items spell the tree
abbrev pub Spell : List Item → ConstraintTree → Type 0
Spell items tree = map node_of items ≡ nodes_of tree

-- the agent's block, the first if there are several
abbrev pub block_of : List LabelBlock → ℕ → Option LabelBlock
block_of blocks agent = find (λ block. block.agent == agent) blocks

-- the entries of the block if there is one, else those inherited
abbrev pub entries_or : Option LabelBlock → Entries → Entries
entries_or (Some block) before = entries_of block.entries
entries_or None before = before

-- each agent's entries at a node with these blocks: those of its block here, else those inherited
abbrev pub with_blocks : List LabelBlock → (ℕ → Entries) → ℕ → Entries
with_blocks blocks before agent = entries_or (block_of blocks agent) (before agent)

-- no agent has an entry
abbrev pub no_entries : ℕ → Entries
no_entries agent cell tick = None

-- what a node inherits: each agent's constraints, the one with which this node was made included, and the entries of
-- each agent's nearest block above it, none if there is no block
pub record NodeContext : Type 0 where
  pub bars : ℕ → List Bar
  pub entries : ℕ → Entries

-- the root inherits nothing
abbrev pub root : NodeContext
root = record { bars = λ agent. []; entries = no_entries }

-- the constraints, with one more for this agent
abbrev pub with_bar : (ℕ → List Bar) → ℕ → Bar → ℕ → List Bar
with_bar bars i bar agent = if agent == i then bar ∷ bars agent else bars agent

-- the constraints, with one more
abbrev pub with_constraint : (ℕ → List Bar) → Constraint → ℕ → List Bar
with_constraint bars constraint = with_bar bars constraint.agent constraint.bar

-- the constraint of a split's left child: the first agent may not take part in the conflict
abbrev pub left_constraint : Conflict → Constraint
left_constraint (Vertex i j cell tick) = record { agent = i; bar = Cell cell tick }
left_constraint (Swap i j from to tick) = record { agent = i; bar = Move from to tick }

-- the constraint of its right child: the second agent may not take part
abbrev pub right_constraint : Conflict → Constraint
right_constraint (Vertex i j cell tick) = record { agent = j; bar = Cell cell tick }
right_constraint (Swap i j from to tick) = record { agent = j; bar = Move to from tick }

-- what a child of a split inherits: one more constraint, and the split's blocks in place of those of the same agents
-- above
abbrev pub child_context : NodeContext → List LabelBlock → Constraint → NodeContext
child_context context blocks constraint =
    record { bars = with_constraint context.bars constraint; entries = with_blocks blocks context.entries }

-- what the left child inherits
abbrev pub left_child_context : NodeContext → Conflict → List LabelBlock → NodeContext
left_child_context context conflict blocks = child_context context blocks (left_constraint conflict)

-- what the right child inherits
abbrev pub right_child_context : NodeContext → Conflict → List LabelBlock → NodeContext
right_child_context context conflict blocks = child_context context blocks (right_constraint conflict)

-- a property holds at each node of a tree, of the node's context
abbrev pub AtEachNode : (NodeContext → ConstraintTree → Type 0) → NodeContext → ConstraintTree → Type 0
AtEachNode P context (Split conflict blocks left right) =
    P context (Split conflict blocks left right) × AtEachNode P (left_child_context context conflict blocks) left
    × AtEachNode P (right_child_context context conflict blocks) right
AtEachNode P context (Leaf blocks) = P context (Leaf blocks)
AtEachNode P context (Clash i j) = P context (Clash i j)

-- a property holds of the context of each terminal node: each leaf and each clash
abbrev pub AtEachEnd : (NodeContext → Type 0) → NodeContext → ConstraintTree → Type 0
AtEachEnd P context (Split conflict blocks left right) =
    AtEachEnd P (left_child_context context conflict blocks) left
    × AtEachEnd P (right_child_context context conflict blocks) right
AtEachEnd P context (Leaf blocks) = P context
AtEachEnd P context (Clash i j) = P context

-- a property holds of the context of some terminal node
abbrev pub AtSomeEnd : (NodeContext → Type 0) → NodeContext → ConstraintTree → Type 0
AtSomeEnd P context (Split conflict blocks left right) =
    AtSomeEnd P (left_child_context context conflict blocks) left
    ⊎ AtSomeEnd P (right_child_context context conflict blocks) right
AtSomeEnd P context (Leaf blocks) = P context
AtSomeEnd P context (Clash i j) = P context

-- a property holds of the context and the blocks of some leaf
abbrev pub AtSomeLeaf : (NodeContext → List LabelBlock → Type 0) → NodeContext → ConstraintTree → Type 0
AtSomeLeaf P context (Split conflict blocks left right) =
    AtSomeLeaf P (left_child_context context conflict blocks) left
    ⊎ AtSomeLeaf P (right_child_context context conflict blocks) right
AtSomeLeaf P context (Leaf blocks) = P context blocks
AtSomeLeaf P context (Clash i j) = ⊥

-- no split has a block: a tree of version 1 of the certificate
abbrev pub HasBlocksAtLeavesAlone : ConstraintTree → Type 0
HasBlocksAtLeavesAlone (Split conflict blocks left right) =
    (blocks ≡ []) × HasBlocksAtLeavesAlone left × HasBlocksAtLeavesAlone right
HasBlocksAtLeavesAlone (Leaf blocks) = Unit {0}
HasBlocksAtLeavesAlone (Clash i j) = Unit {0}

-- how many splits the tree has
abbrev pub split_count : ConstraintTree → ℕ
split_count (Split conflict blocks left right) = 1 + (split_count left + split_count right)
split_count (Leaf blocks) = 0
split_count (Clash i j) = 0

-- two different agents of the problem
abbrev pub AreTwoAgents : Instance → ℕ → ℕ → Type 0
AreTwoAgents problem i j = (i ≢ j) × (i < length problem.agents) × (j < length problem.agents)

-- a split names two different agents, and a free cell or two adjacent ones
abbrev pub IsProperSplit : Instance → Conflict → Type 0
IsProperSplit problem (Vertex i j cell tick) = AreTwoAgents problem i j × IsFree problem.grid cell
IsProperSplit problem (Swap i j from to tick) = AreTwoAgents problem i j × AreAdjacent problem.grid from to

-- each agent has at most one block
abbrev pub AreOfDifferentAgents : List LabelBlock → Type 0
AreOfDifferentAgents blocks = AllPairs (λ a b. a.agent ≢ b.agent) blocks

-- each block is of an agent of the problem
abbrev pub AreOfAgents : Instance → List LabelBlock → Type 0
AreOfAgents problem blocks = All (λ block. block.agent < length problem.agents) blocks

-- each agent of the problem has at most one block, and no other agent has one
abbrev pub AreProperBlocks : Instance → List LabelBlock → Type 0
AreProperBlocks problem blocks = AreOfDifferentAgents blocks × AreOfAgents problem blocks

-- a split names a proper conflict, and the blocks of a split or a leaf are proper; a clash always is proper
abbrev pub IsProperNode : Instance → ConstraintTree → Type 0
IsProperNode problem (Split conflict blocks left right) =
    IsProperSplit problem conflict × AreProperBlocks problem blocks
IsProperNode problem (Leaf blocks) = AreProperBlocks problem blocks
IsProperNode problem (Clash i j) = Unit {0}

-- each node is proper
abbrev pub IsProper : Instance → ConstraintTree → Type 0
IsProper problem tree = AtEachNode (λ context node. IsProperNode problem node) root tree

-- of each agent of the problem, the block, the first if there are several, is sound under the agent's constraints
abbrev pub AreBlocksSound : Instance → NodeContext → List LabelBlock → Type 0
AreBlocksSound problem context blocks =
    (i : ℕ) (agent : Agent) (block : LabelBlock) → slice_get problem.agents i ≡ Some agent →
    block_of blocks i ≡ Some block → AreSound problem.grid agent.goal (context.bars i) (entries_of block.entries)

-- the labels of the agents' starts at tick 0
pub record AreStartLabels (problem : Instance) (entries : ℕ → Entries) (labels : List Label) : Type 0 where
  pub count : length labels ≡ length problem.agents
  pub each : (i : ℕ) (agent : Agent) (label : Label) → slice_get problem.agents i ≡ Some agent →
      slice_get labels i ≡ Some label → IsLabel problem.grid agent.goal (entries i) agent.start 0 label

-- the labels of the starts add up to at least this
abbrev pub StartsReach : Instance → ℕ → (ℕ → Entries) → Type 0
StartsReach problem total entries =
    (labels : List Label) × AreStartLabels problem entries labels × IsAtMost (Ticks total) (label_sum labels)

-- the labels of the starts add up to exactly this
abbrev pub StartsAddUpTo : Instance → ℕ → (ℕ → Entries) → Type 0
StartsAddUpTo problem total entries =
    (labels : List Label) × AreStartLabels problem entries labels × (label_sum labels ≡ Ticks total)

-- the labels of the starts show the claim
abbrev pub StartsShow : Instance → Claim → (ℕ → Entries) → Type 0
StartsShow problem (Cost cost) entries = StartsReach problem cost entries
StartsShow problem (Bound bound) entries = StartsReach problem bound entries
StartsShow problem Impossible entries =
    (i : ℕ) × (agent : Agent) × (slice_get problem.agents i ≡ Some agent)
    × IsLabel problem.grid agent.goal (entries i) agent.start 0 Never

-- two different agents have the same goal
abbrev pub ShareGoal : Instance → ℕ → ℕ → Type 0
ShareGoal problem i j =
    (i ≢ j) × (a : Agent) × (b : Agent) × (slice_get problem.agents i ≡ Some a) × (slice_get problem.agents j ≡ Some b)
    × (a.goal ≡ b.goal)

-- the blocks of a split or a leaf are sound under the node's own constraints, without those that its children add; at a
-- leaf the labels of the starts show the claim, each by the agent's nearest block, the leaf's included; the agents of a
-- clash share their goal
abbrev pub NodeShows : Instance → Claim → NodeContext → ConstraintTree → Type 0
NodeShows problem claim context (Split conflict blocks left right) = AreBlocksSound problem context blocks
NodeShows problem claim context (Leaf blocks) =
    AreBlocksSound problem context blocks × StartsShow problem claim (with_blocks blocks context.entries)
NodeShows problem claim context (Clash i j) = ShareGoal problem i j

-- what a split has to meet apart from its children: its conflict and its blocks are proper, and the blocks are sound
abbrev pub SplitShows : Instance → NodeContext → Conflict → List LabelBlock → Type 0
SplitShows problem context conflict blocks =
    (IsProperSplit problem conflict × AreProperBlocks problem blocks) × AreBlocksSound problem context blocks

-- the tree shows the claim if its root has this context
pub record ShowsFrom (problem : Instance) (claim : Claim) (context : NodeContext) (tree : ConstraintTree) : Type 0 where
  pub proper : AtEachNode (λ context node. IsProperNode problem node) context tree
  pub nodes : AtEachNode (NodeShows problem claim) context tree

-- the tree shows the claim
abbrev pub Shows : Instance → Claim → ConstraintTree → Type 0
Shows problem claim tree = ShowsFrom problem claim root tree

-- what a claim says of the problem
abbrev pub Holds : Instance → Claim → Type 0
Holds problem (Cost cost) = IsLowerBound problem cost
Holds problem (Bound bound) = IsLowerBound problem bound
Holds problem Impossible = IsImpossible problem

-- each agent's path satisfies its constraints
abbrev pub AllSatisfy : List (List ℕ) → (ℕ → List Bar) → Type 0
AllSatisfy plan bars = (i : ℕ) (path : List ℕ) → slice_get plan i ≡ Some path → Satisfies (bars i) path

-- the nodes of several trees, one after another
abbrev pub nodes_of_all : List ConstraintTree → List Node
nodes_of_all [] = []
nodes_of_all (tree ∷ trees) = nodes_of tree ++ nodes_of_all trees

-- the nodes are those of trees that show the claim, one tree for each of these contexts
abbrev pub NodesShow : Instance → Claim → List NodeContext → List Node → Type 0
NodesShow problem claim pending nodes =
    (trees : List ConstraintTree) × (nodes ≡ nodes_of_all trees) × AllZip (ShowsFrom problem claim) pending trees
