-- The laws of the definitions.
use Rattle.std.specs.Prelude.{◌≡◌, ◌≢◌, ◌↔◌, ℕ, ◌+◌, ◌-◌, ◌<◌, List, [], ◌∷◌, Some, None, length, slice_index}
use Rattle.std.specs.Prelude.{slice_get, Contains, AllPairs}
use Rattle.mapf_model.specs.declared.bar.Bar.{Bar}
use Rattle.mapf_model.specs.declared.problem.Agent.{Agent}
use Rattle.mapf_model.specs.Blocks.{LabelBlock}
use Rattle.mapf_model.specs.declared.constraint.Constraint.{Constraint}
use Rattle.mapf_model.specs.declared.item.Claim.{Claim}
use Rattle.mapf_model.specs.declared.item.Claim.TheVariants.{Impossible}
use Rattle.mapf_model.specs.declared.conflict.Conflict.{Conflict}
use Rattle.mapf_model.specs.declared.label.Entry.{Entry}
use Rattle.mapf_model.specs.declared.label.Label.{Label}
use Rattle.mapf_model.specs.declared.label.Label.TheVariants.{Ticks, Never}
use Rattle.mapf_model.specs.Grid.{GridMap, IsFree, Step}
use Rattle.mapf_model.specs.Path.{IsPath, IsLawful, IsCost, IsTight}
use Rattle.mapf_model.specs.Printed.{IsBefore}
use Rattle.mapf_model.specs.Bars.{Satisfies}
use Rattle.mapf_model.specs.Labels.{Entries, entries_of, AreSound, IsLabel, IsAtMost, label_sum}
use Rattle.mapf_model.specs.Plan.{Instance, IsValid, IsSumOfCosts}
use Rattle.mapf_model.specs.Tree.{ConstraintTree, Leaf, NodeContext, IsProper, SplitShows, HasBlocksAtLeavesAlone}
use Rattle.mapf_model.specs.Tree.{AtEachNode, AtSomeEnd, AllSatisfy, root, child_context, left_child_context}
use Rattle.mapf_model.specs.Tree.{right_child_context, Node, SplitNode, LeafNode, ClashNode, nodes_of, AreStartLabels}
use Rattle.mapf_model.specs.Tree.{StartsReach, StartsShow, ShareGoal, ShowsFrom, NodesShow, Shows, Holds}

-- under sound labels each lawful path that satisfies the constraints costs at least the label of the start
abbrev pub LabelBound : Type 0
LabelBound =
    (grid : GridMap) (agent : Agent) (bars : List Bar) (entries : Entries) (path : List ℕ) (cost : ℕ) (label : Label) →
    AreSound grid agent.goal bars entries →
    IsLabel grid agent.goal entries agent.start 0 label →
    IsLawful grid agent path → Satisfies bars path → IsCost agent.goal path cost →
    IsAtMost label (Ticks cost)

-- if that label is `Never` there is no such path
abbrev pub NeverMeansNone : Type 0
NeverMeansNone =
    (grid : GridMap) (agent : Agent) (bars : List Bar) (entries : Entries) (path : List ℕ) →
    AreSound grid agent.goal bars entries →
    IsLabel grid agent.goal entries agent.start 0 Never →
    IsLawful grid agent path → Satisfies bars path → ⊥

-- each valid plan satisfies the constraints of some terminal node of a proper tree: of a leaf or of a clash
abbrev pub SplitsLoseNoPlan : Type 0
SplitsLoseNoPlan =
    (problem : Instance) (tree : ConstraintTree) (plan : List (List ℕ)) →
    IsProper problem tree → IsValid problem plan →
    AtSomeEnd (λ context. AllSatisfy plan context.bars) root tree

-- what a tree shows is true
abbrev pub ShownClaimsHold : Type 0
ShownClaimsHold =
    (problem : Instance) (claim : Claim) (tree : ConstraintTree) → Shows problem claim tree → Holds problem claim

-- how nodes are judged in pre-order, with a stack of the contexts of the subtrees that are still to come
pub record NodesShowByFront (problem : Instance) (claim : Claim) : Type 0 where
  pub whole : (items : List Node) → NodesShow problem claim (root ∷ []) items ↔
      ((tree : ConstraintTree) × (items ≡ nodes_of tree) × ShowsFrom problem claim root tree)
  pub over : NodesShow problem claim [] []
  pub missing : (context : NodeContext) (pending : List NodeContext) → NodesShow problem claim (context ∷ pending) [] →
      ⊥
  pub unowed : (item : Node) (items : List Node) → NodesShow problem claim [] (item ∷ items) → ⊥
  pub at_split : (context : NodeContext) (pending : List NodeContext) (conflict : Conflict) (blocks : List LabelBlock)
      (items : List Node) →
      NodesShow problem claim (context ∷ pending) (SplitNode conflict blocks ∷ items) ↔
      (SplitShows problem context conflict blocks
      × NodesShow problem claim (left_child_context context conflict blocks
      ∷ right_child_context context conflict blocks ∷ pending) items)
  pub at_leaf : (context : NodeContext) (pending : List NodeContext) (blocks : List LabelBlock) (items : List Node) →
      NodesShow problem claim (context ∷ pending) (LeafNode blocks ∷ items) ↔
      (ShowsFrom problem claim context (Leaf blocks) × NodesShow problem claim pending items)
  pub at_clash : (context : NodeContext) (pending : List NodeContext) (i j : ℕ) (items : List Node) →
      NodesShow problem claim (context ∷ pending) (ClashNode i j ∷ items) ↔
      (ShareGoal problem i j × NodesShow problem claim pending items)

-- a list of items can be judged in pre-order
abbrev pub FrontDecides : Type 0
FrontDecides = (problem : Instance) (claim : Claim) → NodesShowByFront problem claim

-- a list of items spells at most one tree
abbrev pub TreeIsUnique : Type 0
TreeIsUnique = (s t : ConstraintTree) → nodes_of s ≡ nodes_of t → s ≡ t

-- a state has one label
abbrev pub LabelIsUnique : Type 0
LabelIsUnique =
    (grid : GridMap) (goal : ℕ) (entries : Entries) (cell tick : ℕ) (a b : Label) →
    IsLabel grid goal entries cell tick a → IsLabel grid goal entries cell tick b → a ≡ b

-- so the labels of the starts decide whether they add up to at least a number, which is how a cost or a bound is shown
abbrev pub StartLabelsDecide : Type 0
StartLabelsDecide =
    (problem : Instance) (entries : ℕ → Entries) (labels : List Label) (total : ℕ) →
    AreStartLabels problem entries labels →
    StartsReach problem total entries ↔ IsAtMost (Ticks total) (label_sum labels)

-- and they decide whether they show that no plan is valid
abbrev pub StartLabelsDecideImpossible : Type 0
StartLabelsDecideImpossible =
    (problem : Instance) (entries : ℕ → Entries) (labels : List Label) → AreStartLabels problem entries labels →
    StartsShow problem Impossible entries ↔ Contains labels Never

-- a nonempty list of free cells in which each two consecutive cells are a step
pub record IsPathByNeighbours (grid : GridMap) (path : List ℕ) : Type 0 where
  pub nonempty : path ≢ []
  pub first : IsFree grid (slice_index path 0)
  pub neighbours : (k : ℕ) → k + 1 < length path → Step grid (slice_index path k) (slice_index path (k + 1))

-- the paths are exactly these lists
abbrev pub NeighboursMakePaths : Type 0
NeighboursMakePaths = (grid : GridMap) (path : List ℕ) → IsPath grid path ↔ IsPathByNeighbours grid path

-- a path has one cost
abbrev pub CostIsUnique : Type 0
CostIsUnique = (goal : ℕ) (path : List ℕ) (a b : ℕ) → IsCost goal path a → IsCost goal path b → a ≡ b

-- each valid plan has one sum
pub record ValidPlansHaveOneSum (problem : Instance) (plan : List (List ℕ)) : Type 0 where
  pub some : (total : ℕ) × IsSumOfCosts problem.agents plan total
  pub one : (a b : ℕ) → IsSumOfCosts problem.agents plan a → IsSumOfCosts problem.agents plan b → a ≡ b

-- a valid plan has exactly one sum of costs
abbrev pub SumsAreOne : Type 0
SumsAreOne = (problem : Instance) (plan : List (List ℕ)) → IsValid problem plan → ValidPlansHaveOneSum problem plan

-- the two lists have the same constraints, in any order
abbrev pub AreSameBars : List Bar → List Bar → Type 0
AreSameBars xs ys = (bar : Bar) → Contains xs bar ↔ Contains ys bar

-- what is said of a list of constraints depends on its set alone
pub record BarsAreASet (xs ys : List Bar) : Type 0 where
  pub obeys : (path : List ℕ) → Satisfies xs path → Satisfies ys path
  pub sound : (grid : GridMap) (goal : ℕ) (entries : Entries) → AreSound grid goal xs entries →
      AreSound grid goal ys entries

-- of two lists of the same constraints, what holds under the one holds under the other
abbrev pub OnlyMembershipCounts : Type 0
OnlyMembershipCounts = (xs ys : List Bar) → AreSameBars xs ys → BarsAreASet xs ys

-- a path without trailing waits costs its steps
abbrev pub TightPathsCostTheirSteps : Type 0
TightPathsCostTheirSteps =
    (grid : GridMap) (agent : Agent) (path : List ℕ) → IsLawful grid agent path → IsTight path →
    IsCost agent.goal path (length path - 1)

-- in a list in rising order, the label of a state is the one that the list gives it
abbrev pub ListedLabelsAreFound : Type 0
ListedLabelsAreFound =
    (entries : List Entry) → AllPairs IsBefore entries → (cell tick : ℕ) (label : Label) →
    (entries_of entries cell tick ≡ Some label) ↔ Contains entries (record { cell = cell; tick = tick; label = label })

-- contexts that no tree distinguishes: the same constraints, and for each agent of the problem the same entry of its
-- start at tick 0
pub record AreAlike (problem : Instance) (a b : NodeContext) : Type 0 where
  pub bars : a.bars ≡ b.bars
  pub starts : (i : ℕ) (agent : Agent) → slice_get problem.agents i ≡ Some agent →
      a.entries i agent.start 0 ≡ b.entries i agent.start 0

-- of the entries that a node inherits only those of the starts at tick 0 matter
abbrev pub OnlyStartEntriesCount : Type 0
OnlyStartEntriesCount =
    (problem : Instance) (claim : Claim) (a b : NodeContext) (tree : ConstraintTree) → AreAlike problem a b →
    ShowsFrom problem claim a tree → ShowsFrom problem claim b tree

-- alike contexts have alike children
abbrev pub ChildrenAreAlike : Type 0
ChildrenAreAlike =
    (problem : Instance) (a b : NodeContext) (blocks : List LabelBlock) (constraint : Constraint) →
    AreAlike problem a b → AreAlike problem (child_context a blocks constraint) (child_context b blocks constraint)

-- if no split has a block no node inherits an entry: each leaf is judged by its own blocks alone
abbrev pub OnlySplitsHandOnEntries : Type 0
OnlySplitsHandOnEntries =
    (tree : ConstraintTree) → HasBlocksAtLeavesAlone tree →
    AtEachNode (λ context node. (agent cell tick : ℕ) → context.entries agent cell tick ≡ None) root tree
