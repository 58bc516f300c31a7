-- The nodes of a tree of cases, one after another in pre-order.
use Rattle.std.specs.Prelude.{◌≡◌, ℕ, List, [], ◌∷◌, ◌++◌}
use Rattle.std.specs.List.{AllZip}
use Rattle.mapf_lemmas.specs.declared.constraint.PathConstraint.{PathConstraint}
use Rattle.mapf_lemmas.specs.declared.split.Split.{Split}
use Rattle.mapf_lemmas.specs.Cases.{CaseTree, Branch, Leaf, Clash, IsProperSplit, TreeShows}
use Rattle.mapf_lemmas.specs.Cases.{left_constraints, right_constraints}
use Rattle.mapf_lemmas.specs.Groups.{Scope, LeafUses, LeafShows}
use Rattle.mapf_model.specs.declared.label.Label.{Label}
use Rattle.mapf_model.specs.Plan.{Instance}
use Rattle.mapf_model.specs.Tree.{ShareGoal}

-- a node without its children
pub data CaseNode : Type 0 where
  BranchNode : (split : Split) → CaseNode
  LeafNode : (uses : LeafUses) → CaseNode
  ClashNode : (i j : ℕ) → CaseNode

-- the nodes of a tree in pre-order
abbrev pub nodes_of : CaseTree → List CaseNode
nodes_of (Branch split left right) = BranchNode split ∷ (nodes_of left ++ nodes_of right)
nodes_of (Leaf uses) = LeafNode uses ∷ []
nodes_of (Clash i j) = ClashNode i j ∷ []

-- the nodes of several trees, one after another
abbrev pub nodes_of_all : List CaseTree → List CaseNode
nodes_of_all [] = []
nodes_of_all (tree ∷ trees) = nodes_of tree ++ nodes_of_all trees

-- the constraints of each agent that stand at a node
abbrev pub Context : Type 0
Context = ℕ → List PathConstraint

-- the nodes are those of trees that show the target, one tree for each of these contexts
abbrev pub NodesShow : Scope → Label → List Context → List CaseNode → Type 0
NodesShow scope target pending nodes =
    (trees : List CaseTree) × (nodes ≡ nodes_of_all trees) × AllZip (TreeShows scope target) pending trees

-- what is to be read after a node: after a split its children, and then the rest
abbrev pub contexts_after : Instance → List Context → CaseNode → List Context
contexts_after problem [] node = []
contexts_after problem (here ∷ pending) (BranchNode split) =
    left_constraints problem here split ∷ right_constraints here split ∷ pending
contexts_after problem (here ∷ pending) other = pending

-- what a node has to meet apart from its children
abbrev pub IsGoodNode : Scope → Label → Context → CaseNode → Type 0
IsGoodNode scope target here (BranchNode split) = IsProperSplit scope here split
IsGoodNode scope target here (LeafNode uses) = LeafShows scope here uses target
IsGoodNode scope target here (ClashNode i j) = ShareGoal scope.problem i j
