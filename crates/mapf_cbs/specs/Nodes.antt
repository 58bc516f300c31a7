-- Delta nodes, and the state that each denotes.
use Rattle.std.specs.Prelude.{◌≡◌, ◌⊎◌, ℕ, ◌<◌, ◌≤◌, List, [], Some, length, slice_get, Contains}
use Rattle.mapf_model.specs.declared.bar.Bar.{Bar}
use Rattle.mapf_model.specs.declared.constraint.Constraint.{Constraint}
use Rattle.mapf_model.specs.Limits.{most_agents}
use Rattle.mapf_model.specs.Tree.{root}
use Rattle.mapf_model.specs.declared.label.Entry.{Entry}
use Rattle.mapf_spacetime.specs.declared.found.Found.{Found}
use Rattle.mapf_spacetime.specs.declared.found.Found.TheVariants.{Arrives, Dead}
use Rattle.mapf_cbs.specs.declared.node.Node.{Node}
use Rattle.mapf_cbs.specs.declared.node.Node.TheVariants.{Root, Child}
use Rattle.mapf_cbs.specs.CheapestPath.{IsTableBar}
use Rattle.mapf_model.specs.declared.conflict.Conflict.{Conflict}
use Rattle.mapf_model.specs.Plan.{Instance}
use Rattle.mapf_cbs.specs.FirstConflicts.{IsFirstConflict}
use Rattle.mapf_model.specs.Blocks.{LabelBlock}
use Rattle.mapf_cbs.specs.Search.{View, IsLive, live_child, dead_child, bound_blocks, labels_of}

-- parents come before their children, and the root, which comes first, has a path of the agent
abbrev pub IsNodeFor : ℕ → ℕ → Node → Type 0
IsNodeFor agent k (Root paths) = (k ≡ 0) × (agent < length paths)
IsNodeFor agent k (Child parent constraint found) = parent < k

-- the same of all nodes
abbrev pub AreNodesFor : ℕ → List Node → Type 0
AreNodesFor agent nodes = (k : ℕ) (node : Node) → slice_get nodes k ≡ Some node → IsNodeFor agent k node

-- the same for each of so many agents
abbrev pub AreNodesForAll : ℕ → List Node → Type 0
AreNodesForAll agents nodes = (agent : ℕ) → agent < agents → AreNodesFor agent nodes

-- each of so many agents has a path at the node, found there or at an ancestor, and a problem may have so many agents
pub record HavePathsAt (nodes : List Node) (k agents : ℕ) : Type 0 where
  pub nodes_for : AreNodesForAll agents nodes
  pub inside : k < length nodes
  pub some : 1 ≤ agents
  pub few : agents ≤ most_agents

-- a table can hold the constraint of the node
abbrev pub HasTableBar : Node → Type 0
HasTableBar (Root paths) = Unit {0}
HasTableBar (Child parent constraint found) = IsTableBar constraint.bar

-- a table can hold the constraints of all nodes
abbrev pub HaveTableBars : List Node → Type 0
HaveTableBars nodes = (k : ℕ) (node : Node) → slice_get nodes k ≡ Some node → HasTableBar node

-- the state of a child, by its parent's state and what was found
abbrev pub IsChildView : View → Constraint → Found (List Entry) → View → Type 0
IsChildView before constraint (Arrives path labels) view =
    (cost : ℕ) × (view ≡ live_child before constraint path cost labels)
IsChildView before constraint (Dead labels) view = view ≡ dead_child before constraint labels

-- no constraints, no blocks, and these paths
pub record IsRootView (paths : List (List ℕ)) (view : View) : Type 0 where
  pub context : view.context ≡ root
  pub same_paths : view.paths ≡ paths
  pub blocks : view.blocks ≡ []

-- the node's own blocks
abbrev pub IsOwnOf : Node → List LabelBlock → Type 0
IsOwnOf (Root paths) blocks = blocks ≡ []
IsOwnOf (Child parent constraint found) blocks = blocks ≡ bound_blocks constraint.agent (labels_of found)

-- the state that a node denotes, by its parent's
abbrev pub IsNodeView : List View → ℕ → Node → View → Type 0
IsNodeView views k (Root paths) view = IsRootView paths view
IsNodeView views k (Child parent constraint found) view =
    (parent < k) × (before : View) × (slice_get views parent ≡ Some before) × (constraint.agent < length before.paths)
    × IsChildView before constraint found view

-- these are the states that the nodes denote
pub record AreViews (nodes : List Node) (views : List View) : Type 0 where
  pub lengths : length views ≡ length nodes
  pub each : (k : ℕ) (node : Node) (view : View) → slice_get nodes k ≡ Some node → slice_get views k ≡ Some view →
      IsNodeView views k node view

-- the property holds of the state that the node denotes, as the changes along its path from the root give it
abbrev pub HoldsOfNode : List Node → ℕ → (View → Type 0) → Type 0
HoldsOfNode nodes k Fact =
    (views : List View) (view : View) → AreViews nodes views → slice_get views k ≡ Some view → Fact view

-- the same if the state has a path of each of so many agents
abbrev pub HoldsOfAgentsAt : List Node → ℕ → ℕ → (View → Type 0) → Type 0
HoldsOfAgentsAt nodes k agents Fact = HoldsOfNode nodes k (λ view. length view.paths ≡ agents → Fact view)

-- the nodes denote states; those of the root and of the node `k` have so many paths, and the property holds of the
-- latter
pub record AreViewedAt (nodes : List Node) (k agents : ℕ) (Fact : View → Type 0) : Type 0 where
  pub views : List View
  pub view : View
  pub are : AreViews nodes views
  pub is : slice_get views k ≡ Some view
  pub count : length view.paths ≡ agents
  pub root : View
  pub root_is : slice_get views 0 ≡ Some root
  pub root_count : length root.paths ≡ agents
  pub holds : Fact view

-- the conflict is the first of the node's paths
abbrev pub IsFirstAt : Instance → List Node → ℕ → Conflict → Type 0
IsFirstAt problem nodes k conflict =
    HoldsOfNode nodes k (λ view. IsLive problem view → IsFirstConflict view.paths conflict)

-- the constraints of one list are those of two others
pub record AreJoined (all front rest : List Bar) : Type 0 where
  pub apart : (bar : Bar) → Contains all bar → Contains front bar ⊎ Contains rest bar
  pub from_front : (bar : Bar) → Contains front bar → Contains all bar
  pub from_rest : (bar : Bar) → Contains rest bar → Contains all bar
