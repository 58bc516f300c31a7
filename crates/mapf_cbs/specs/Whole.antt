-- Full nodes, and the state that each denotes.
use Rattle.std.specs.Prelude.{◌≡◌, ℕ, ◌<◌, ◌≤◌, List, Option, None, Some, length, slice_get, sum}
use Rattle.mapf_model.specs.declared.bar.Bar.{Bar}
use Rattle.mapf_model.specs.declared.constraint.Constraint.{Constraint}
use Rattle.mapf_model.specs.Laws.{AreSameBars}
use Rattle.mapf_model.specs.Plan.{Instance}
use Rattle.mapf_model.specs.declared.label.Entry.{Entry}
use Rattle.mapf_spacetime.specs.declared.found.Found.{Found}
use Rattle.mapf_spacetime.specs.declared.found.Found.TheVariants.{Arrives, Dead as DeadEnd}
use Rattle.mapf_cbs.specs.declared.node.Node.{Node}
use Rattle.mapf_cbs.specs.declared.node.Status.{Status}
use Rattle.mapf_cbs.specs.declared.node.Status.TheVariants.{Open}
use Rattle.mapf_cbs.specs.declared.whole_node.AgentPath.{AgentPath}
use Rattle.mapf_cbs.specs.declared.whole_node.WholeNode.{WholeNode}
use Rattle.mapf_model.specs.declared.conflict.Conflict.{Conflict}
use Rattle.mapf_cbs.specs.FirstConflicts.{IsFirstConflict}
use Rattle.mapf_cbs.specs.GeneratedChild.{IsGeneratedChild}
use Rattle.mapf_cbs.specs.Search.{View, AreBlocksOf}
use Rattle.mapf_cbs.specs.State.{IsState, IsPopped}

-- the agent's path and constraints
pub record IsAgentPathAt (view : View) (i : ℕ) (agent_path : AgentPath) : Type 0 where
  pub path : slice_get view.paths i ≡ Some agent_path.path
  pub bars : AreSameBars (view.context.bars i) agent_path.bars

-- the node holds this state
pub record IsWhole (node : WholeNode) (view : View) : Type 0 where
  pub count : length node.agent_paths.items ≡ length view.paths
  pub each : (i : ℕ) (agent_path : AgentPath) → slice_get node.agent_paths.items i ≡ Some agent_path →
      IsAgentPathAt view i agent_path
  pub blocks : AreBlocksOf view node.bound
  pub total : node.total ≡ sum view.costs

-- each node holds the state at its index
pub record AreWhole (nodes : List WholeNode) (views : List View) : Type 0 where
  pub lengths : length views ≡ length nodes
  pub each : (k : ℕ) (node : WholeNode) (view : View) → slice_get nodes k ≡ Some node → slice_get views k ≡ Some view →
      IsWhole node view

-- the conflict is the first of the node's paths
abbrev pub IsFirstAtWhole : List WholeNode → ℕ → Conflict → Type 0
IsFirstAtWhole nodes k conflict = (node : WholeNode) (view : View) → slice_get nodes k ≡ Some node → IsWhole node view →
    IsFirstConflict view.paths conflict

-- each node has a path of each agent
abbrev pub HaveAgentPaths : List WholeNode → ℕ → Type 0
HaveAgentPaths nodes agents =
    (k : ℕ) (node : WholeNode) → slice_get nodes k ≡ Some node → length node.agent_paths.items ≡ agents

-- the same path and constraints
pub record IsCopy (agent_path copy : AgentPath) : Type 0 where
  pub path : copy.path ≡ agent_path.path
  pub bars : AreSameBars copy.bars agent_path.bars

-- the same of each two at one index
pub record AreCopies (agent_paths all : List AgentPath) : Type 0 where
  pub count : length all ≡ length agent_paths
  pub each : (i : ℕ) (copy : AgentPath) → slice_get all i ≡ Some copy → (agent_path : AgentPath)
      × (slice_get agent_paths i ≡ Some agent_path) × IsCopy agent_path copy

-- the path after what was found under these constraints
abbrev pub IsAfter : AgentPath → Found (List Entry) → List Bar → AgentPath → Type 0
IsAfter before (Arrives path labels) bars agent_path = (agent_path.path ≡ path) × (agent_path.bars ≡ bars)
IsAfter before (DeadEnd labels) bars agent_path = (agent_path.path ≡ before.path) × (agent_path.bars ≡ bars)

-- a full child, live with this sum or dead
pub record IsWholeChild (problem : Instance) (view : View) (constraint : Constraint) (node : WholeNode)
    (total : Option ℕ) : Type 0 where
  pub found : Found (List Entry)
  pub generated : IsGeneratedChild problem view constraint found total
  pub whole : IsWhole node generated.child

-- the node is open, and of all open nodes below n it has the least sum, and is the oldest of these
pub record IsLeastOpen (nodes : List WholeNode) (statuses : List Status) (n k : ℕ) : Type 0 where
  pub inside : k < n
  pub node : WholeNode
  pub is : slice_get nodes k ≡ Some node
  pub is_open : slice_get statuses k ≡ Some Open
  pub least : (m : ℕ) (other : WholeNode) → m < n → slice_get nodes m ≡ Some other → slice_get statuses m ≡ Some Open →
      node.total ≤ other.total
  pub oldest : (m : ℕ) (other : WholeNode) → m < k → slice_get nodes m ≡ Some other → slice_get statuses m ≡ Some Open →
      node.total < other.total

-- which of the nodes below n is the least open one, if any is open
abbrev pub IsLeastBelow : List WholeNode → List Status → ℕ → Option ℕ → Type 0
IsLeastBelow nodes statuses n None = (m : ℕ) → m < n → slice_get statuses m ≡ Some Open → ⊥
IsLeastBelow nodes statuses n (Some k) = IsLeastOpen nodes statuses n k

-- full nodes and their statuses after so many splits: they denote the same state as delta nodes
pub record IsWholeState (problem : Instance) (nodes : List WholeNode) (statuses : List Status) (count : ℕ)
    : Type 0 where
  pub changes : List Node
  pub keys : List (ℕ × ℕ)
  pub state : IsState problem changes statuses keys count
  pub whole : AreWhole nodes state.views
  pub agent_paths : HaveAgentPaths nodes (length problem.agents)

-- the same while the least open node is being expanded
pub record IsWholePopped (problem : Instance) (nodes : List WholeNode) (statuses : List Status) (count total k : ℕ)
    : Type 0 where
  pub changes : List Node
  pub rest : List (ℕ × ℕ)
  pub popped : IsPopped problem changes statuses rest count total k
  pub whole : AreWhole nodes popped.state.views
  pub agent_paths : HaveAgentPaths nodes (length problem.agents)
