-- At which of a node and its ancestors each agent was replanned last.
use Rattle.std.specs.Prelude.{◌≡◌, ◌≢◌, ℕ, ◌<◌, List, Option, None, Some, length, slice_get}
use Rattle.std.specs.Option.{unwrap_or}
use Rattle.mapf_cbs.specs.declared.node.Node.{Node}
use Rattle.mapf_cbs.specs.declared.path_owners.PathOwners.{PathOwners}
use Rattle.mapf_cbs.specs.Nodes.{AreViews}
use Rattle.mapf_cbs.specs.Search.{View}

-- the number of the node, that of the root, 0, if there is none
abbrev pub number_of : Option ℕ → ℕ
number_of owner = unwrap_or owner 0

-- each of these is the number of a node, None being that of the root
abbrev pub AreInside : List Node → List (Option ℕ) → Type 0
AreInside nodes nearest =
    (i : ℕ) (owner : Option ℕ) → slice_get nearest i ≡ Some owner → number_of owner < length nodes

-- the agent has the same path and the same constraints at both nodes
abbrev pub HaveSame : ℕ → View → View → Type 0
HaveSame i view other =
    (slice_get view.paths i ≡ slice_get other.paths i) × (view.context.bars i ≡ other.context.bars i)

-- at the node `owner` the agent has the path and the constraints that it has at the node `k`
pub record IsOwner (nodes : List Node) (k agent owner : ℕ) : Type 0 where
  pub inside : owner < length nodes
  pub same : (views : List View) (view : View) → AreViews nodes views → slice_get views k ≡ Some view →
      (other : View) × (slice_get views owner ≡ Some other) × HaveSame agent view other

-- each agent has an owner: a node at which it has the path and the constraints that it has at the owners' node
abbrev pub AreOwners : List Node → PathOwners → Type 0
AreOwners nodes owners =
    (i : ℕ) (owner : Option ℕ) → slice_get owners.nearest.items i ≡ Some owner →
    IsOwner nodes owners.node i (number_of owner)

-- the entry of each agent is None
abbrev pub AreNone : List (Option ℕ) → Type 0
AreNone nearest = (i : ℕ) (owner : Option ℕ) → slice_get nearest i ≡ Some owner → owner ≡ None

-- if the agent had no node it has this one, else it keeps its own, and the other agents' entries are as they were
pub record IsNoted (old new : List (Option ℕ)) (agent node : ℕ) : Type 0 where
  pub others : (i : ℕ) → i ≢ agent → slice_get new i ≡ slice_get old i
  pub first : slice_get old agent ≡ Some None → slice_get new agent ≡ Some (Some node)
  pub later : (nearer : ℕ) → slice_get old agent ≡ Some (Some nearer) → slice_get new agent ≡ Some (Some nearer)
