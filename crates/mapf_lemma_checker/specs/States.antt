-- How far a certificate was judged, and what each of its parts has to show.
use Rattle.std.specs.Prelude.{◌≡◌, ⊤, ℕ, List, [], ◌∷◌, ◌++◌, Option, Some, None, All}
use Rattle.mapf_cases.specs.Nodes.{CaseNode, BranchNode, LeafNode, ClashNode, Context, IsGoodNode, contexts_after}
use Rattle.mapf_lemmas.specs.declared.split.Split.TheVariants as splits
use Rattle.mapf_lemmas.specs.Lemmas.{Lemma, LemmaShows, AreConstraintsOn, AreDifferentAgents, all_agents, scope_of}
use Rattle.mapf_lemmas.specs.Prices.{PriceList, IsPriceOn}
use Rattle.mapf_lemmas.specs.Statements.{Statement, constraints_of}
use Rattle.mapf_lemma_checker.specs.LemmaParts.{one_of, two_of, never_of}
use Rattle.mapf_lemma_texts.specs.declared.part.Part.{Part}
use Rattle.mapf_lemma_texts.specs.declared.part.Part.TheVariants as parts
use Rattle.mapf_lemma_texts.specs.PartValues.{CasesValue}
use Rattle.mapf_model.specs.declared.label.Label.{Label}
use Rattle.mapf_model.specs.Plan.{Instance}

-- a tree of which nodes are judged: the statement that it shows if it is of a lemma, the agents of which it speaks,
-- what they have to cost at least together, and what stands at the roots of the subtrees that are still to come
pub record TreeState : Type 0 where
  pub case : Option Statement
  pub speaks_of : List ℕ
  pub least : Label
  pub pending : List Context

-- how far a certificate was judged: its price lists, the statements of its lemmas, and the tree whose nodes come next
pub record JudgeState : Type 0 where
  pub lists : List PriceList
  pub known : List Statement
  pub tree : Option TreeState

-- nothing was judged
abbrev pub first_state : JudgeState
first_state = record { lists = []; known = []; tree = None }

-- with one more list
abbrev pub with_list : JudgeState → PriceList → JudgeState
with_list state list = record { lists = state.lists ++ list ∷ []; known = state.known; tree = state.tree }

-- with one more statement
abbrev pub with_statement : JudgeState → Statement → JudgeState
with_statement state statement =
    record { lists = state.lists; known = state.known ++ statement ∷ []; tree = None }

-- the statement of a lemma by cases
abbrev pub case_statement : CasesValue → Statement
case_statement head = record {
  agents = head.agents;
  constraints = head.constraints;
  list_number = None;
  bound = head.bound;
}

-- before the root of the tree of a lemma by cases
abbrev pub with_cases : JudgeState → CasesValue → JudgeState
with_cases state head = record {
  lists = state.lists;
  known = state.known;
  tree = Some (record {
    case = Some (case_statement head);
    speaks_of = head.agents;
    least = head.bound;
    pending = constraints_of head.constraints ∷ [];
  });
}

-- before the root of the last tree
abbrev pub last_tree : Instance → Label → TreeState
last_tree problem target = record {
  case = None;
  speaks_of = all_agents problem;
  least = target;
  pending = (λ agent. []) ∷ [];
}

-- the tree whose nodes come next: the one that is judged, else the last one
abbrev pub tree_in : Instance → Label → Option TreeState → TreeState
tree_in problem target None = last_tree problem target
tree_in problem target (Some tree) = tree

-- with this tree; the statement of a lemma is known once its tree is over
abbrev pub with_tree : JudgeState → Option Statement → TreeState → List Context → JudgeState
with_tree state (Some statement) tree [] = with_statement state statement
with_tree state case tree pending = record {
  lists = state.lists;
  known = state.known;
  tree = Some (record { case = case; speaks_of = tree.speaks_of; least = tree.least; pending = pending });
}

-- the node shows what it has to show, and this is the state after it
abbrev pub ShowsNode : Instance → JudgeState → TreeState → List Context → CaseNode → JudgeState → Type 0
ShowsNode problem state tree [] node next = ⊥
ShowsNode problem state tree (here ∷ more) node next =
    IsGoodNode (scope_of problem state.lists state.known tree.speaks_of) tree.least here node
    × (next ≡ with_tree state tree.case tree (contexts_after problem (here ∷ more) node))

-- the same in the tree that is judged
abbrev pub ShowsNextNode : Instance → Label → JudgeState → CaseNode → JudgeState → Type 0
ShowsNextNode problem target state node next =
    ShowsNode problem state (tree_in problem target state.tree) (tree_in problem target state.tree).pending node next

-- the lemma has a statement, and this is the state after it
abbrev pub ShowsLemma : Instance → JudgeState → Lemma → JudgeState → Type 0
ShowsLemma problem state lemma next =
    (statement : Statement) × LemmaShows problem state.lists state.known lemma statement
    × (next ≡ with_statement state statement)

-- the head of a lemma by cases is right, and this is the state after it
abbrev pub OpensCases : Instance → JudgeState → CasesValue → JudgeState → Type 0
OpensCases problem state head next =
    AreDifferentAgents problem head.agents × AreConstraintsOn problem.grid head.constraints
    × (next ≡ with_cases state head)

-- the part shows what it has to show after this state, if the last tree has this target; and the state after it
abbrev pub ShowsPart : Instance → Label → JudgeState → Part → JudgeState → Type 0
ShowsPart problem target state (parts.Prices count) next = next ≡ state
ShowsPart problem target state (parts.List list) next =
    All (IsPriceOn problem.grid) list.prices × (next ≡ with_list state list)
ShowsPart problem target state (parts.Lemmas count) next = next ≡ state
ShowsPart problem target state (parts.One lemma) next = ShowsLemma problem state (one_of lemma) next
ShowsPart problem target state (parts.Two lemma) next = ShowsLemma problem state (two_of lemma) next
ShowsPart problem target state (parts.Never lemma) next = ShowsLemma problem state (never_of lemma) next
ShowsPart problem target state (parts.Cases head) next = OpensCases problem state head next
ShowsPart problem target state (parts.Vertex i j cell tick) next =
    ShowsNextNode problem target state (BranchNode (splits.Vertex i j cell tick)) next
ShowsPart problem target state (parts.Swap i j from to tick) next =
    ShowsNextNode problem target state (BranchNode (splits.Swap i j from to tick)) next
ShowsPart problem target state (parts.Cost i ticks) next =
    ShowsNextNode problem target state (BranchNode (splits.Cost i ticks)) next
ShowsPart problem target state (parts.Costs i ticks j least lemma) next =
    ShowsNextNode problem target state (BranchNode (splits.Costs i ticks j least lemma)) next
ShowsPart problem target state (parts.Leaf uses) next = ShowsNextNode problem target state (LeafNode uses) next
ShowsPart problem target state (parts.Clash i j) next = ShowsNextNode problem target state (ClashNode i j) next

-- the parts show what they have to show, one after another, and this is the state after them
abbrev pub ShowParts : Instance → Label → JudgeState → List Part → JudgeState → Type 0
ShowParts problem target state [] last = last ≡ state
ShowParts problem target state (part ∷ more) last =
    (next : JudgeState) × ShowsPart problem target state part next × ShowParts problem target next more last

-- a lemma may come: no tree is judged. A node may come: the tree that is judged, or the last one, has nodes to come
abbrev pub IsPlaceFor : Instance → Label → JudgeState → Part → Type 0
IsPlaceFor problem target state (parts.Prices count) = ⊤
IsPlaceFor problem target state (parts.List list) = ⊤
IsPlaceFor problem target state (parts.Lemmas count) = ⊤
IsPlaceFor problem target state (parts.One lemma) = state.tree ≡ None
IsPlaceFor problem target state (parts.Two lemma) = state.tree ≡ None
IsPlaceFor problem target state (parts.Never lemma) = state.tree ≡ None
IsPlaceFor problem target state (parts.Cases head) = state.tree ≡ None
IsPlaceFor problem target state node = (tree_in problem target state.tree).pending ≡ [] → ⊥
