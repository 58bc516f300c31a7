-- The parts of a tree, judged one after another, show what the tree shows.
use Rattle.std.proofs.Common.{◌≡◌, ◌↔◌, ℕ, List, [], ◌∷◌, ◌++◌, Option, Some, None, refl, sym, ◌∙◌, subst, append_assoc}
use Rattle.mapf_cases.specs.Nodes.{CaseNode, BranchNode, LeafNode, ClashNode, Context, IsGoodNode, contexts_after}
use Rattle.mapf_lemmas.specs.Cases.{CaseTree, Branch, Leaf, Clash, TreeShows, left_constraints, right_constraints}
use Rattle.mapf_lemmas.specs.Groups.{Scope}
use Rattle.mapf_lemmas.specs.Lemmas.{scope_of}
use Rattle.mapf_lemmas.specs.Prices.{PriceList}
use Rattle.mapf_lemmas.specs.Statements.{Statement}
use Rattle.mapf_lemmas.specs.declared.split.Split.{Split}
use Rattle.mapf_lemmas.specs.declared.split.Split.TheVariants as splits
use Rattle.mapf_lemma_checker.specs.States.{TreeState, JudgeState, ShowsNode, ShowsNextNode, ShowsPart, ShowParts, tree_in, with_statement, with_tree}
use Rattle.mapf_lemma_texts.specs.declared.part.Part.{Part}
use Rattle.mapf_lemma_texts.specs.WholeTexts.{split_part, tree_parts}
use Rattle.mapf_model.specs.declared.label.Label.{Label}
use Rattle.mapf_model.specs.Plan.{Instance}

-- the part of a split shows what its node shows
split_shows : (problem : Instance) (target : Label) (state : JudgeState) (split : Split) (next : JudgeState) →
    ShowsPart problem target state (split_part split) next ↔ ShowsNextNode problem target state (BranchNode split) next
split_shows problem target state (splits.Vertex i j cell tick) next = (λ shows. shows, λ shows. shows)
split_shows problem target state (splits.Swap i j from to tick) next = (λ shows. shows, λ shows. shows)
split_shows problem target state (splits.Cost i ticks) next = (λ shows. shows, λ shows. shows)
split_shows problem target state (splits.Costs i ticks j least lemma) next = (λ shows. shows, λ shows. shows)

-- a tree of these agents, which have to cost at least so much together
module _ (lists : List PriceList) (known : List Statement) (agents : List ℕ) (least : Label) where
  -- the tree, where these subtrees are still to come
  abbrev pub tree_with : Option Statement → List Context → TreeState
  tree_with case pending = record { case = case; speaks_of = agents; least = least; pending = pending }

  -- where this tree is judged
  abbrev pub state_with : Option TreeState → JudgeState
  state_with tree = record { lists = lists; known = known; tree = tree }

  -- where these subtrees are still to come; where none is, the tree is over
  abbrev pub state_at : List Context → Option Statement → JudgeState
  state_at [] (Some statement) = with_statement (state_with None) statement
  state_at [] None = state_with (Some (tree_with None []))
  state_at (here ∷ pending) case = state_with (Some (tree_with case (here ∷ pending)))

  -- so it is after a node
  with_tree_is : (tree : Option TreeState) (before pending : List Context) (case : Option Statement) →
      with_tree (state_with tree) case (tree_with case before) pending ≡ state_at pending case
  with_tree_is tree before [] (Some statement) = refl
  with_tree_is tree before [] None = refl
  with_tree_is tree before (here ∷ pending) (Some statement) = refl
  with_tree_is tree before (here ∷ pending) None = refl

  module _ (problem : Instance) (target : Label) (case : Option Statement) (last : JudgeState) where
    abbrev scope : Scope
    scope = scope_of problem lists known agents

    -- a node and the parts after it
    node_decides : (tree : Option TreeState) (here : Context) (pending : List Context) (node : CaseNode) (rest : List Part) →
        tree_in problem target tree ≡ tree_with case (here ∷ pending) →
        ((next : JudgeState) × ShowsNextNode problem target (state_with tree) node next × ShowParts problem target next rest last)
        ↔ (IsGoodNode scope least here node
        × ShowParts problem target (state_at (contexts_after problem (here ∷ pending) node) case) rest last)
    node_decides tree here pending node rest is =
        let contexts = contexts_after problem (here ∷ pending) node in
        let next_is = with_tree_is tree (here ∷ pending) contexts case in (
          λ (next, shows, after).
              let there = subst (λ (t : TreeState). ShowsNode problem (state_with tree) t t.pending node next) is shows in
              (there.0, subst (λ state. ShowParts problem target state rest last) (there.1 ∙ next_is) after),
          λ (good, after).
              let next = state_at contexts case in
              let there = subst (λ (t : TreeState). ShowsNode problem (state_with tree) t t.pending node next) (sym is) (good, sym next_is) in
              (next, there, after),
        )

    -- the parts of a tree and the parts after it
    pub tree_decides : (judged : CaseTree) (tree : Option TreeState) (here : Context) (pending : List Context) (rest : List Part) →
        tree_in problem target tree ≡ tree_with case (here ∷ pending) →
        ShowParts problem target (state_with tree) (tree_parts judged ++ rest) last
        ↔ (TreeShows scope least here judged × ShowParts problem target (state_at pending case) rest last)
    tree_decides (Branch split left right) tree here pending rest is =
        let l = tree_parts left in
        let r = tree_parts right in
        let first = left_constraints problem here split in
        let second = right_constraints here split in
        let inside : JudgeState = state_at (first ∷ second ∷ pending) case in
        let front = node_decides tree here pending (BranchNode split) ((l ++ r) ++ rest) is in
        let on_left = tree_decides left (Some (tree_with case (first ∷ second ∷ pending))) first (second ∷ pending) (r ++ rest) refl in
        let on_right = tree_decides right (Some (tree_with case (second ∷ pending))) second pending rest refl in
        let order : (l ++ r) ++ rest ≡ l ++ (r ++ rest) = append_assoc l r rest in (
          λ (next, shows, after).
              let (good, more) = front.0 (next, (split_shows problem target (state_with tree) split next).0 shows, after) in
              let (left_shows, after_left) = on_left.0 (subst (λ ps. ShowParts problem target inside ps last) order more) in
              let (right_shows, after_right) = on_right.0 after_left in
              ((good, left_shows, right_shows), after_right),
          λ both.
              let more = subst (λ ps. ShowParts problem target inside ps last) (sym order) (on_left.1 (both.0.1, on_right.1 (both.0.2, both.1))) in
              let (next, shows, after) = front.1 (both.0.0, more) in
              (next, (split_shows problem target (state_with tree) split next).1 shows, after),
        )
    tree_decides (Leaf uses) tree here pending rest is = node_decides tree here pending (LeafNode uses) rest is
    tree_decides (Clash i j) tree here pending rest is = node_decides tree here pending (ClashNode i j) rest is
