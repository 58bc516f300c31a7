-- What the nodes of trees show, one after another.
use Rattle.std.proofs.Common.{◌≡◌, ◌↔◌, List, [], ◌∷◌, ◌++◌, refl, sym, ◌∙◌, ap, subst, append_assoc}
use Rattle.std.specs.List.{AllZip}
use Rattle.std.proofs.lemmas.List.{append-nil}
use Rattle.mapf_lemmas.specs.Cases.{CaseTree, Branch, Leaf, Clash, TreeShows, left_constraints, right_constraints}
use Rattle.mapf_lemmas.specs.Groups.{Scope}
use Rattle.mapf_model.specs.declared.label.Label.{Label}
use Rattle.mapf_cases.specs.Nodes.{CaseNode, BranchNode, LeafNode, ClashNode, Context, IsGoodNode, NodesShow, contexts_after, nodes_of, nodes_of_all}

module _ (scope : Scope) (target : Label) where
  -- without contexts there are no nodes
  pub shows_none : (nodes : List CaseNode) → NodesShow scope target [] nodes ↔ (nodes ≡ [])
  shows_none nodes = (λ (trees, is, all). by trees is all, λ is. ([], is, tt))
    where
      by : (trees : List CaseTree) → nodes ≡ nodes_of_all trees → AllZip (TreeShows scope target) [] trees → nodes ≡ []
      by [] is all = is
      by (tree ∷ trees) is all = absurd all

  module _ (here : Context) (pending : List Context) where
    -- a context asks for a node
    pub shows_some : NodesShow scope target (here ∷ pending) [] → ⊥
    shows_some (trees, is, all) = by trees is all
      where
        by : (trees : List CaseTree) → [] ≡ nodes_of_all trees → AllZip (TreeShows scope target) (here ∷ pending) trees → ⊥
        by [] is all = all
        by (Branch split left right ∷ trees) is all = absurd cc
        by (Leaf uses ∷ trees) is all = absurd cc
        by (Clash i j ∷ trees) is all = absurd cc

    -- the front of the nodes decides
    front_to : (node : CaseNode) (rest : List CaseNode) → NodesShow scope target (here ∷ pending) (node ∷ rest) →
        IsGoodNode scope target here node × NodesShow scope target (contexts_after scope.problem (here ∷ pending) node) rest
    front_to node rest (trees, is, all) = by trees is all
      where
        by : (trees : List CaseTree) → node ∷ rest ≡ nodes_of_all trees → AllZip (TreeShows scope target) (here ∷ pending) trees →
            IsGoodNode scope target here node × NodesShow scope target (contexts_after scope.problem (here ∷ pending) node) rest
        by [] is all = absurd all
        by (Branch split left right ∷ trees) is all =
            let first : node ≡ BranchNode split = cc in
            let others : rest ≡ (nodes_of left ++ nodes_of right) ++ nodes_of_all trees = cc in
            subst (λ n. IsGoodNode scope target here n × NodesShow scope target (contexts_after scope.problem (here ∷ pending) n) rest) (sym first)
            (all.0.0, (left ∷ right ∷ trees, others ∙ append_assoc (nodes_of left) (nodes_of right) (nodes_of_all trees), (all.0.1, (all.0.2, all.1))))
        by (Leaf uses ∷ trees) is all =
            let first : node ≡ LeafNode uses = cc in
            let others : rest ≡ nodes_of_all trees = cc in
            subst (λ n. IsGoodNode scope target here n × NodesShow scope target (contexts_after scope.problem (here ∷ pending) n) rest) (sym first) (all.0, (trees, others, all.1))
        by (Clash i j ∷ trees) is all =
            let first : node ≡ ClashNode i j = cc in
            let others : rest ≡ nodes_of_all trees = cc in
            subst (λ n. IsGoodNode scope target here n × NodesShow scope target (contexts_after scope.problem (here ∷ pending) n) rest) (sym first) (all.0, (trees, others, all.1))

    front_from : (node : CaseNode) (rest : List CaseNode) → IsGoodNode scope target here node → NodesShow scope target (contexts_after scope.problem (here ∷ pending) node) rest →
        NodesShow scope target (here ∷ pending) (node ∷ rest)
    front_from (BranchNode split) rest good (trees, is, all) = by trees is all
      where
        by : (trees : List CaseTree) → rest ≡ nodes_of_all trees → AllZip (TreeShows scope target) (left_constraints scope.problem here split ∷ right_constraints here split ∷ pending) trees →
            NodesShow scope target (here ∷ pending) (BranchNode split ∷ rest)
        by [] is all = absurd all
        by (left ∷ []) is all = absurd all.1
        by (left ∷ right ∷ trees) is all =
            (Branch split left right ∷ trees, ap (λ (ns : List CaseNode). BranchNode split ∷ ns) (is ∙ sym (append_assoc (nodes_of left) (nodes_of right) (nodes_of_all trees))), ((good, all.0, all.1.0), all.1.1))
    front_from (LeafNode uses) rest good (trees, is, all) = (Leaf uses ∷ trees, ap (λ (ns : List CaseNode). LeafNode uses ∷ ns) is, (good, all))
    front_from (ClashNode i j) rest good (trees, is, all) = (Clash i j ∷ trees, ap (λ (ns : List CaseNode). ClashNode i j ∷ ns) is, (good, all))

    pub front_decides : (node : CaseNode) (rest : List CaseNode) → NodesShow scope target (here ∷ pending) (node ∷ rest) ↔
        (IsGoodNode scope target here node × NodesShow scope target (contexts_after scope.problem (here ∷ pending) node) rest)
    front_decides node rest = (front_to node rest, λ both. front_from node rest both.0 both.1)

  -- the nodes of a tree, and then others, show what the tree and the others show
  pub tree_decides : (tree : CaseTree) (here : Context) (pending : List Context) (rest : List CaseNode) →
      NodesShow scope target (here ∷ pending) (nodes_of tree ++ rest) ↔ (TreeShows scope target here tree × NodesShow scope target pending rest)
  tree_decides (Branch split left right) here pending rest =
      let front = front_decides here pending (BranchNode split) ((nodes_of left ++ nodes_of right) ++ rest) in
      let on_left = tree_decides left (left_constraints scope.problem here split) (right_constraints here split ∷ pending) (nodes_of right ++ rest) in
      let on_right = tree_decides right (right_constraints here split) pending rest in
      let order : (nodes_of left ++ nodes_of right) ++ rest ≡ nodes_of left ++ (nodes_of right ++ rest) = append_assoc (nodes_of left) (nodes_of right) rest in (
        λ shows.
            let (good, after) = front.0 shows in
            let (left_shows, after_left) = on_left.0 (subst (λ ns. NodesShow scope target (left_constraints scope.problem here split ∷ right_constraints here split ∷ pending) ns) order after) in
            let (right_shows, after_right) = on_right.0 after_left in
            ((good, left_shows, right_shows), after_right),
        λ both.
            front.1 (
              both.0.0,
              subst (λ ns. NodesShow scope target (left_constraints scope.problem here split ∷ right_constraints here split ∷ pending) ns) (sym order)
                  (on_left.1 (both.0.1, on_right.1 (both.0.2, both.1))),
            ),
      )
  tree_decides (Leaf uses) here pending rest = front_decides here pending (LeafNode uses) rest
  tree_decides (Clash i j) here pending rest = front_decides here pending (ClashNode i j) rest

  -- the nodes of one tree show exactly what it shows
  pub one_tree : (tree : CaseTree) (root : Context) → NodesShow scope target (root ∷ []) (nodes_of tree) ↔ TreeShows scope target root tree
  one_tree tree root =
      let decides = subst (λ ns. NodesShow scope target (root ∷ []) ns ↔ (TreeShows scope target root tree × NodesShow scope target [] [])) (append-nil (nodes_of tree)) (tree_decides tree root [] []) in
      (λ shows. (decides.0 shows).0, λ shows. decides.1 (shows, ([], refl, tt)))
