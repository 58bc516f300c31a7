-- The items of trees in pre-order.
use Rattle.std.proofs.Common.{◌≡◌, ℕ, List, [], ◌∷◌, ◌++◌, ap, subst, append_assoc}
use Rattle.std.proofs.lemmas.List.{append-nil}
use Rattle.mapf_model.specs.Blocks.{LabelBlock}
use Rattle.mapf_model.specs.declared.item.Claim.{Claim}
use Rattle.mapf_model.specs.declared.conflict.Conflict.{Conflict}
use Rattle.mapf_model.specs.Plan.{Instance}
use Rattle.mapf_model.specs.Tree.{ConstraintTree, Split, Leaf, Clash, NodeContext, root, left_child_context, right_child_context, Node, SplitNode, LeafNode, ClashNode, nodes_of, nodes_of_all, SplitShows, ShareGoal, ShowsFrom, NodesShow}

SplitNode-injective : (a b : Conflict) (ls ms : List LabelBlock) → SplitNode a ls ≡ SplitNode b ms → (a ≡ b) × (ls ≡ ms)
SplitNode-injective a b ls ms e = (cc, cc)

split_not_leaf : (a : Conflict) (ls blocks : List LabelBlock) → SplitNode a ls ≡ LeafNode blocks → ⊥
split_not_leaf a ls blocks e = cc

split_not_clash : (a : Conflict) (ls : List LabelBlock) (i j : ℕ) → SplitNode a ls ≡ ClashNode i j → ⊥
split_not_clash a ls i j e = cc

-- the items of a tree and what follows them are cut in one way
pub cut : (s t : ConstraintTree) (xs ys : List Node) → nodes_of s ++ xs ≡ nodes_of t ++ ys → (s ≡ t) × (xs ≡ ys)
cut (Split a ls left right) (Split b ms left' right') xs ys e =
    let head : SplitNode a ls ≡ SplitNode b ms = cc in
    let tail : (nodes_of left ++ nodes_of right) ++ xs ≡ (nodes_of left' ++ nodes_of right') ++ ys = cc in
    let first = cut left left' (nodes_of right ++ xs) (nodes_of right' ++ ys) (simp append_assoc at tail) in
    let second = cut right right' xs ys first.1 in
    let same = SplitNode-injective a b ls ms head in
    let conflicts : a ≡ b = same.0 in
    let blocks : ls ≡ ms = same.1 in
    (cc, second.1)
cut (Split a ls left right) (Leaf blocks) xs ys e = absurd (split_not_leaf a ls blocks cc)
cut (Split a ls left right) (Clash i j) xs ys e = absurd (split_not_clash a ls i j cc)
cut (Leaf blocks) (Split b ms left right) xs ys e = absurd (split_not_leaf b ms blocks cc)
cut (Leaf blocks) (Leaf blocks') xs ys e = (cc, cc)
cut (Leaf blocks) (Clash i j) xs ys e = cc
cut (Clash i j) (Split b ms left right) xs ys e = absurd (split_not_clash b ms i j cc)
cut (Clash i j) (Leaf blocks) xs ys e = cc
cut (Clash i j) (Clash i' j') xs ys e = (cc, cc)

module _ (problem : Instance) (claim : Claim) (context : NodeContext) (pending : List NodeContext) where
  pub from_split : (conflict : Conflict) (blocks : List LabelBlock) (items : List Node) → NodesShow problem claim (context ∷ pending) (SplitNode conflict blocks ∷ items) →
      SplitShows problem context conflict blocks × NodesShow problem claim (left_child_context context conflict blocks ∷ right_child_context context conflict blocks ∷ pending) items
  from_split conflict blocks items ([], e, zip) = absurd zip
  from_split conflict blocks items (Split b ms left right ∷ trees, e, zip) =
      let head : SplitNode b ms ≡ SplitNode conflict blocks = cc in
      let same = SplitNode-injective b conflict ms blocks head in
      let shows = subst (λ own. ShowsFrom problem claim context (Split conflict own left right)) same.1 (subst (λ c. ShowsFrom problem claim context (Split c ms left right)) same.0 zip.0) in
      let tail : items ≡ (nodes_of left ++ nodes_of right) ++ nodes_of_all trees = cc in
      ((shows.proper.0, shows.nodes.0), (left ∷ right ∷ trees, simp append_assoc at tail, (record { proper = shows.proper.1; nodes = shows.nodes.1 }, (record { proper = shows.proper.2; nodes = shows.nodes.2 }, zip.1))))
  from_split conflict blocks items (Leaf own ∷ trees, e, zip) = absurd (split_not_leaf conflict blocks own cc)
  from_split conflict blocks items (Clash i j ∷ trees, e, zip) = absurd (split_not_clash conflict blocks i j cc)

  pub to_split : (conflict : Conflict) (blocks : List LabelBlock) (items : List Node) → SplitShows problem context conflict blocks × NodesShow problem claim (left_child_context context conflict blocks ∷ right_child_context context conflict blocks ∷ pending) items →
      NodesShow problem claim (context ∷ pending) (SplitNode conflict blocks ∷ items)
  to_split conflict blocks items (good, ([], e, zip)) = absurd zip
  to_split conflict blocks items (good, (left ∷ [], e, zip)) = absurd zip.1
  to_split conflict blocks items (good, (left ∷ right ∷ trees, e, zip)) = (
    Split conflict blocks left right ∷ trees,
    simp append_assoc (ap (λ rest. SplitNode conflict blocks ∷ rest) e),
    (record { proper = (good.0, zip.0.proper, zip.1.0.proper); nodes = (good.1, zip.0.nodes, zip.1.0.nodes) }, zip.1.1),
  )

  pub from_leaf : (blocks : List LabelBlock) (items : List Node) → NodesShow problem claim (context ∷ pending) (LeafNode blocks ∷ items) → ShowsFrom problem claim context (Leaf blocks) × NodesShow problem claim pending items
  from_leaf blocks items ([], e, zip) = absurd zip
  from_leaf blocks items (Split b ms left right ∷ trees, e, zip) = absurd (split_not_leaf b ms blocks cc)
  from_leaf blocks items (Leaf own ∷ trees, e, zip) =
      let same : own ≡ blocks = cc in
      (subst (λ ms. ShowsFrom problem claim context (Leaf ms)) same zip.0, (trees, cc, zip.1))
  from_leaf blocks items (Clash i j ∷ trees, e, zip) = absurd cc

  pub to_leaf : (blocks : List LabelBlock) (items : List Node) → ShowsFrom problem claim context (Leaf blocks) × NodesShow problem claim pending items → NodesShow problem claim (context ∷ pending) (LeafNode blocks ∷ items)
  to_leaf blocks items (shows, (trees, e, zip)) = (Leaf blocks ∷ trees, ap (λ rest. LeafNode blocks ∷ rest) e, (shows, zip))

  pub from_clash : (i j : ℕ) (items : List Node) → NodesShow problem claim (context ∷ pending) (ClashNode i j ∷ items) → ShareGoal problem i j × NodesShow problem claim pending items
  from_clash i j items ([], e, zip) = absurd zip
  from_clash i j items (Split b ms left right ∷ trees, e, zip) = absurd (split_not_clash b ms i j cc)
  from_clash i j items (Leaf blocks ∷ trees, e, zip) = absurd cc
  from_clash i j items (Clash i' j' ∷ trees, e, zip) =
      let one : i' ≡ i = cc in
      let two : j' ≡ j = cc in
      (subst (λ n. ShareGoal problem i n) two (subst (λ n. ShareGoal problem n j') one zip.0.nodes), (trees, cc, zip.1))

  pub to_clash : (i j : ℕ) (items : List Node) → ShareGoal problem i j × NodesShow problem claim pending items → NodesShow problem claim (context ∷ pending) (ClashNode i j ∷ items)
  to_clash i j items (one_goal, (trees, e, zip)) = (Clash i j ∷ trees, ap (λ rest. ClashNode i j ∷ rest) e, (record { proper = tt; nodes = one_goal }, zip))

  pub none_missing : NodesShow problem claim (context ∷ pending) [] → ⊥
  none_missing ([], e, zip) = zip
  none_missing (Split b ms left right ∷ trees, e, zip) = cc
  none_missing (Leaf blocks ∷ trees, e, zip) = cc
  none_missing (Clash i j ∷ trees, e, zip) = cc

pub none_unowed : (problem : Instance) (claim : Claim) (item : Node) (items : List Node) → NodesShow problem claim [] (item ∷ items) → ⊥
none_unowed problem claim item items ([], e, zip) = cc
none_unowed problem claim item items (tree ∷ trees, e, zip) = zip

pub from_whole : (problem : Instance) (claim : Claim) (items : List Node) → NodesShow problem claim (root ∷ []) items → (tree : ConstraintTree) × (items ≡ nodes_of tree) × ShowsFrom problem claim root tree
from_whole problem claim items ([], e, zip) = absurd zip
from_whole problem claim items (tree ∷ [], e, zip) = (tree, simp append-nil at e, zip.0)
from_whole problem claim items (tree ∷ other ∷ trees, e, zip) = absurd zip.1

pub to_whole : (problem : Instance) (claim : Claim) (items : List Node) → (tree : ConstraintTree) × (items ≡ nodes_of tree) × ShowsFrom problem claim root tree → NodesShow problem claim (root ∷ []) items
to_whole problem claim items (tree, e, shows) = (tree ∷ [], simp append-nil e, (shows, tt))
