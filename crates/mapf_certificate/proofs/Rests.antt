-- What is still to come of a certificate, node after node.
use Rattle.std.proofs.Common.{◌≡◌, ℕ, ◌≤◌, ◌+◌, List, [], ◌∷◌, ◌++◌, length, All, refl, sym, ap, ◌∙◌, arith, append_assoc}
use Rattle.std.specs.List.{flat_map}
use Rattle.std.proofs.lemmas.List.Elements.{All-head, All-tail, All-cons, All-nil}
use Rattle.mapf_model.specs.Grid.{GridMap}
use Rattle.mapf_model.specs.Blocks.{LabelBlock}
use Rattle.mapf_model.specs.declared.conflict.Conflict.{Conflict}
use Rattle.mapf_model.specs.Tree.{ConstraintTree, Split, Leaf, Clash, Node, SplitNode, LeafNode, ClashNode, nodes_of, nodes_of_all}
use Rattle.mapf_certificate.specs.declared.version.Version.{Version}
use Rattle.mapf_certificate.specs.declared.version.Version.TheVariants.{One, Two}
use Rattle.mapf_certificate.specs.declared.line.CertLine.TheVariants as lines
use Rattle.mapf_certificate.specs.Certificates.{line_text, node_text, rest_text, IsNode, IsCertTree, IsRest}
use Rattle.mapf_certificate.specs.CertReading.{trees_pending_after}

-- if a subtree is pending, the rest begins with a node, and what follows is the rest after it
pub record StartsRest (version : Version) (grid : GridMap) (agents pending : ℕ) (nodes : List Node) (bytes : List ℕ) : Type 0 where
  pub node : Node
  pub others : List Node
  pub after : List ℕ
  pub same : nodes ≡ node ∷ others
  pub in_range : IsNode version grid agents node
  pub spelled : bytes ≡ node_text version grid.width node ++ after
  pub rest : IsRest version grid agents (trees_pending_after pending node) others after

rest_cons : (version : Version) (width : ℕ) (node : Node) (others : List Node) → rest_text version width (node ∷ others) ≡ node_text version width node ++ rest_text version width others
rest_cons version width node others = append_assoc (node_text version width node) (flat_map (node_text version width) others) (line_text width lines.End)

-- a tree with a split at its root is that split and two trees
split_parts : (version : Version) (grid : GridMap) (agents : ℕ) (conflict : Conflict) (blocks : List LabelBlock) (left right : ConstraintTree) → IsCertTree version grid agents (Split conflict blocks left right)
    → IsNode version grid agents (SplitNode conflict blocks) × IsCertTree version grid agents left × IsCertTree version grid agents right
split_parts One grid agents conflict blocks left right ((ranged, are, l, r), (none, p, q)) = ((ranged, are, none), (l, p), (r, q))
split_parts Two grid agents conflict blocks left right ((ranged, are, l, r), all) = ((ranged, are, tt), (l, tt), (r, tt))

split_whole : (version : Version) (grid : GridMap) (agents : ℕ) (conflict : Conflict) (blocks : List LabelBlock) (left right : ConstraintTree) → IsNode version grid agents (SplitNode conflict blocks) → IsCertTree version grid agents left → IsCertTree version grid agents right
    → IsCertTree version grid agents (Split conflict blocks left right)
split_whole One grid agents conflict blocks left right (ranged, are, none) (l, p) (r, q) = ((ranged, are, l, r), (none, p, q))
split_whole Two grid agents conflict blocks left right (ranged, are, may) (l, p) (r, q) = ((ranged, are, l, r), tt)

-- a leaf is a tree in both versions, and so is a clash
leaf_whole : (version : Version) (grid : GridMap) (agents : ℕ) (blocks : List LabelBlock) → IsNode version grid agents (LeafNode blocks) → IsCertTree version grid agents (Leaf blocks)
leaf_whole One grid agents blocks is = (is, tt)
leaf_whole Two grid agents blocks is = (is, tt)

clash_whole : (version : Version) (grid : GridMap) (agents i j : ℕ) → IsNode version grid agents (ClashNode i j) → IsCertTree version grid agents (Clash i j)
clash_whole One grid agents i j is = (is, tt)
clash_whole Two grid agents i j is = (is, tt)

pub rest_starts : (version : Version) (grid : GridMap) (agents pending : ℕ) (nodes : List Node) (bytes : List ℕ) → IsRest version grid agents pending nodes bytes → 1 ≤ pending → StartsRest version grid agents pending nodes bytes
rest_starts version grid agents pending nodes bytes rest some = by rest.trees rest.count rest.in_range rest.same
  where
    by : (trees : List ConstraintTree) → length trees ≡ pending → All (IsCertTree version grid agents) trees → nodes ≡ nodes_of_all trees → StartsRest version grid agents pending nodes bytes
    by [] count all same = absurd (omega arith)
    by (Split conflict blocks left right ∷ trees) count all same =
        let here = split_parts version grid agents conflict blocks left right (All-head (IsCertTree version grid agents) (Split conflict blocks left right) trees all) in
        let others = (nodes_of left ++ nodes_of right) ++ nodes_of_all trees in
        record {
          node = SplitNode conflict blocks;
          others = others;
          after = rest_text version grid.width others;
          same = same;
          in_range = here.0;
          spelled = rest.spelled ∙ ap (rest_text version grid.width) same ∙ rest_cons version grid.width (SplitNode conflict blocks) others;
          rest = record {
            trees = left ∷ right ∷ trees;
            count = omega arith;
            in_range = All-cons (IsCertTree version grid agents) left (right ∷ trees) here.1 (All-cons (IsCertTree version grid agents) right trees here.2 (All-tail (IsCertTree version grid agents) (Split conflict blocks left right) trees all));
            same = append_assoc (nodes_of left) (nodes_of right) (nodes_of_all trees);
            spelled = refl;
          };
        }
    by (Leaf blocks ∷ trees) count all same = record {
      node = LeafNode blocks;
      others = nodes_of_all trees;
      after = rest_text version grid.width (nodes_of_all trees);
      same = same;
      in_range = (All-head (IsCertTree version grid agents) (Leaf blocks) trees all).0;
      spelled = rest.spelled ∙ ap (rest_text version grid.width) same ∙ rest_cons version grid.width (LeafNode blocks) (nodes_of_all trees);
      rest = record { trees = trees; count = omega arith; in_range = All-tail (IsCertTree version grid agents) (Leaf blocks) trees all; same = refl; spelled = refl };
    }
    by (Clash i j ∷ trees) count all same = record {
      node = ClashNode i j;
      others = nodes_of_all trees;
      after = rest_text version grid.width (nodes_of_all trees);
      same = same;
      in_range = (All-head (IsCertTree version grid agents) (Clash i j) trees all).0;
      spelled = rest.spelled ∙ ap (rest_text version grid.width) same ∙ rest_cons version grid.width (ClashNode i j) (nodes_of_all trees);
      rest = record { trees = trees; count = omega arith; in_range = All-tail (IsCertTree version grid agents) (Clash i j) trees all; same = refl; spelled = refl };
    }

-- if no subtree is pending, only the end comes
pub rest_ends : (version : Version) (grid : GridMap) (agents pending : ℕ) (nodes : List Node) (bytes : List ℕ) → IsRest version grid agents pending nodes bytes → pending ≡ 0 → (nodes ≡ []) × (bytes ≡ line_text grid.width lines.End)
rest_ends version grid agents pending nodes bytes rest none = by rest.trees rest.count rest.same
  where
    by : (trees : List ConstraintTree) → length trees ≡ pending → nodes ≡ nodes_of_all trees → (nodes ≡ []) × (bytes ≡ line_text grid.width lines.End)
    by [] count same = (same, rest.spelled ∙ ap (rest_text version grid.width) same)
    by (tree ∷ trees) count same = absurd (omega arith)

pub end_is_rest : (version : Version) (grid : GridMap) (agents pending : ℕ) → pending ≡ 0 → IsRest version grid agents pending [] (line_text grid.width lines.End)
end_is_rest version grid agents pending none = record { trees = []; count = sym none; in_range = All-nil (IsCertTree version grid agents); same = refl; spelled = refl }

-- a node before a rest
pub rest_joins : (version : Version) (grid : GridMap) (agents pending : ℕ) (node : Node) (nodes : List Node) (bytes : List ℕ) → IsNode version grid agents node → 1 ≤ pending → IsRest version grid agents (trees_pending_after pending node) nodes bytes
    → IsRest version grid agents pending (node ∷ nodes) (node_text version grid.width node ++ bytes)
rest_joins version grid agents pending (SplitNode conflict blocks) nodes bytes is some rest = by rest.trees rest.count rest.in_range rest.same
  where
    by : (trees : List ConstraintTree) → length trees ≡ pending + 1 → All (IsCertTree version grid agents) trees → nodes ≡ nodes_of_all trees → IsRest version grid agents pending (SplitNode conflict blocks ∷ nodes) (node_text version grid.width (SplitNode conflict blocks) ++ bytes)
    by [] count all same = absurd (omega arith)
    by (left ∷ []) count all same = absurd (omega arith)
    by (left ∷ right ∷ trees) count all same = record {
      trees = Split conflict blocks left right ∷ trees;
      count = omega arith;
      in_range =
          let more = All-tail (IsCertTree version grid agents) left (right ∷ trees) all in
          All-cons (IsCertTree version grid agents) (Split conflict blocks left right) trees (split_whole version grid agents conflict blocks left right is (All-head (IsCertTree version grid agents) left (right ∷ trees) all) (All-head (IsCertTree version grid agents) right trees more)) (All-tail (IsCertTree version grid agents) right trees more);
      same = ap (λ l. SplitNode conflict blocks ∷ l) (same ∙ sym (append_assoc (nodes_of left) (nodes_of right) (nodes_of_all trees)));
      spelled = ap (λ l. node_text version grid.width (SplitNode conflict blocks) ++ l) rest.spelled ∙ sym (rest_cons version grid.width (SplitNode conflict blocks) nodes);
    }
rest_joins version grid agents pending (LeafNode blocks) nodes bytes is some rest = record {
  trees = Leaf blocks ∷ rest.trees;
  count = omega (arith, rest.count);
  in_range = All-cons (IsCertTree version grid agents) (Leaf blocks) rest.trees (leaf_whole version grid agents blocks is) rest.in_range;
  same = ap (λ l. LeafNode blocks ∷ l) rest.same;
  spelled = ap (λ l. node_text version grid.width (LeafNode blocks) ++ l) rest.spelled ∙ sym (rest_cons version grid.width (LeafNode blocks) nodes);
}
rest_joins version grid agents pending (ClashNode i j) nodes bytes is some rest = record {
  trees = Clash i j ∷ rest.trees;
  count = omega (arith, rest.count);
  in_range = All-cons (IsCertTree version grid agents) (Clash i j) rest.trees (clash_whole version grid agents i j is) rest.in_range;
  same = ap (λ l. ClashNode i j ∷ l) rest.same;
  spelled = ap (λ l. node_text version grid.width (ClashNode i j) ++ l) rest.spelled ∙ sym (rest_cons version grid.width (ClashNode i j) nodes);
}
