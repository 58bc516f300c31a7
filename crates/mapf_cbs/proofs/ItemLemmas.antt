-- The nodes of the pending subtrees.
use Rattle.std.proofs.Common.{◌≡◌, ℕ, zero, suc, ◌+◌, ◌*◌, ◌-◌, ◌<◌, ◌≤◌, List, [], ◌∷◌, ◌++◌, Some, reverse, length, slice_get, slice_set, sum_by, refl, sym, ◌∙◌, subst, ⊎_elim, arith, append_assoc}
use Rattle.std.specs.List.{AllZip}
use Rattle.std.proofs.lemmas.List.{append-nil, reverse-append}
use Rattle.std.proofs.lemmas.List.Sums.{sum_by_push}
use Rattle.mapf_model.specs.declared.conflict.Conflict.{Conflict}
use Rattle.mapf_model.specs.Blocks.{LabelBlock}
use Rattle.mapf_model.specs.Tree.{ConstraintTree, Node as TreeNode, Split, Leaf, SplitNode, LeafNode, nodes_of, nodes_of_all}
use Rattle.mapf_cbs.specs.declared.node.Status.{Status}
use Rattle.mapf_cbs.specs.declared.node.Status.TheVariants.{Open, Dead, Expanded}
use Rattle.std.proofs.lemmas.Bool.{cases_lt}
use Rattle.std.proofs.lemmas.Option.{same_Some}
use Rattle.mapf_cbs.specs.Search.{View, IsEndStatus, Shape, Node, End, occurrences, IsShape, IsOneTree, AreBlockLists, AreBlocksAt, IsTreeAt}
use Rattle.mapf_cbs.proofs.ShapeLemmas.{occurs_here, occurs_node, occurrences-past}
use Rattle.mapf_model.proofs.PlaceLemmas.{slice_get-set_other}

-- these nodes, followed by those of the pending subtrees, are the nodes of the whole tree
pub record Leads (views : List View) (statuses : List Status) (listed : List TreeNode) (pending : List ℕ) : Type 0 where
  pub leads : (trees : List ConstraintTree) → AllZip (IsTreeAt views statuses) pending trees → (tree : ConstraintTree) × (listed ++ nodes_of_all trees ≡ nodes_of tree) × IsTreeAt views statuses 0 tree

pub reverse_push : (xs : List ℕ) (x : ℕ) → reverse (xs ++ x ∷ []) ≡ x ∷ reverse xs
reverse_push xs x = reverse-append xs (x ∷ [])

module _ (views : List View) (statuses : List Status) where
  module _ (listed : List TreeNode) (k : ℕ) (pending : List ℕ) (before : Leads views statuses listed (k ∷ pending)) (item : TreeNode) (blocks : List LabelBlock) (here : AreBlocksAt views k blocks) where
    after_split : (conflict : Conflict) (a : ℕ) → slice_get statuses k ≡ Some (Expanded conflict a) → item ≡ SplitNode conflict blocks →
        (trees : List ConstraintTree) → AllZip (IsTreeAt views statuses) (a ∷ (a + 1) ∷ pending) trees → (tree : ConstraintTree) × ((listed ++ item ∷ []) ++ nodes_of_all trees ≡ nodes_of tree) × IsTreeAt views statuses 0 tree
    after_split conflict a is e [] zip = absurd zip
    after_split conflict a is e (left ∷ []) zip = absurd zip.1
    after_split conflict a is e (left ∷ right ∷ trees) zip =
        let whole = before.leads (Split conflict blocks left right ∷ trees) ((here, a, is, zip.0, zip.1.0), zip.1.1) in
        (whole.0, (rw e (simp append_assoc (simp append_assoc at whole.1))), whole.2)

    pub leads_split : (conflict : Conflict) (a : ℕ) → slice_get statuses k ≡ Some (Expanded conflict a) → item ≡ SplitNode conflict blocks → Leads views statuses (listed ++ item ∷ []) (a ∷ (a + 1) ∷ pending)
    leads_split conflict a is e = record { leads = after_split conflict a is e }

    pub leads_leaf : (status : Status) → slice_get statuses k ≡ Some status → IsEndStatus status → item ≡ LeafNode blocks → Leads views statuses (listed ++ item ∷ []) pending
    leads_leaf status is end e = record {
      leads = λ trees zip.
          let whole = before.leads (Leaf blocks ∷ trees) ((here, status, is, end), zip) in
          (whole.0, (rw e (simp append_assoc whole.1)), whole.2);
    }

  pub leads_first : Leads views statuses [] (0 ∷ [])
  leads_first = record { leads = first_of }
    where
      first_of : (trees : List ConstraintTree) → AllZip (IsTreeAt views statuses) (0 ∷ []) trees → (tree : ConstraintTree) × (nodes_of_all trees ≡ nodes_of tree) × IsTreeAt views statuses 0 tree
      first_of [] zip = absurd zip
      first_of (tree ∷ []) zip = (tree, append-nil (nodes_of tree), zip.0)
      first_of (tree ∷ other ∷ trees) zip = absurd zip.1

  pub leads_done : (listed : List TreeNode) → Leads views statuses listed [] → (tree : ConstraintTree) × (listed ≡ nodes_of tree) × IsTreeAt views statuses 0 tree
  leads_done listed before =
      let whole = before.leads [] tt in
      (whole.0, sym (append-nil listed) ∙ whole.1, whole.2)

-- how many nodes of these shapes have this number
abbrev pub occurrences_all : ℕ → List Shape → ℕ
occurrences_all m [] = 0
occurrences_all m (shape ∷ shapes) = occurrences m shape + occurrences_all m shapes

-- the shapes of the pending subtrees: each node occurs there at most once, and still has its blocks
pub record AreOwed (statuses : List Status) (first lists : List (List LabelBlock)) (pending : List ℕ) : Type 0 where
  pub shapes : List Shape
  pub are : AllZip (IsShape statuses) pending shapes
  pub apart : (m : ℕ) → occurrences_all m shapes ≤ 1
  pub kept : (m : ℕ) → 0 < occurrences_all m shapes → slice_get lists m ≡ slice_get first m

module _ (statuses : List Status) (first : List (List LabelBlock)) where
  pub pending_first : (count : ℕ) → IsOneTree statuses count → AreOwed statuses first first (0 ∷ [])
  pending_first count tree = record {
    shapes = tree.shape ∷ [];
    are = (tree.is_shape, tt);
    apart = λ m. ⊎_elim
        (λ (inside : m < length statuses). let e = tree.once m inside in omega (arith, e))
        (λ (past : length statuses ≤ m). let e = occurrences-past statuses 0 m tree.shape tree.is_shape past in omega (arith, e))
        (cases_lt m (length statuses));
    kept = λ m some. refl;
  }

  occurs : (k : ℕ) (shape : Shape) → IsShape statuses k shape → 0 < occurrences k shape
  occurs k (Node n left right) (same, conflict, a, is, on_left, on_right) = let e = occurs_here k n same in let f = occurs_node k n left right in omega (arith, e, f)
  occurs k (End n) (same, status, is, end) = let e = occurs_here k n same in omega (arith, e)

  -- the blocks of a pending node are still there
  module _ (lists : List (List LabelBlock)) (k : ℕ) (pending : List ℕ) where
    still : (shapes : List Shape) → AllZip (IsShape statuses) (k ∷ pending) shapes → 0 < occurrences_all k shapes
    still [] zip = absurd zip
    still (shape ∷ shapes) zip = let h = occurs k shape zip.0 in omega (arith, h)

    blocks_there : AreOwed statuses first lists (k ∷ pending) → slice_get lists k ≡ slice_get first k
    blocks_there before = before.kept k (still before.shapes before.are)

    pub blocks_at : AreOwed statuses first lists (k ∷ pending) → (views : List View) → AreBlockLists views first → (blocks : List LabelBlock) → slice_get lists k ≡ Some blocks → AreBlocksAt views k blocks
    blocks_at before views are blocks is view view_is = are.each k view blocks view_is (sym (blocks_there before) ∙ is)

    split_of : (taken : List LabelBlock) (conflict : Conflict) (a : ℕ) → slice_get statuses k ≡ Some (Expanded conflict a) → (shapes : List Shape) → AllZip (IsShape statuses) (k ∷ pending) shapes → ((m : ℕ) → occurrences_all m shapes ≤ 1) →
        ((m : ℕ) → 0 < occurrences_all m shapes → slice_get lists m ≡ slice_get first m) → AreOwed statuses first (slice_set lists k taken) (a ∷ (a + 1) ∷ pending)
    split_of taken conflict a expanded [] zip apart kept = absurd zip
    split_of taken conflict a expanded (End n ∷ shapes) zip apart kept = let (same, status, is, end) = zip.0 in absurd (subst IsEndStatus (same_Some status (Expanded conflict a) (sym is ∙ expanded)) end)
    split_of taken conflict a expanded (Node n left right ∷ shapes) zip apart kept =
        let (number, c, x, is, on_left, on_right) = zip.0 in
        let same : Expanded c x ≡ Expanded conflict a = same_Some (Expanded c x) (Expanded conflict a) (sym is ∙ expanded) in
        let x_is : x ≡ a = cc in
        record {
          shapes = left ∷ right ∷ shapes;
          are = (subst (λ m. IsShape statuses m left) x_is on_left, (subst (λ m. IsShape statuses (m + 1) right) x_is on_right, zip.1));
          apart = λ m. let h = apart m in let f = occurs_node m n left right in omega (arith, h, f);
          kept = λ m some.
              let f = occurs_node m n left right in
              slice_get-set_other lists k m taken (λ e. let h = apart m in let g = occurs_here m n (e ∙ number) in omega (arith, h, g, f, some)) ∙ kept m (omega (arith, f, some));
        }

    pub pending_split : AreOwed statuses first lists (k ∷ pending) → (taken : List LabelBlock) (conflict : Conflict) (a : ℕ) → slice_get statuses k ≡ Some (Expanded conflict a) → AreOwed statuses first (slice_set lists k taken) (a ∷ (a + 1) ∷ pending)
    pending_split before taken conflict a expanded = split_of taken conflict a expanded before.shapes before.are before.apart before.kept

    end_taken : (taken : List LabelBlock) (status : Status) → slice_get statuses k ≡ Some status → IsEndStatus status → (shapes : List Shape) → AllZip (IsShape statuses) (k ∷ pending) shapes → ((m : ℕ) → occurrences_all m shapes ≤ 1) →
        ((m : ℕ) → 0 < occurrences_all m shapes → slice_get lists m ≡ slice_get first m) → AreOwed statuses first (slice_set lists k taken) pending
    end_taken taken status status_is end [] zip apart kept = absurd zip
    end_taken taken status status_is end (Node n left right ∷ shapes) zip apart kept = let (number, c, x, is, on_left, on_right) = zip.0 in absurd (subst IsEndStatus (same_Some status (Expanded c x) (sym status_is ∙ is)) end)
    end_taken taken status status_is end (End n ∷ shapes) zip apart kept = record {
      shapes = shapes;
      are = zip.1;
      apart = λ m. let h = apart m in omega (arith, h);
      kept = λ m some. slice_get-set_other lists k m taken (λ e. let h = apart m in let g = occurs_here m n (e ∙ zip.0.0) in omega (arith, h, g, some)) ∙ kept m (omega (arith, some));
    }

    pub pending_leaf : AreOwed statuses first lists (k ∷ pending) → (taken : List LabelBlock) (status : Status) → slice_get statuses k ≡ Some status → IsEndStatus status → AreOwed statuses first (slice_set lists k taken) pending
    pending_leaf before taken status is end = end_taken taken status is end before.shapes before.are before.apart before.kept

-- the later a node, the less is left below it
pub weight : ℕ → ℕ
weight zero = 1
weight (suc n) = 3 * weight n

pub weights : ℕ → List ℕ → ℕ
weights end pending = sum_by (λ k. weight (end - k)) pending

weight-some : (n : ℕ) → 0 < weight n
unfolding weight
weight-some zero = omega arith
weight-some (suc n) = let h = weight-some n in omega arith

weight-le : (m d : ℕ) → weight m ≤ weight (d + m)
unfolding weight
weight-le m zero = let e : zero + m ≡ m = omega arith in rw e (omega arith)
weight-le m (suc d) = let e : suc d + m ≡ suc (d + m) = omega arith in let h = weight-le m d in rw e (omega arith)

pub weights-push : (end : ℕ) (pending : List ℕ) (k : ℕ) → weights end (pending ++ k ∷ []) ≡ weights end pending + weight (end - k)
unfolding weights
weights-push end pending k = sum_by_push (λ k. weight (end - k)) pending k

pub weights-leaf : (end : ℕ) (pending : List ℕ) (k : ℕ) → weights end pending < weights end (pending ++ k ∷ [])
weights-leaf end pending k = let e = weights-push end pending k in let h = weight-some (end - k) in omega arith

weight-child : (end k a : ℕ) → k < a → a < end → 3 * weight (end - a) ≤ weight (end - k)
unfolding weight
weight-child end k a later within =
    let e : suc ((a - k - 1) + (end - a)) ≡ end - k = omega arith in
    let h = weight-le (end - a) (a - k - 1) in
    rw (← e) (omega arith)

pub weights-split : (end : ℕ) (pending : List ℕ) (k a b : ℕ) → k < a → k < b → a < end → b < end → weights end ((pending ++ b ∷ []) ++ a ∷ []) < weights end (pending ++ k ∷ [])
weights-split end pending k a b later_a later_b in_a in_b =
    let e = weights-push end pending k in
    let f = weights-push end pending b in
    let g = weights-push end (pending ++ b ∷ []) a in
    let ha = weight-child end k a later_a in_a in
    let hb = weight-child end k b later_b in_b in
    let s = weight-some (end - a) in let t = weight-some (end - b) in
    omega arith

pub end_of : (status : Status) → ((conflict : Conflict) (a : ℕ) → status ≡ Expanded conflict a → ⊥) → IsEndStatus status
end_of Open not_expanded = tt
end_of Dead not_expanded = tt
end_of (Expanded conflict a) not_expanded = not_expanded conflict a refl
