-- The shape of the tree, and how it grows.
use Rattle.std.proofs.Common.{◌≡◌, ◌≢◌, ℕ, ◌+◌, ◌<◌, ◌≤◌, ◌==◌, if◌then◌else◌, true, List, Some, length, slice_get, refl, sym, ◌∙◌, ap, subst, ⊎_elim, arith, nat_eq, eq-eqb}
use Rattle.std.proofs.lemmas.Bool.{cases_eq, cond_both, eqb-true}
use Rattle.std.proofs.lemmas.Option.{slice_get_within, same_Some}
use Rattle.mapf_model.specs.declared.conflict.Conflict.{Conflict}
use Rattle.mapf_cbs.specs.declared.node.Status.{Status}
use Rattle.mapf_cbs.specs.declared.node.Status.TheVariants.{Expanded}
use Rattle.mapf_cbs.specs.Search.{IsEndStatus, Shape, Node, End, splits, occurrences, IsShape, IsOneTree}

-- the end of the number j becomes a split with two ends
abbrev pub graft : ℕ → ℕ → ℕ → Shape → Shape
graft j a b (Node k left right) = Node k (graft j a b left) (graft j a b right)
graft j a b (End k) = if j == k then Node k (End a) (End b) else End k

-- an end has its own number once, and no other number
pub occurs_here : (m k : ℕ) → m ≡ k → occurrences m (End k) ≡ 1
occurs_here m k e = let t : nat_eq m k ≡ true = eq-eqb m k e in rw t refl

occurs_not : (m k : ℕ) → m ≢ k → occurrences m (End k) ≡ 0
occurs_not m k e = cond_both (nat_eq m k) 1 0 (λ n. n ≡ 0) (λ t. absurd (e (eqb-true m k t))) (λ f. refl)

graft_here : (j a b k : ℕ) → j ≡ k → graft j a b (End k) ≡ Node k (End a) (End b)
graft_here j a b k e = let t : nat_eq j k ≡ true = eq-eqb j k e in rw t refl

graft_not : (j a b k : ℕ) → j ≢ k → graft j a b (End k) ≡ End k
graft_not j a b k e = cond_both (nat_eq j k) (Node k (End a) (End b)) (End k) (λ s. s ≡ End k) (λ t. absurd (e (eqb-true j k t))) (λ f. refl)

-- the number and its two children, as one sum
pub occurs_node : (m k : ℕ) (left right : Shape) → occurrences m (Node k left right) ≡ occurrences m (End k) + (occurrences m left + occurrences m right)
occurs_node m k left right = refl

-- other numbers occur as often as before
pub occurrences-graft_other : (j a b m : ℕ) → m ≢ a → m ≢ b → (shape : Shape) → occurrences m (graft j a b shape) ≡ occurrences m shape
occurrences-graft_other j a b m not_a not_b (Node k left right) =
    let l = occurrences-graft_other j a b m not_a not_b left in let r = occurrences-graft_other j a b m not_a not_b right in
    let e = occurs_node m k left right in let f = occurs_node m k (graft j a b left) (graft j a b right) in
    omega arith
occurrences-graft_other j a b m not_a not_b (End k) = ⊎_elim
    (λ (same : j ≡ k). ap (occurrences m) (graft_here j a b k same) ∙ occurs_node m k (End a) (End b) ∙ (let e = occurs_not m a not_a in let f = occurs_not m b not_b in omega arith))
    (λ (differ : j ≢ k). ap (occurrences m) (graft_not j a b k differ))
    (cases_eq j k)

-- a number past the list doesn't occur in the shape
pub occurrences-past : (statuses : List Status) (k m : ℕ) (shape : Shape) → IsShape statuses k shape → length statuses ≤ m → occurrences m shape ≡ 0
occurrences-past statuses k m (Node n left right) (same, conflict, a, is, on_left, on_right) past =
    let l = occurrences-past statuses a m left on_left past in let r = occurrences-past statuses (a + 1) m right on_right past in
    let within : k < length statuses = slice_get_within statuses k (Expanded conflict a) is in
    let e = occurs_not m n (λ e. let n_is : n ≡ m = sym e in omega arith) in
    let f = occurs_node m n left right in
    omega arith
occurrences-past statuses k m (End n) (same, status, is, end) past =
    let within : k < length statuses = slice_get_within statuses k status is in
    occurs_not m n (λ e. let n_is : n ≡ m = sym e in omega arith)

module _ (statuses : List Status) (j : ℕ) (status : Status) (was : slice_get statuses j ≡ Some status) (was_end : IsEndStatus status) where
  -- no split has the number of an end
  pub not_split : (k n : ℕ) (conflict : Conflict) (a : ℕ) → k ≡ n → slice_get statuses k ≡ Some (Expanded conflict a) → occurrences j (End n) ≡ 0
  not_split k n conflict a same is = occurs_not j n (λ e. subst IsEndStatus (same_Some status (Expanded conflict a) (sym was ∙ subst (λ m. slice_get statuses m ≡ Some (Expanded conflict a)) (same ∙ sym e) is)) was_end)

  pub splits-graft : (a b k : ℕ) (shape : Shape) → IsShape statuses k shape → splits (graft j a b shape) ≡ splits shape + occurrences j shape
  splits-graft a b k (Node n left right) (same, c, x, is, on_left, on_right) =
      let l = splits-graft a b x left on_left in let r = splits-graft a b (x + 1) right on_right in
      let e = not_split k n c x same is in let f = occurs_node j n left right in
      omega arith
  splits-graft a b k (End m) on = ⊎_elim
      (λ (same : j ≡ m). ap splits (graft_here j a b m same) ∙ sym (let e = occurs_here j m same in omega arith))
      (λ (differ : j ≢ m). ap splits (graft_not j a b m differ) ∙ sym (let e = occurs_not j m differ in omega arith))
      (cases_eq j m)

  -- each new end occurs as often as the old one did
  pub occurrences-graft_new : (a b c : ℕ) → occurrences c (End a) + occurrences c (End b) ≡ 1 → (k : ℕ) (shape : Shape) → IsShape statuses k shape → occurrences c shape ≡ 0 → occurrences c (graft j a b shape) ≡ occurrences j shape
  occurrences-graft_new a b c one k (Node n left right) (same, d, x, is, on_left, on_right) fresh =
      let g = occurs_node c n left right in
      let l = occurrences-graft_new a b c one x left on_left (omega (arith, fresh, g)) in let r = occurrences-graft_new a b c one (x + 1) right on_right (omega (arith, fresh, g)) in
      let e = not_split k n d x same is in let f = occurs_node j n left right in let h = occurs_node c n (graft j a b left) (graft j a b right) in
      omega arith
  occurrences-graft_new a b c one k (End m) on fresh = ⊎_elim
      (λ (same : j ≡ m). ap (occurrences c) (graft_here j a b m same) ∙ occurs_node c m (End a) (End b) ∙ (let g = occurs_here j m same in omega (arith, fresh, one, g)))
      (λ (other : j ≢ m). ap (occurrences c) (graft_not j a b m other) ∙ (let g = occurs_not j m other in omega (arith, fresh, g)))
      (cases_eq j m)

-- the outcomes after one end is split and two nodes are added
pub record IsGrown (before after : List Status) (j : ℕ) (conflict : Conflict) (left right : Status) : Type 0 where
  pub size : length after ≡ length before + 2
  pub split : slice_get after j ≡ Some (Expanded conflict (length before))
  pub first : slice_get after (length before) ≡ Some left
  pub second : slice_get after (length before + 1) ≡ Some right
  pub others : (k : ℕ) → k < length before → k ≢ j → slice_get after k ≡ slice_get before k
  pub left_end : IsEndStatus left
  pub right_end : IsEndStatus right

module _ (before after : List Status) (j : ℕ) (conflict : Conflict) (left right status : Status) (grown : IsGrown before after j conflict left right) (was : slice_get before j ≡ Some status) (was_end : IsEndStatus status) where
  IsShape-graft : (k : ℕ) (shape : Shape) → IsShape before k shape → IsShape after k (graft j (length before) (length before + 1) shape)
  IsShape-graft k (Node n l r) (same, c, x, is, on_left, on_right) =
      let within : k < length before = slice_get_within before k (Expanded c x) is in
      let other : k ≢ j = λ e. subst IsEndStatus (same_Some status (Expanded c x) (sym was ∙ subst (λ n. slice_get before n ≡ Some (Expanded c x)) e is)) was_end in
      (same, c, x, grown.others k within other ∙ is, IsShape-graft x l on_left, IsShape-graft (x + 1) r on_right)
  IsShape-graft k (End m) (same, f, is, end) = ⊎_elim
      (λ (e : j ≡ m). subst (λ s. IsShape after k s) (sym (graft_here j (length before) (length before + 1) m e))
      (same, conflict, length before, subst (λ n. slice_get after n ≡ Some (Expanded conflict (length before))) (e ∙ sym same) grown.split, (refl, left, grown.first, grown.left_end), (refl, right, grown.second, grown.right_end)))
      (λ (e : j ≢ m).
      let within : k < length before = slice_get_within before k f is in
      subst (λ s. IsShape after k s) (sym (graft_not j (length before) (length before + 1) m e))
      (same, f, grown.others k within (λ x. e (sym x ∙ same)) ∙ is, end))
      (cases_eq j m)

  pub IsOneTree-grown : (count : ℕ) → IsOneTree before count → IsOneTree after (count + 1)
  IsOneTree-grown count tree =
      let inside : j < length before = slice_get_within before j status was in
      let here = tree.once j inside in
      let differ : length before ≢ length before + 1 = omega arith in
      let size = grown.size in
      record {
        shape = graft j (length before) (length before + 1) tree.shape;
        is_shape = IsShape-graft 0 tree.shape tree.is_shape;
        exact = let e = splits-graft before j status was was_end (length before) (length before + 1) 0 tree.shape tree.is_shape in let f = tree.exact in omega arith;
        once = λ k within. ⊎_elim
            (λ (first : k ≡ length before). subst (λ n. occurrences n (graft j (length before) (length before + 1) tree.shape) ≡ 1) (sym first)
            (occurrences-graft_new before j status was was_end (length before) (length before + 1) (length before) (let e = occurs_here (length before) (length before) refl in let f = occurs_not (length before) (length before + 1) differ in omega arith) 0 tree.shape tree.is_shape (occurrences-past before 0 (length before) tree.shape tree.is_shape (omega arith)) ∙ here))
            (λ (not_first : k ≢ length before). ⊎_elim
            (λ (second : k ≡ length before + 1). subst (λ n. occurrences n (graft j (length before) (length before + 1) tree.shape) ≡ 1) (sym second)
            (occurrences-graft_new before j status was was_end (length before) (length before + 1) (length before + 1) (let e = occurs_here (length before + 1) (length before + 1) refl in let f = occurs_not (length before + 1) (length before) (λ x. differ (sym x)) in omega arith) 0 tree.shape tree.is_shape (occurrences-past before 0 (length before + 1) tree.shape tree.is_shape (omega arith)) ∙ here))
            (λ (not_second : k ≢ length before + 1).
            occurrences-graft_other j (length before) (length before + 1) k not_first not_second tree.shape ∙ tree.once k (omega (arith, within, size, not_first, not_second)))
            (cases_eq k (length before + 1)))
            (cases_eq k (length before));
      }
