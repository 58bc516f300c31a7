-- The state after a split.
use Rattle.std.proofs.Common.{◌≡◌, ◌≢◌, ◌⊎◌, ℕ, ◌+◌, ◌*◌, ◌^◌, ◌<◌, ◌≤◌, List, [], ◌∷◌, ◌++◌, Option, None, Some, All, Contains, length, sum, slice_get, slice_set, refl, sym, ◌∙◌, ap, subst, inl, inr, ⊎_elim, arith, append_assoc}
use Rattle.std.proofs.lemmas.List.Elements.{All-contains_itself, All-weaker}
use Rattle.std.proofs.lemmas.Map.Views.{All-insert_key}
use Rattle.std.proofs.lemmas.Option.{slice_get_within, same_Some}
use Rattle.mapf_model.specs.declared.constraint.Constraint.{Constraint}
use Rattle.mapf_model.specs.declared.conflict.Conflict.{Conflict}
use Rattle.mapf_model.specs.Plan.{Instance}
use Rattle.mapf_model.specs.Tree.{left_constraint, right_constraint, ShareGoal}
use Rattle.mapf_model.specs.Conflicts.{tick_of}
use Rattle.mapf_model.proofs.ContainsLemmas.{Contains-cons_cases, Contains-cons_old, Contains-cons_new}
use Rattle.mapf_model.specs.declared.label.Entry.{Entry}
use Rattle.mapf_spacetime.specs.declared.found.Found.{Found}
use Rattle.mapf_cbs.specs.declared.node.Node.{Node}
use Rattle.mapf_cbs.specs.declared.node.Node.TheVariants.{Root, Child}
use Rattle.mapf_cbs.specs.declared.node.Status.{Status}
use Rattle.mapf_cbs.specs.declared.node.Status.TheVariants.{Open, Expanded}
use Rattle.mapf_cbs.specs.FirstConflicts.{IsFirstConflict}
use Rattle.mapf_cbs.specs.Search.{View, IsLive, IsEndStatus, IsSearched}
use Rattle.mapf_cbs.specs.Nodes.{AreViews, IsNodeView, IsChildView, IsNodeFor, HavePathsAt, HasTableBar, IsFirstAt}
use Rattle.mapf_cbs.specs.CheapestPath.{IsTableBar}
use Rattle.mapf_cbs.specs.GeneratedChild.{IsGeneratedChild, IsGeneratedState}
use Rattle.mapf_cbs.specs.State.{IsOpenSet, IsState, IsPopped, status_of, key_cmp, with_children, split_statuses, with_key, with_keys}
use Rattle.mapf_model.proofs.PlaceLemmas.{slice_get-set_same, slice_get-set_other, length-slice_set, slice_get-front, slice_get-here}
use Rattle.mapf_cbs.proofs.SumLemmas.{each_two, slice_get-second, length-two_more}
use Rattle.mapf_cbs.proofs.NodeLemmas.{view_in}
use Rattle.mapf_cbs.proofs.ShapeLemmas.{IsGrown}
use Rattle.mapf_cbs.proofs.GrowLemmas.{IsChildStatus, searched_grown}
use Rattle.mapf_cbs.proofs.OpenLemmas.{less_apart, inserted_only, inserted_old, inserted_new, first_open}
use Rattle.mapf_cbs.proofs.ChildLemmas.{of_paths}

pub two_pushed : {X : Type 0} (xs : List X) (x y : X) → (xs ++ x ∷ []) ++ y ∷ [] ≡ xs ++ x ∷ y ∷ []
two_pushed xs x y = append_assoc xs (x ∷ []) (y ∷ [])

generated_status : (problem : Instance) (view child : View) (total : Option ℕ) → IsGeneratedState problem view child total → IsChildStatus problem view child (status_of total)
generated_status problem view child None is = is
generated_status problem view child (Some total) is = (is.0, let a = is.1 in let b = is.2 in omega arith)

pub end_of_total : (total : Option ℕ) → IsEndStatus (status_of total)
end_of_total None = tt
end_of_total (Some total) = tt

-- the outcomes after a split
pub grown_statuses : (statuses : List Status) (k : ℕ) (conflict : Conflict) (left right : Option ℕ) → k < length statuses → IsGrown statuses (split_statuses statuses k conflict left right) k conflict (status_of left) (status_of right)
grown_statuses statuses k conflict left right inside =
    let size = length-two_more statuses (status_of left) (status_of right) in
    let expanded = Expanded conflict (length statuses) in
    let more = statuses ++ status_of left ∷ status_of right ∷ [] in
    subst (λ fs. IsGrown statuses (slice_set fs k expanded) k conflict (status_of left) (status_of right)) (sym (two_pushed statuses (status_of left) (status_of right))) (record {
      size = length-slice_set more k expanded ∙ size;
      split = slice_get-set_same more k expanded (omega arith);
      first = slice_get-set_other more k (length statuses) expanded (λ e. omega arith) ∙ slice_get-here statuses (status_of right ∷ []) (status_of left);
      second = slice_get-set_other more k (length statuses + 1) expanded (λ e. omega arith) ∙ slice_get-second statuses (status_of left) (status_of right);
      others = λ m within other. slice_get-set_other more k m expanded other ∙ slice_get-front statuses (status_of left ∷ status_of right ∷ []) m within;
      left_end = end_of_total left;
      right_end = end_of_total right;
    })

-- the nodes after a split denote the states after it
module _ (nodes : List Node) (views : List View) (are : AreViews nodes views) (k : ℕ) (view : View) (is : slice_get views k ≡ Some view)
    (p q : Constraint) (p_in : p.agent < length view.paths) (q_in : q.agent < length view.paths) (f g : Found (List Entry)) (x y : View) (x_is : IsChildView view p f x) (y_is : IsChildView view q g y) where
  lift_view : (m : ℕ) (node : Node) (v : View) → IsNodeView views m node v → IsNodeView (views ++ x ∷ y ∷ []) m node v
  lift_view m (Root paths) v h = h
  lift_view m (Child parent constraint found) v h = (h.0, h.1, slice_get-front views (x ∷ y ∷ []) parent (slice_get_within views parent h.1 h.2) ∙ h.2, h.3, h.4)

  views_grown : AreViews (nodes ++ Child k p f ∷ Child k q g ∷ []) (views ++ x ∷ y ∷ [])
  views_grown =
      let e = are.lengths in
      let one = length-two_more views x y in
      let two = length-two_more nodes (Child k p f) (Child k q g) in
      let within : k < length views = slice_get_within views k view is in
      let here : slice_get (views ++ x ∷ y ∷ []) k ≡ Some view = slice_get-front views (x ∷ y ∷ []) k within ∙ is in
      record {
        lengths = omega arith;
        each = λ m node v node_is v_is. each_two (λ m node. (v : View) → slice_get (views ++ x ∷ y ∷ []) m ≡ Some v → IsNodeView (views ++ x ∷ y ∷ []) m node v) nodes (Child k p f) (Child k q g)
            (λ m node node_is v v_is. let inside : m < length nodes = slice_get_within nodes m node node_is in
            lift_view m node v (are.each m node v node_is (sym (slice_get-front views (x ∷ y ∷ []) m (omega arith)) ∙ v_is)))
            (λ v v_is. let same : x ≡ v = same_Some x v (sym (slice_get-here views (y ∷ []) x) ∙ subst (λ n. slice_get (views ++ x ∷ y ∷ []) n ≡ Some v) (sym e) v_is) in
            (omega arith, view, here, p_in, subst (λ w. IsChildView view p f w) same x_is))
            (λ v v_is. let same : y ≡ v = same_Some y v (sym (slice_get-second views x y) ∙ subst (λ n. slice_get (views ++ x ∷ y ∷ []) (n + 1) ≡ Some v) (sym e) v_is) in
            (omega arith, view, here, q_in, subst (λ w. IsChildView view q g w) same y_is))
            m node node_is v v_is;
      }

  pub views_pushed : AreViews ((nodes ++ Child k p f ∷ []) ++ Child k q g ∷ []) (views ++ x ∷ y ∷ [])
  views_pushed = subst (λ ns. AreViews ns (views ++ x ∷ y ∷ [])) (sym (two_pushed nodes (Child k p f) (Child k q g))) views_grown

  -- what holds of each node before a split holds of each after it
  pub each_pushed : (P : ℕ → Node → Type 0) → ((m : ℕ) (node : Node) → slice_get nodes m ≡ Some node → P m node) → P (length nodes) (Child k p f) → P (length nodes + 1) (Child k q g) →
      (m : ℕ) (node : Node) → slice_get ((nodes ++ Child k p f ∷ []) ++ Child k q g ∷ []) m ≡ Some node → P m node
  each_pushed P each first second m node node_is = each_two P nodes (Child k p f) (Child k q g) each first second m node
      (subst (λ ns. slice_get ns m ≡ Some node) (two_pushed nodes (Child k p f) (Child k q g)) node_is)

with_key_only : (keys : List (ℕ × ℕ)) (n : ℕ) (total : Option ℕ) (x : ℕ × ℕ) → Contains (with_key keys n total) x → Contains keys x ⊎ ((s : ℕ) × (total ≡ Some s) × (x ≡ (s, n)))
with_key_only keys n None x h = inl h
with_key_only keys n (Some s) x h = ⊎_elim (λ (e : x ≡ (s, n)). inr (s, refl, e)) (λ (old : Contains keys x). inl old) (inserted_only keys (s, n) x h)

with_key_old : (keys : List (ℕ × ℕ)) (n : ℕ) (total : Option ℕ) (x : ℕ × ℕ) → Contains keys x → Contains (with_key keys n total) x
with_key_old keys n None x h = h
with_key_old keys n (Some s) x h = inserted_old keys (s, n) x h

open_total : (total : Option ℕ) → status_of total ≡ Open → (s : ℕ) × (total ≡ Some s)
open_total None e = absurd cc
open_total (Some s) e = (s, refl)

with_key_new : (keys : List (ℕ × ℕ)) (n : ℕ) (total : Option ℕ) (s : ℕ) → total ≡ Some s → Contains (with_key keys n total) (s, n)
with_key_new keys n None s e = absurd cc
with_key_new keys n (Some t) s e = let same : t ≡ s = same_Some t s e in subst (λ z. Contains (with_key keys n (Some t)) (z, n)) same (inserted_new keys (t, n))

-- once a child is added, all numbers are below the one after its
pub newest_after : (keys : List (ℕ × ℕ)) (number : ℕ) (total : Option ℕ) → All (λ key. key.1 < number) keys → All (λ key. key.1 < number + 1) (with_key keys number total)
newest_after keys number total newest = by total
  where
    later : All (λ key. key.1 < number + 1) keys
    later = All-weaker (λ key. key.1 < number) (λ key. key.1 < number + 1) (λ key h. omega (arith, h)) keys newest

    by : (o : Option ℕ) → All (λ key. key.1 < number + 1) (with_key keys number o)
    by None = later
    by (Some sum) = All-insert_key key_cmp (sum, number) (λ key. key.1 < number + 1) keys later (omega arith)

-- no open node is cheaper than the one that is being expanded
pub least_popped : (problem : Instance) (nodes : List Node) (statuses : List Status) (rest : List (ℕ × ℕ)) (count total k : ℕ) (popped : IsPopped problem nodes statuses rest count total k) (view : View) → slice_get popped.state.views k ≡ Some view →
    (m : ℕ) (other : View) → slice_get popped.state.views m ≡ Some other → slice_get statuses m ≡ Some Open → sum view.costs ≤ sum other.costs
least_popped problem nodes statuses rest count total k popped view is m other m_is m_open =
    let first = first_open ((total, k) ∷ rest) rest (total, k) popped.state.views statuses refl popped.above popped.state.opens in
    let same : first.0 ≡ view = same_Some first.0 view (sym first.1 ∙ is) in
    subst (λ (w : View). sum w.costs ≤ sum other.costs) same (first.4 m other m_is m_open)

module _ (problem : Instance) (nodes : List Node) (statuses : List Status) (rest : List (ℕ × ℕ)) (count total k : ℕ) (popped : IsPopped problem nodes statuses rest count total k)
    (goals : (i j : ℕ) → ShareGoal problem i j → ⊥) (view : View) (is : slice_get popped.state.views k ≡ Some view) (is_open : slice_get statuses k ≡ Some Open) (total_is : total ≡ sum view.costs)
    (conflict : Conflict) (on_first : IsFirstConflict view.paths conflict) (early : tick_of conflict < 1000000)
    (f g : Found (List Entry)) (s t : Option ℕ) (left : IsGeneratedChild problem view (left_constraint conflict) f s) (right : IsGeneratedChild problem view (right_constraint conflict) g t)
  where
    same_length : length popped.state.views ≡ length nodes
    same_length = popped.state.are.lengths

    same_statuses : length popped.state.views ≡ length statuses
    same_statuses = popped.state.searched.lengths

    grown : IsGrown statuses (split_statuses statuses k conflict s t) k conflict (status_of s) (status_of t)
    grown = grown_statuses statuses k conflict s t (slice_get_within statuses k Open is_open)

    first_status : slice_get (split_statuses statuses k conflict s t) (length nodes) ≡ Some (status_of s)
    first_status = let a = same_length in let b = same_statuses in let e : length statuses ≡ length nodes = omega arith in subst (λ n. slice_get (split_statuses statuses k conflict s t) n ≡ Some (status_of s)) e grown.first

    second_status : slice_get (split_statuses statuses k conflict s t) (length nodes + 1) ≡ Some (status_of t)
    second_status = let a = same_length in let b = same_statuses in let e : length statuses + 1 ≡ length nodes + 1 = omega arith in subst (λ n. slice_get (split_statuses statuses k conflict s t) n ≡ Some (status_of t)) e grown.second

    first_view : slice_get (popped.state.views ++ left.child ∷ right.child ∷ []) (length nodes) ≡ Some left.child
    first_view = subst (λ n. slice_get (popped.state.views ++ left.child ∷ right.child ∷ []) n ≡ Some left.child) same_length (slice_get-here popped.state.views (right.child ∷ []) left.child)

    second_view : slice_get (popped.state.views ++ left.child ∷ right.child ∷ []) (length nodes + 1) ≡ Some right.child
    second_view = subst (λ n. slice_get (popped.state.views ++ left.child ∷ right.child ∷ []) (n + 1) ≡ Some right.child) same_length (slice_get-second popped.state.views left.child right.child)

    generated_sum : (child : View) (state : Option ℕ) (n : ℕ) → state ≡ Some n → IsGeneratedState problem view child state → n ≡ sum child.costs
    generated_sum child None n e st = absurd cc
    generated_sum child (Some m) n e st = sym (same_Some m n e) ∙ st.1

    generated_small : (child : View) (state : Option ℕ) (n : ℕ) → state ≡ Some n → IsGeneratedState problem view child state → n ≤ sum view.costs + 2 ^ 32
    generated_small child None n e st = absurd cc
    generated_small child (Some m) n e st = subst (λ z. z ≤ sum view.costs + 2 ^ 32) (same_Some m n e) st.3

    old_key : (x : ℕ × ℕ) → Contains rest x → (v : View) × (slice_get (popped.state.views ++ left.child ∷ right.child ∷ []) x.1 ≡ Some v) × (slice_get (split_statuses statuses k conflict s t) x.1 ≡ Some Open) × (x.0 ≡ sum v.costs)
    old_key x in_rest =
        let was = popped.state.opens.only x (Contains-cons_old (total, k) x rest in_rest) in
        let inside : x.1 < length statuses = slice_get_within statuses x.1 Open was.2 in
        let other : x.1 ≢ k = λ e.
        let v_is : was.0 ≡ view = same_Some was.0 view (sym was.1 ∙ subst (λ n. slice_get popped.state.views n ≡ Some view) (sym e) is) in
        let sum_is : x.0 ≡ total = was.3 ∙ ap (λ (v : View). sum v.costs) v_is ∙ sym total_is in
        less_apart (total, k) x (popped.above x in_rest) (ap (λ n. (n, k)) (sym sum_is) ∙ ap (λ n. (x.0, n)) (sym e)) in
        (was.0, slice_get-front popped.state.views (left.child ∷ right.child ∷ []) x.1 (slice_get_within popped.state.views x.1 was.0 was.1) ∙ was.1, grown.others x.1 inside other ∙ was.2, was.3)

    new_key : (n : ℕ) (child : View) (state : Option ℕ) (x : ℕ × ℕ) → slice_get (popped.state.views ++ left.child ∷ right.child ∷ []) n ≡ Some child → slice_get (split_statuses statuses k conflict s t) n ≡ Some (status_of state) → IsGeneratedState problem view child state →
        (z : ℕ) → state ≡ Some z → x ≡ (z, n) → (v : View) × (slice_get (popped.state.views ++ left.child ∷ right.child ∷ []) x.1 ≡ Some v) × (slice_get (split_statuses statuses k conflict s t) x.1 ≡ Some Open) × (x.0 ≡ sum v.costs)
    new_key n child state x v_is f_is st z e x_is =
        let number : x.1 ≡ n = ap (λ (y : ℕ × ℕ). y.1) x_is in
        let value : x.0 ≡ z = ap (λ (y : ℕ × ℕ). y.0) x_is in
        let f_open : slice_get (split_statuses statuses k conflict s t) n ≡ Some Open = f_is ∙ ap (λ o. Some (status_of o)) e in
        (child, subst (λ m. slice_get (popped.state.views ++ left.child ∷ right.child ∷ []) m ≡ Some child) (sym number) v_is, subst (λ m. slice_get (split_statuses statuses k conflict s t) m ≡ Some Open) (sym number) f_open, value ∙ generated_sum child state z e st)

    opens_grown : IsOpenSet (with_keys rest (length nodes) s t) (popped.state.views ++ left.child ∷ right.child ∷ []) (split_statuses statuses k conflict s t)
    opens_grown = record {
      only = λ x in_it. ⊎_elim
          (λ (h : Contains (with_key rest (length nodes) s) x). ⊎_elim
          (λ (old : Contains rest x). old_key x old)
          (λ (new : (z : ℕ) × (s ≡ Some z) × (x ≡ (z, length nodes))). new_key (length nodes) left.child s x first_view first_status left.state new.0 new.1 new.2)
          (with_key_only rest (length nodes) s x h))
          (λ (new : (z : ℕ) × (t ≡ Some z) × (x ≡ (z, length nodes + 1))). new_key (length nodes + 1) right.child t x second_view second_status right.state new.0 new.1 new.2)
          (with_key_only (with_key rest (length nodes) s) (length nodes + 1) t x in_it);
      each = λ m v v_is f_is.
          let size = same_length in let sizes = same_statuses in
          each_two (λ m (v : View). slice_get (split_statuses statuses k conflict s t) m ≡ Some Open → Contains (with_keys rest (length nodes) s t) (sum v.costs, m)) popped.state.views left.child right.child
          (λ m v old f_is. let inside : m < length popped.state.views = slice_get_within popped.state.views m v old in
          let other : m ≢ k = λ e. let expanded : Open ≡ Expanded conflict (length statuses) = same_Some Open (Expanded conflict (length statuses)) (sym f_is ∙ subst (λ n. slice_get (split_statuses statuses k conflict s t) n ≡ Some (Expanded conflict (length statuses))) (sym e) grown.split) in cc in
          let at = popped.state.opens.each m v old (sym (grown.others m (omega arith) other) ∙ f_is) in
          ⊎_elim
          (λ (same : (total, k) ≡ (sum v.costs, m)). absurd (other (sym (ap (λ (y : ℕ × ℕ). y.1) same))))
          (λ (in_rest : Contains rest (sum v.costs, m)). with_key_old (with_key rest (length nodes) s) (length nodes + 1) t (sum v.costs, m) (with_key_old rest (length nodes) s (sum v.costs, m) in_rest))
          (Contains-cons_cases (total, k) (sum v.costs, m) rest at))
          (λ f_is. let is_some = open_total s (same_Some (status_of s) Open (sym first_status ∙ subst (λ n. slice_get (split_statuses statuses k conflict s t) n ≡ Some Open) size f_is)) in
          subst (λ n. Contains (with_keys rest (length nodes) s t) (sum left.child.costs, n)) (sym size)
          (subst (λ z. Contains (with_keys rest (length nodes) s t) (z, length nodes)) (generated_sum left.child s is_some.0 is_some.1 left.state)
          (with_key_old (with_key rest (length nodes) s) (length nodes + 1) t (is_some.0, length nodes) (with_key_new rest (length nodes) s is_some.0 is_some.1))))
          (λ f_is. let is_some = open_total t (same_Some (status_of t) Open (sym second_status ∙ subst (λ n. slice_get (split_statuses statuses k conflict s t) (n + 1) ≡ Some Open) size f_is)) in
          subst (λ n. Contains (with_keys rest (length nodes) s t) (sum right.child.costs, n + 1)) (sym size)
          (subst (λ z. Contains (with_keys rest (length nodes) s t) (z, length nodes + 1)) (generated_sum right.child t is_some.0 is_some.1 right.state)
          (with_key_new (with_key rest (length nodes) s) (length nodes + 1) t is_some.0 is_some.1)))
          m v v_is f_is;
    }

    small_grown : (x : ℕ × ℕ) → Contains (with_keys rest (length nodes) s t) x → x.0 ≤ ((count + 1) + 200) * 2 ^ 32
    small_grown x in_it =
        let top = popped.state.small (total, k) (Contains-cons_new (total, k) rest) in
        ⊎_elim
        (λ (h : Contains (with_key rest (length nodes) s) x). ⊎_elim
        (λ (old : Contains rest x). let b = popped.state.small x (Contains-cons_old (total, k) x rest old) in omega (arith, b))
        (λ (new : (z : ℕ) × (s ≡ Some z) × (x ≡ (z, length nodes))). let b = generated_small left.child s new.0 new.1 left.state in let e = ap (λ (y : ℕ × ℕ). y.0) new.2 in omega (arith, b, e, top, total_is))
        (with_key_only rest (length nodes) s x h))
        (λ (new : (z : ℕ) × (t ≡ Some z) × (x ≡ (z, length nodes + 1))). let b = generated_small right.child t new.0 new.1 right.state in let e = ap (λ (y : ℕ × ℕ). y.0) new.2 in omega (arith, b, e, top, total_is))
        (with_key_only (with_key rest (length nodes) s) (length nodes + 1) t x in_it)

    pub searched_after : IsSearched problem (popped.state.views ++ left.child ∷ right.child ∷ []) (split_statuses statuses k conflict s t) (count + 1)
    searched_after = searched_grown problem goals popped.state.views statuses count popped.state.searched k view is is_open (least_popped problem nodes statuses rest count total k popped view is) conflict on_first early left.child right.child
        left.context right.context left.bound right.bound
        (status_of s) (status_of t) (generated_status problem view left.child s left.state) (generated_status problem view right.child t right.state) (split_statuses statuses k conflict s t) grown

    pub state_grown : IsState problem (with_children nodes k conflict f g) (split_statuses statuses k conflict s t) (with_keys rest (length nodes) s t) (count + 1)
    state_grown =
        let fit = of_paths view.paths conflict on_first.has early in
        let size = same_length in
        let inside : k < length popped.state.views = slice_get_within popped.state.views k view is in
        record {
          views = popped.state.views ++ left.child ∷ right.child ∷ [];
          are = views_pushed nodes popped.state.views popped.state.are k view is (left_constraint conflict) (right_constraint conflict) fit.0.0 fit.1.0 f g left.child right.child left.is_child right.is_child;
          searched = searched_after;
          opens = opens_grown;
          nodes_for = λ agent known.
              each_pushed nodes popped.state.views popped.state.are k view is (left_constraint conflict) (right_constraint conflict) fit.0.0 fit.1.0 f g left.child right.child left.is_child right.is_child
              (IsNodeFor agent) (popped.state.nodes_for agent known) (omega arith) (omega arith);
          bars = each_pushed nodes popped.state.views popped.state.are k view is (left_constraint conflict) (right_constraint conflict) fit.0.0 fit.1.0 f g left.child right.child left.is_child right.is_child
              (λ m node. HasTableBar node) popped.state.bars fit.0.1 fit.1.1;
          size =
              let was = popped.state.size in
              let more = length-two_more nodes (Child k (left_constraint conflict) f) (Child k (right_constraint conflict) g) in
              ap length (two_pushed nodes (Child k (left_constraint conflict) f) (Child k (right_constraint conflict) g)) ∙ omega (arith, was, more);
          small = small_grown;
        }

    pub grown_views : state_grown.views ≡ popped.state.views ++ left.child ∷ right.child ∷ []
    unfolding state_grown
    grown_views = refl

-- the constraints of both children are of agents of the problem, and a table can hold them
abbrev pub Fits : Instance → Conflict → Type 0
Fits problem conflict = (((left_constraint conflict).agent < length problem.agents) × IsTableBar (left_constraint conflict).bar) × (((right_constraint conflict).agent < length problem.agents) × IsTableBar (right_constraint conflict).bar)

-- the node that is being expanded
pub record IsInHand (problem : Instance) (statuses : List Status) (k total : ℕ) (views : List View) : Type 0 where
  pub view : View
  pub is : slice_get views k ≡ Some view
  pub is_open : slice_get statuses k ≡ Some Open
  pub total_is : total ≡ sum view.costs
  pub live : IsLive problem view

module _ {problem : Instance} {nodes : List Node} {statuses : List Status} {rest : List (ℕ × ℕ)} {count total k : ℕ} (popped : IsPopped problem nodes statuses rest count total k) where
  pub in_hand : IsInHand problem statuses k total popped.state.views
  in_hand =
      let first = popped.state.opens.only (total, k) (Contains-cons_new (total, k) rest) in
      record { view = first.0; is = first.1; is_open = first.2; total_is = first.3; live = popped.state.searched.each k first.0 Open first.1 first.2 }

  -- each agent of the problem has a path at the node that is being expanded
  pub have_paths : (1 ≤ length problem.agents) × (length problem.agents ≤ 200) → {agents : ℕ} → length problem.agents ≡ agents → HavePathsAt nodes k agents
  have_paths (some, few) same =
      subst (HavePathsAt nodes k) same (record {
        nodes_for = popped.state.nodes_for;
        inside = view_in nodes popped.state.views popped.state.are k in_hand.view in_hand.is;
        some = some;
        few = few;
      })

  -- the conflict on which it is split is of agents of the problem, and a table can hold its constraints
  pub fits_there : (conflict : Conflict) → IsFirstAt problem nodes k conflict → tick_of conflict < 1000000 → Fits problem conflict
  fits_there conflict meet early = rw (← in_hand.live.counted.paths) (of_paths in_hand.view.paths conflict (meet popped.state.views in_hand.view popped.state.are in_hand.is in_hand.live).has early)

  -- the numbers of the other open nodes are below that of the next node
  pub older_keys : All (λ key. key.1 < length nodes) rest
  older_keys = All-weaker (Contains rest) (λ key. key.1 < length nodes) older rest (All-contains_itself rest)
    where
      older : (key : ℕ × ℕ) → Contains rest key → key.1 < length nodes
      older key in_rest =
          let at = popped.state.opens.only key (Contains-cons_old (total, k) key rest in_rest) in
          let inside = slice_get_within popped.state.views key.1 at.0 at.1 in
          let lengths = popped.state.are.lengths in
          omega (arith, inside, lengths)
