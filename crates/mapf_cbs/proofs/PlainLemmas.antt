-- The state of a search with full nodes.
use Rattle.std.proofs.Common.{◌≡◌, ◌≢◌, ℕ, ◌+◌, ◌*◌, ◌^◌, ◌<◌, ◌≤◌, List, [], ◌∷◌, ◌++◌, Option, Some, Contains, length, length-append, sum, slice_get, get_or, refl, sym, ◌∙◌, ap, subst, ⊎_elim, arith, cond, nat_eq}
use Rattle.std.specs.declared.cmp.Ordering.TheVariants.{Less}
use Rattle.std.proofs.lemmas.Bool.{cases_eq, cases_lt, cond_both, eqb-true, eqb-false}
use Rattle.std.proofs.lemmas.Option.{slice_get_read, slice_get_within, same_Some}
use Rattle.mapf_model.specs.declared.conflict.Conflict.{Conflict}
use Rattle.mapf_model.specs.Plan.{Instance}
use Rattle.mapf_model.specs.Tree.{ShareGoal, left_constraint, right_constraint}
use Rattle.mapf_model.specs.Conflicts.{tick_of}
use Rattle.mapf_model.proofs.ClaimLemmas.{slice_get_inside}
use Rattle.mapf_model.proofs.ContainsLemmas.{Contains-cons_cases, Contains-none, Contains-cons_old, Contains-cons_new}
use Rattle.mapf_model.proofs.SumLemmas.{snoc_get}
use Rattle.mapf_cbs.specs.declared.node.Status.{Status}
use Rattle.mapf_cbs.specs.declared.node.Status.TheVariants.{Open}
use Rattle.mapf_cbs.specs.declared.node.Node.TheVariants.{Root}
use Rattle.mapf_cbs.specs.declared.whole_node.WholeNode.{WholeNode}
use Rattle.mapf_cbs.specs.FirstConflicts.{IsFirstConflict}
use Rattle.mapf_cbs.specs.Endings.{IsExhausted}
use Rattle.mapf_cbs.specs.Nodes.{IsRootView}
use Rattle.mapf_model.specs.Blocks.{LabelBlock}
use Rattle.mapf_cbs.specs.Start.{IsRootStart}
use Rattle.mapf_cbs.specs.Search.{View, IsLive, AreBlockLists}
use Rattle.mapf_cbs.specs.State.{IsOpenSet, IsState, key_cmp, with_children, split_statuses, with_keys}
use Rattle.mapf_cbs.specs.Whole.{IsFirstAtWhole, IsWhole, AreWhole, IsWholeChild, IsLeastOpen, IsLeastBelow, IsWholeState, IsWholePopped}
use Rattle.mapf_cbs.proofs.AnswerLemmas.{state_root, root_views}
use Rattle.mapf_model.proofs.PlaceLemmas.{slice_get-front, slice_get-here}
use Rattle.mapf_cbs.proofs.StateLemmas.{Fits, IsInHand, in_hand, two_pushed, state_grown, grown_views}
use Rattle.mapf_cbs.proofs.ChildLemmas.{of_paths}
use Rattle.mapf_cbs.proofs.OpenLemmas.{less_key}
use Rattle.mapf_cbs.proofs.SumLemmas.{of_one}
use Rattle.mapf_cbs.proofs.WholeLemmas.{each_more}

-- the keys except that of one node
abbrev others : List (ℕ × ℕ) → ℕ → List (ℕ × ℕ)
others [] k = []
others (x ∷ keys) k = cond (nat_eq x.1 k) (others keys k) (x ∷ others keys k)

others_only : (keys : List (ℕ × ℕ)) (k : ℕ) (x : ℕ × ℕ) → Contains (others keys k) x → Contains keys x × (x.1 ≢ k)
others_only [] k x in_it = absurd (Contains-none x in_it)
others_only (y ∷ keys) k x in_it = cond_both (nat_eq y.1 k) (others keys k) (y ∷ others keys k) (λ zs. Contains zs x → Contains (y ∷ keys) x × (x.1 ≢ k))
    (λ same h. let r = others_only keys k x h in (Contains-cons_old y x keys r.0, r.1))
    (λ differ h. ⊎_elim
    (λ (e : y ≡ x). ((0, omega arith, e), λ f. eqb-false y.1 k differ (ap (λ (z : ℕ × ℕ). z.1) e ∙ f)))
    (λ (rest : Contains (others keys k) x). let r = others_only keys k x rest in (Contains-cons_old y x keys r.0, r.1))
    (Contains-cons_cases y x (others keys k) h))
    in_it

others_old : (keys : List (ℕ × ℕ)) (k : ℕ) (x : ℕ × ℕ) → Contains keys x → x.1 ≢ k → Contains (others keys k) x
others_old [] k x in_it other = absurd (Contains-none x in_it)
others_old (y ∷ keys) k x in_it other = cond_both (nat_eq y.1 k) (others keys k) (y ∷ others keys k) (λ zs. Contains zs x)
    (λ same. ⊎_elim
    (λ (e : y ≡ x). absurd (other (sym (ap (λ (z : ℕ × ℕ). z.1) e) ∙ eqb-true y.1 k same)))
    (λ (h : Contains keys x). others_old keys k x h other)
    (Contains-cons_cases y x keys in_it))
    (λ differ. ⊎_elim
    (λ (e : y ≡ x). (0, omega arith, e))
    (λ (h : Contains keys x). Contains-cons_old y x (others keys k) (others_old keys k x h other))
    (Contains-cons_cases y x keys in_it))

module _ {problem : Instance} {nodes : List WholeNode} {statuses : List Status} {count : ℕ} (s : IsWholeState problem nodes statuses count) where
  node_of : (m : ℕ) (view : View) → slice_get s.state.views m ≡ Some view → (node : WholeNode) × (slice_get nodes m ≡ Some node) × IsWhole node view
  node_of m view is =
      let inside : m < length s.state.views = slice_get_within s.state.views m view is in
      let size = s.whole.lengths in
      let node : (node : WholeNode) × (slice_get nodes m ≡ Some node) = slice_get_inside nodes m (omega arith) in
      (node.0, node.1, s.whole.each m node.0 view node.1 is)

  -- the same state with these keys
  abbrev with_opens : (keys : List (ℕ × ℕ)) → IsOpenSet keys s.state.views statuses → ((key : ℕ × ℕ) → Contains keys key → key.0 ≤ (count + 200) * 2 ^ 32) → IsState problem s.changes statuses keys count
  with_opens keys opens small = record { views = s.state.views; are = s.state.are; searched = s.state.searched; opens = opens; nodes_for = s.state.nodes_for; bars = s.state.bars; size = s.state.size; small = small }

  module _ {k : ℕ} (least : IsLeastOpen nodes statuses (length statuses) k) where
    view_of : (view : View) × (slice_get s.state.views k ≡ Some view) × IsWhole least.node view
    view_of =
        let inside : k < length nodes = slice_get_within nodes k least.node least.is in
        let size = s.whole.lengths in
        let view : (view : View) × (slice_get s.state.views k ≡ Some view) = slice_get_inside s.state.views k (omega arith) in
        (view.0, view.1, s.whole.each k least.node view.0 least.is view.1)

    opens : IsOpenSet ((least.node.total, k) ∷ others s.keys k) s.state.views statuses
    opens = record {
      only = λ key in_it. ⊎_elim
          (λ (e : (least.node.total, k) ≡ key). subst (λ (x : ℕ × ℕ). (view : View) × (slice_get s.state.views x.1 ≡ Some view) × (slice_get statuses x.1 ≡ Some Open) × (x.0 ≡ sum view.costs)) e (view_of.0, view_of.1, least.is_open, view_of.2.total))
          (λ (h : Contains (others s.keys k) key). s.state.opens.only key (others_only s.keys k key h).0)
          (Contains-cons_cases (least.node.total, k) key (others s.keys k) in_it);
      each = λ m view view_is m_open. ⊎_elim
          (λ (e : m ≡ k).
          let same : view_of.0 ≡ view = same_Some view_of.0 view (sym view_of.1 ∙ subst (λ n. slice_get s.state.views n ≡ Some view) e view_is) in
          let sum_is : least.node.total ≡ sum view.costs = view_of.2.total ∙ ap (λ (v : View). sum v.costs) same in
          (0, omega arith, ap (λ n. (n, k)) sum_is ∙ ap (λ n. (sum view.costs, n)) (sym e)))
          (λ (e : m ≢ k). Contains-cons_old (least.node.total, k) (sum view.costs, m) (others s.keys k) (others_old s.keys k (sum view.costs, m) (s.state.opens.each m view view_is m_open) e))
          (cases_eq m k);
    }

    above : (key : ℕ × ℕ) → Contains (others s.keys k) key → key_cmp (least.node.total, k) key ≡ Less
    above key in_rest =
        let from = others_only s.keys k key in_rest in
        let at = s.state.opens.only key from.0 in
        let node = node_of key.1 at.0 at.1 in
        let e : key.0 ≡ node.0.total = at.3 ∙ sym node.2.total in
        let low = least.least key.1 node.0 (slice_get_within statuses key.1 Open at.2) node.1 at.2 in
        less_key (least.node.total, k) key (omega (arith, e, low)) (λ same. ⊎_elim
        (λ (h : key.1 < k). absurd (let f = least.oldest key.1 node.0 h node.1 at.2 in omega (arith, e, f, same)))
        (λ (h : k ≤ key.1). let differ = from.1 in omega (arith, h, differ))
        (cases_lt key.1 k))

    small : (key : ℕ × ℕ) → Contains ((least.node.total, k) ∷ others s.keys k) key → key.0 ≤ (count + 200) * 2 ^ 32
    small key in_it = ⊎_elim
        (λ (e : (least.node.total, k) ≡ key).
        let h = s.state.small (sum view_of.0.costs, k) (s.state.opens.each k view_of.0 view_of.1 least.is_open) in
        let f : least.node.total ≡ key.0 = ap (λ (x : ℕ × ℕ). x.0) e in let t = view_of.2.total in omega (arith, h, f, t))
        (λ (h : Contains (others s.keys k) key). s.state.small key (others_only s.keys k key h).0)
        (Contains-cons_cases (least.node.total, k) key (others s.keys k) in_it)

    -- the least open node is taken
    pub whole_popped : IsWholePopped problem nodes statuses count least.node.total k
    whole_popped = record {
      changes = s.changes;
      rest = others s.keys k;
      popped = record { state = with_opens ((least.node.total, k) ∷ others s.keys k) opens small; above = above };
      whole = s.whole;
      agent_paths = s.agent_paths;
    }

  -- no node is open
  pub whole_exhausted : (limit : ℕ) → count ≤ limit → ((m : ℕ) → m < length statuses → slice_get statuses m ≡ Some Open → ⊥) → (paths : List (List ℕ)) → IsRootStart problem paths → (lists : List (List LabelBlock)) → AreBlockLists s.state.views lists →
      IsExhausted problem limit lists statuses
  whole_exhausted limit within none paths root lists blocks = record {
    paths = paths;
    root = root;
    nodes = s.changes;
    count = count;
    state = with_opens [] (record {
      only = λ key in_it. absurd (Contains-none key in_it);
      each = λ m view view_is m_open. absurd (none m (slice_get_within statuses m Open m_open) m_open);
    }) (λ key in_it. absurd (Contains-none key in_it));
    within = within;
    blocks = blocks;
  }

module _ {nodes others : List WholeNode} {statuses more : List Status} where
  pub least_at : (found : Option ℕ) → nodes ≡ others → statuses ≡ more → IsLeastBelow nodes statuses (length statuses) found → IsLeastBelow others more (length more) found
  least_at found a b is = subst (λ fs. IsLeastBelow others fs (length fs) found) b (subst (λ ns. IsLeastBelow ns statuses (length statuses) found) a is)

  pub least_found : {k : ℕ} → nodes ≡ others → statuses ≡ more → IsLeastOpen nodes statuses (length statuses) k → IsLeastOpen others more (length more) k
  least_found a b is = least_at (Some _) a b is

-- the state at the beginning
pub whole_first : (problem : Instance) (paths : List (List ℕ)) (node : WholeNode) (view : View) → IsRootView paths view → IsLive problem view → IsWhole node view → node.total ≤ 200 * 2 ^ 32 → IsWholeState problem (node ∷ []) (Open ∷ []) 0
whole_first problem paths node view is_root live is small = record {
  changes = Root paths ∷ [];
  keys = (node.total, 0) ∷ [];
  state = state_root problem paths node.total view is_root live is.total small;
  whole = subst (λ vs. AreWhole (node ∷ []) vs) (sym (root_views problem paths node.total view is_root live is.total small))
      (record { lengths = refl; each = λ k n v n_is v_is. of_one (λ k x. IsWhole x v) node (of_one (λ k w. IsWhole node w) view is k v v_is) k n n_is });
  agent_paths = of_one (λ k (n : WholeNode). length n.agent_paths.items ≡ length problem.agents) node (is.count ∙ live.counted.paths);
}

whole_more : (nodes : List WholeNode) (views : List View) → AreWhole nodes views → (node : WholeNode) (view : View) → IsWhole node view → AreWhole (nodes ++ node ∷ []) (views ++ view ∷ [])
whole_more nodes views whole node view is =
    let size = whole.lengths in
    record {
      lengths = let a = length-append nodes (node ∷ []) in let b = length-append views (view ∷ []) in omega (arith, size, a, b);
      each = λ m n v n_is v_is. ⊎_elim
          (λ (old : slice_get nodes m ≡ Some n).
          let inside : m < length nodes = slice_get_within nodes m n old in
          whole.each m n v old (sym (slice_get-front views (view ∷ []) m (omega (arith, inside, size))) ∙ v_is))
          (λ (new : (m ≡ length nodes) × (node ≡ n)).
          let at : m ≡ length views = new.0 ∙ sym size in
          let same : view ≡ v = same_Some view v (sym (slice_get-here views [] view) ∙ subst (λ i. slice_get (views ++ view ∷ []) i ≡ Some v) at v_is) in
          subst (λ x. IsWhole x v) new.1 (subst (λ w. IsWhole node w) same is))
          (snoc_get nodes node m n n_is);
    }

module _ {problem : Instance} {nodes : List WholeNode} {statuses : List Status} {count total k : ℕ} (p : IsWholePopped problem nodes statuses count total k) where
  pub whole_hand : IsInHand problem statuses k total p.popped.state.views
  whole_hand = in_hand p.popped

  pub hand_inside : k < length nodes
  hand_inside = let h = slice_get_within p.popped.state.views k whole_hand.view whole_hand.is in let e = p.whole.lengths in omega (arith, h, e)

  -- the node that is read at its index
  module _ {node : WholeNode} (read : node ≡ get_or nodes k node) where
    pub hand_is : slice_get nodes k ≡ Some node
    hand_is = slice_get_read nodes (length nodes) k node refl hand_inside read

    pub hand_whole : IsWhole node whole_hand.view
    hand_whole = p.whole.each k node whole_hand.view hand_is whole_hand.is

    pub hand_small : count < 100000 → node.total + 2 ^ 32 < 2 ^ 64
    hand_small few =
        let h = p.popped.state.small (total, k) (Contains-cons_new (total, k) p.rest) in
        let t = hand_whole.total in let e = whole_hand.total_is in
        omega (arith, h, t, e, few)

  -- the conflict on which it is split is of agents of the problem, and a table can hold its constraints
  module _ (conflict : Conflict) (meet : IsFirstAtWhole nodes k conflict) where
    pub whole_met : IsFirstConflict whole_hand.view.paths conflict
    whole_met = let node = slice_get_inside nodes k hand_inside in meet node.0 whole_hand.view node.1 (p.whole.each k node.0 whole_hand.view node.1 whole_hand.is)

    pub whole_fits : tick_of conflict < 1000000 → Fits problem conflict
    whole_fits early = rw (← whole_hand.live.counted.paths) (of_paths whole_hand.view.paths conflict whole_met.has early)

  -- the node is split
  pub whole_grown : ((i j : ℕ) → ShareGoal problem i j → ⊥) → (conflict : Conflict) → IsFirstConflict whole_hand.view.paths conflict → tick_of conflict < 1000000 →
      (l r : WholeNode) (a b : Option ℕ) → IsWholeChild problem whole_hand.view (left_constraint conflict) l a → IsWholeChild problem whole_hand.view (right_constraint conflict) r b →
      length l.agent_paths.items ≡ length problem.agents → length r.agent_paths.items ≡ length problem.agents →
      IsWholeState problem ((nodes ++ l ∷ []) ++ r ∷ []) (split_statuses statuses k conflict a b) (count + 1)
  whole_grown goals conflict on_first early l r a b left right l_size r_size = record {
    changes = with_children p.changes k conflict left.found right.found;
    keys = with_keys p.rest (length p.changes) a b;
    state = state_grown problem p.changes statuses p.rest count total k p.popped goals whole_hand.view whole_hand.is whole_hand.is_open whole_hand.total_is conflict on_first early left.found right.found a b left.generated right.generated;
    whole = subst (λ vs. AreWhole ((nodes ++ l ∷ []) ++ r ∷ []) vs)
        (two_pushed p.popped.state.views left.generated.child right.generated.child ∙ sym (grown_views problem p.changes statuses p.rest count total k p.popped goals whole_hand.view whole_hand.is whole_hand.is_open whole_hand.total_is conflict on_first early left.found right.found a b left.generated right.generated))
        (whole_more (nodes ++ l ∷ []) (p.popped.state.views ++ left.generated.child ∷ []) (whole_more nodes p.popped.state.views p.whole l left.generated.child left.whole) r right.generated.child right.whole);
    agent_paths = each_more (λ i n. length n.agent_paths.items ≡ length problem.agents) (nodes ++ l ∷ []) r (length (nodes ++ l ∷ [])) refl
        (each_more (λ i n. length n.agent_paths.items ≡ length problem.agents) nodes l (length nodes) refl p.agent_paths l_size) r_size;
  }
