-- The answers of a search, by its state.
use Rattle.std.proofs.Common.{◌≡◌, All, ℕ, zero, suc, ◌+◌, ◌*◌, ◌^◌, ◌<◌, ◌≤◌, List, [], ◌∷◌, Some, Vec, Contains, length, sum, slice_get, refl, sym, ◌∙◌, ap, subst, inl, inr, arith}
use Rattle.std.specs.declared.alloc.Global.{Global}
use Rattle.mapf_model.proofs.ClaimLemmas.{slice_get_inside, holds_of_plans, shown_at_root}
use Rattle.std.proofs.lemmas.Option.{slice_get_within}
use Rattle.mapf_model.specs.declared.item.Claim.{Claim}
use Rattle.mapf_model.specs.declared.item.Claim.TheVariants.{Cost, Bound, Impossible}
use Rattle.mapf_model.specs.declared.conflict.Conflict.{Conflict}
use Rattle.mapf_model.specs.declared.conflict.Conflict.TheVariants.{Vertex, Swap}
use Rattle.mapf_model.specs.Plan.{Instance, IsValid}
use Rattle.mapf_model.specs.Tree.{ConstraintTree, Node as TreeNode, nodes_of, Shows, Holds, ShareGoal, split_count}
use Rattle.mapf_model.specs.Conflicts.{HasConflict, AreConflictFreeBefore, HaveConflictBefore, HaveSomeConflict, tick_of}
use Rattle.mapf_cbs.specs.declared.node.Node.{Node}
use Rattle.mapf_cbs.specs.declared.node.Node.TheVariants.{Root}
use Rattle.mapf_cbs.specs.declared.node.Status.{Status}
use Rattle.mapf_cbs.specs.declared.node.Status.TheVariants.{Open, Expanded}
use Rattle.mapf_model.specs.Limits.{most_splits}
use Rattle.mapf_model.specs.Grid.{IsGridMap, free_cell_count}
use Rattle.mapf_cbs.specs.Search.{View, IsLive, IsSearched, AreChildrenLater, IsTreeAt}
use Rattle.mapf_cbs.specs.Nodes.{IsRootView, IsNodeView, IsNodeFor, HasTableBar}
use Rattle.mapf_model.specs.declared.cause.Cause.{Cause}
use Rattle.mapf_model.specs.declared.cause.Cause.TheVariants.{Splits, Ticks}
use Rattle.mapf_cbs.specs.declared.outcome.Outcome.TheVariants.{Limit as LimitOutcome}
use Rattle.mapf_model.specs.Answers.{IsShownImpossible, IsShownBound}
use Rattle.mapf_cbs.specs.Answer.{IsTreeOf, IsOptimalAnswer, IsImpossibleAnswer, IsOutcome}
use Rattle.mapf_cbs.specs.Chosen.{IsStoppedAtFirst, IsLeastSum}
use Rattle.mapf_cbs.specs.Goals.{NamesFirstDefect}
use Rattle.mapf_cbs.specs.State.{IsState, IsPopped, IsCauseToStop, IsLeastKey}
use Rattle.mapf_cbs.proofs.ViewLemmas.{live_sum, live_cheapest}
use Rattle.mapf_cbs.proofs.ChildLemmas.{conflict_early}
use Rattle.mapf_cbs.proofs.TreeLemmas.{is_earned, is_on_first, shows_cost, shows_bound, shows_impossible, has_splits, has_blocks, is_stopped, at_leaf, meets_at_a_leaf}
use Rattle.mapf_cbs.proofs.GrowLemmas.{searched_first}
use Rattle.mapf_cbs.proofs.RangeLemmas.{tree_in_range, plan_in_range, sum_in_range}
use Rattle.mapf_cbs.proofs.StateLemmas.{least_popped}
use Rattle.mapf_cbs.proofs.SumLemmas.{of_one}
use Rattle.mapf_model.proofs.ContainsLemmas.{Contains-none}

-- the state at the beginning
pub state_root : (problem : Instance) (paths : List (List ℕ)) (total : ℕ) (view : View) → IsRootView paths view → IsLive problem view → total ≡ sum view.costs → total ≤ 200 * 2 ^ 32 → IsState problem (Root paths ∷ []) (Open ∷ []) ((total, 0) ∷ []) 0
state_root problem paths total view root_view live total_is small = record {
  views = view ∷ [];
  are = record { lengths = refl; each = λ k node v node_is v_is. of_one (λ k n. IsNodeView (view ∷ []) k n v) (Root paths) (of_one (λ k w. IsRootView paths w) view root_view k v v_is) k node node_is };
  searched = searched_first problem view root_view.context root_view.blocks live;
  opens = record {
    only = λ key in_it. only key in_it;
    each = λ m v v_is open_is. of_one (λ k (w : View). Contains {X = ℕ × ℕ} ((total, 0) ∷ []) (sum w.costs, k)) view (0, omega arith, ap (λ n. (n, 0)) total_is) m v v_is;
  };
  nodes_for = λ agent known. of_one (IsNodeFor agent) (Root paths) (refl, (let one = ap length root_view.same_paths in let two = live.counted.paths in omega arith));
  bars = of_one (λ k node. HasTableBar node) (Root paths) tt;
  size = omega arith;
  small = λ key in_it. small_key key in_it;
}
  where
    first_key : (key : ℕ × ℕ) → Contains {X = ℕ × ℕ} ((total, 0) ∷ []) key → (total, 0) ≡ key
    first_key key (zero, within, is) = is
    first_key key (suc k, within, is) = absurd (omega arith)

    only : (key : ℕ × ℕ) → Contains {X = ℕ × ℕ} ((total, 0) ∷ []) key → (v : View) × (slice_get (view ∷ []) key.1 ≡ Some v) × (slice_get (Open ∷ []) key.1 ≡ Some Open) × (key.0 ≡ sum v.costs)
    only key in_it = subst (λ (x : ℕ × ℕ). (v : View) × (slice_get (view ∷ []) x.1 ≡ Some v) × (slice_get (Open ∷ []) x.1 ≡ Some Open) × (x.0 ≡ sum v.costs)) (first_key key in_it) (view, refl, refl, total_is)

    small_key : (key : ℕ × ℕ) → Contains {X = ℕ × ℕ} ((total, 0) ∷ []) key → key.0 ≤ (0 + 200) * 2 ^ 32
    small_key key in_it = let e : total ≡ key.0 = ap (λ (x : ℕ × ℕ). x.0) (first_key key in_it) in omega arith

pub root_views : (problem : Instance) (paths : List (List ℕ)) (total : ℕ) (view : View) (root_view : IsRootView paths view) (live : IsLive problem view) (total_is : total ≡ sum view.costs) (small : total ≤ 200 * 2 ^ 32) → (state_root problem paths total view root_view live total_is small).views ≡ view ∷ []
unfolding state_root
root_views problem paths total view root_view live total_is small = refl

pub state_first : (problem : Instance) (paths : List (List ℕ)) (total : ℕ) (view : View) → IsRootView paths view → IsLive problem view → total ≡ sum view.costs → total ≤ 200 * 2 ^ 32 →
    (nodes : List Node) → nodes ≡ Root paths ∷ [] → IsState problem nodes (Open ∷ []) ((total, 0) ∷ []) 0
state_first problem paths total view root_view live total_is small nodes nodes_is = subst (λ ns. IsState problem ns (Open ∷ []) ((total, 0) ∷ []) 0) (sym nodes_is) (state_root problem paths total view root_view live total_is small)

-- children come later than their parents
pub children_later : (problem : Instance) (nodes : List Node) (statuses : List Status) (keys : List (ℕ × ℕ)) (count : ℕ) → IsState problem nodes statuses keys count → count ≤ most_splits → AreChildrenLater statuses
children_later problem nodes statuses keys count state few k conflict a is =
    let size = state.searched.lengths in let sizes = state.are.lengths in let all = state.size in
    let inside : k < length statuses = slice_get_within statuses k (Expanded conflict a) is in
    let view : (view : View) × (slice_get state.views k ≡ Some view) = slice_get_inside state.views k (omega arith) in
    let expanded = state.searched.each k view.0 (Expanded conflict a) view.1 is in
    let in_b = slice_get_within state.views (a + 1) expanded.to_right.0 expanded.to_right.1 in
    (expanded.later, omega arith, omega arith)

module _ {problem : Instance} {nodes : List Node} {statuses : List Status} {keys rest : List (ℕ × ℕ)} {count total k : ℕ} where
  pub popped_of : IsState problem nodes statuses keys count → IsLeastKey (total, k) keys rest → IsPopped problem nodes statuses rest count total k
  popped_of state least = record { state = subst (λ ks. IsState problem nodes statuses ks count) least.removal state; above = least.above }

pub not_apart : (paths : List (List ℕ)) (conflict : Conflict) → HasConflict paths conflict → HaveSomeConflict paths
not_apart paths (Vertex i j cell tick) (differ, p, q, ip, jq, here, there) = (i, j, tick, p, q, differ, ip, jq, inl (here ∙ sym there))
not_apart paths (Swap i j from to tick) (differ, moved, p, q, ip, jq, here, there) = (i, j, tick, p, q, differ, ip, jq, inr (here.0 ∙ sym there.1, here.1 ∙ sym there.0))

-- a tree of the search can be printed, and its splits are earned
is_tree_of : (problem : Instance) → IsGridMap problem.grid → ((tree : ConstraintTree) → NamesFirstDefect problem tree) → (views : List View) (statuses : List Status) (count limit : ℕ) → count ≤ limit → IsSearched problem views statuses count → (listed : List TreeNode) (tree : ConstraintTree) → (listed ≡ nodes_of tree) → IsTreeAt views statuses 0 tree → IsTreeOf problem limit listed tree
is_tree_of problem shape names views statuses count limit within searched listed tree spelled on_tree = record {
  printable = record { spelled = spelled; in_range = tree_in_range problem shape views statuses count searched tree 0 on_tree };
  chosen = record {
    few = (let size = has_splits problem views statuses count searched tree on_tree in omega (arith, size, within));
    earned = is_earned problem views statuses count searched tree on_tree;
    first_conflicts = is_on_first problem views statuses count searched tree on_tree;
    first_defect = names tree;
    blocks = has_blocks problem views statuses count searched tree on_tree;
  };
}

-- what a tree shows holds
shown_holds : (problem : Instance) (claim : Claim) (tree : ConstraintTree) → Shows problem claim tree → Holds problem claim
shown_holds problem claim tree shows = holds_of_plans problem claim (λ plan valid. shown_at_root problem plan valid claim tree shows)

pub is_shown_impossible : (problem : Instance) (tree : ConstraintTree) → Shows problem Impossible tree → IsShownImpossible problem tree
is_shown_impossible problem tree shows = record { shows = shows; impossible = shown_holds problem Impossible tree shows }

-- no open node is left
pub answer_impossible : (problem : Instance) → IsGridMap problem.grid → ((tree : ConstraintTree) → NamesFirstDefect problem tree) → (nodes : List Node) (statuses : List Status) (count limit : ℕ) → count ≤ limit → (state : IsState problem nodes statuses [] count) (listed : List TreeNode) → (tree : ConstraintTree) × (listed ≡ nodes_of tree) × IsTreeAt state.views statuses 0 tree →
    IsImpossibleAnswer problem limit listed
answer_impossible problem shape names nodes statuses count limit within state listed (tree, spell, on_tree) = (
  tree,
  is_tree_of problem shape names state.views statuses count limit within state.searched listed tree spell on_tree,
  is_shown_impossible problem tree (shows_impossible problem state.views statuses count state.searched tree on_tree (λ m m_open.
      let size = state.searched.lengths in
      let inside = slice_get_within statuses m Open m_open in
      let view : (view : View) × (slice_get state.views m ≡ Some view) = slice_get_inside state.views m (omega arith) in
      Contains-none (sum view.0.costs, m) (state.opens.each m view.0 view.1 m_open))),
)

module _ (problem : Instance) (shape : IsGridMap problem.grid) (names : (tree : ConstraintTree) → NamesFirstDefect problem tree) (nodes : List Node) (statuses : List Status) (rest : List (ℕ × ℕ)) (count total k : ℕ) (popped : IsPopped problem nodes statuses rest count total k) (limit : ℕ) (within : count ≤ limit) (listed : List TreeNode) (found : (tree : ConstraintTree) × (listed ≡ nodes_of tree) × IsTreeAt popped.state.views statuses 0 tree) where
  tree_is : IsTreeOf problem limit listed found.0
  tree_is = is_tree_of problem shape names popped.state.views statuses count limit within popped.state.searched listed found.0 found.1 found.2

  module _ (view : View) (is : slice_get popped.state.views k ≡ Some view) (is_open : slice_get statuses k ≡ Some Open) (live : IsLive problem view) where
    least : (m : ℕ) (other : View) → slice_get popped.state.views m ≡ Some other → slice_get statuses m ≡ Some Open → sum view.costs ≤ sum other.costs
    least = least_popped problem nodes statuses rest count total k popped view is

    valid_of : (HaveSomeConflict view.paths → ⊥) → IsValid problem view.paths
    valid_of none = record {
      count = live.counted.paths;
      lawful = λ i agent path a p. (let h = (live_cheapest problem view live).lawful i agent path a p in h.0);
      apart = λ i j tick p q differ ip jq meet. none (i, j, tick, p, q, differ, ip, jq, meet);
    }

    shown_cost : Shows problem (Cost (sum view.costs)) found.0
    shown_cost = shows_cost problem popped.state.views statuses count popped.state.searched found.0 found.2 (sum view.costs) least

    pub answer_found : 1 ≤ length problem.agents → length problem.agents ≤ 200 → All (λ path. length path ≤ 10000000) view.paths → (HaveSomeConflict view.paths → ⊥) → IsOptimalAnswer problem limit view.paths listed
    answer_found some few short none = (
      found.0,
      tree_is,
      record {
        total = sum view.costs;
        optimal = record { valid = valid_of none; sum = live_sum problem view live; least = shown_holds problem (Cost (sum view.costs)) found.0 shown_cost };
        shows = shown_cost;
        plan_in_range = plan_in_range problem shape view live short few some;
        claim_in_range = sum_in_range problem shape view live short few;
      },
      at_leaf problem popped.state.views statuses count popped.state.searched found.0 found.2 k view is is_open,
    )

    shown_bound : 1 ≤ length problem.agents → length problem.agents ≤ 200 → All (λ path. length path ≤ 10000000) view.paths → IsShownBound problem (sum view.costs) found.0
    shown_bound some few short =
        let shows = shows_bound problem popped.state.views statuses count popped.state.searched found.0 found.2 (sum view.costs) least in
        record {
          shows = shows;
          holds = shown_holds problem (Bound (sum view.costs)) found.0 shows;
          claim_in_range = sum_in_range problem shape view live short few;
        }

    answer_splits : (conflict : Conflict) → HasConflict view.paths conflict → tick_of conflict < 1000000 → IsStoppedAtFirst (λ paths. HaveConflictBefore paths 1000000) problem found.0 × (split_count found.0 ≡ count)
    answer_splits conflict meet early = (
      is_stopped problem popped.state.views statuses count popped.state.searched found.0 found.2 (λ paths. HaveConflictBefore paths 1000000) k view is is_open least (not_apart view.paths conflict meet) (conflict, meet, early),
      has_splits problem popped.state.views statuses count popped.state.searched found.0 found.2,
    )

    answer_ticks : ((i j : ℕ) → ShareGoal problem i j → ⊥) → (conflict : Conflict) → HasConflict view.paths conflict → AreConflictFreeBefore view.paths (tick_of conflict) → 1000000 ≤ tick_of conflict →
        IsStoppedAtFirst (λ paths. AreConflictFreeBefore paths 1000000) problem found.0 × (1000000 < (split_count found.0 + 1) * free_cell_count problem.grid)
    answer_ticks goals conflict meet apart late =
        let early = conflict_early problem view live goals (count * free_cell_count problem.grid) (λ i. popped.state.searched.low k view i is) conflict meet in
        let size = has_splits problem popped.state.views statuses count popped.state.searched found.0 found.2 in (
          is_stopped problem popped.state.views statuses count popped.state.searched found.0 found.2 (λ paths. AreConflictFreeBefore paths 1000000) k view is is_open least (not_apart view.paths conflict meet) (λ i j tick p q before. apart i j tick p q (omega arith)),
          rw size (omega arith),
        )

    -- the answer of a search that stops
    module _ (some : 1 ≤ length problem.agents) (few : length problem.agents ≤ 200) (short : All (λ path. length path ≤ 10000000) view.paths) (bound : ℕ) (bound_is : bound ≡ sum view.costs) where
      is_bound : IsShownBound problem bound found.0 × IsLeastSum problem bound found.0
      is_bound = subst (λ b. IsShownBound problem b found.0 × IsLeastSum problem b found.0) (sym bound_is)
          (shown_bound some few short, meets_at_a_leaf problem popped.state.views statuses count popped.state.searched found.0 found.2 k view is is_open least)

      pub answer_limit : ((i j : ℕ) → ShareGoal problem i j → ⊥) → (conflict : Conflict) → HasConflict view.paths conflict → AreConflictFreeBefore view.paths (tick_of conflict) → (cause : Cause) → IsCauseToStop conflict count limit cause →
          (whole : Vec TreeNode Global) → whole.items ≡ listed → IsOutcome problem limit (LimitOutcome cause bound whole)
      answer_limit goals conflict meet apart Ticks late whole same =
          let a = answer_ticks goals conflict meet apart late in
          (found.0, subst (λ its. IsTreeOf problem limit its found.0) (sym same) tree_is, is_bound.0, is_bound.1, a)
      answer_limit goals conflict meet apart (Splits n) (early, is_limit, all) whole same =
          let a = answer_splits conflict meet early in
          (found.0, subst (λ its. IsTreeOf problem limit its found.0) (sym same) tree_is, is_bound.0, is_bound.1, (a.0, is_limit, a.1 ∙ all))
