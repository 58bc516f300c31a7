-- The root of a search, and the trees of one node.
use Rattle.std.proofs.Common.{◌≡◌, ◌≢◌, ℕ, ◌-◌, ◌<◌, ◌≤◌, ◌++◌, List, [], ◌∷◌, Some, map, length, length-append, sum, sum_by, slice_get, get_or, refl, sym, ◌∙◌, ap, subst, inl, inr, ⊎_elim, arith}
use Rattle.std.proofs.lemmas.Bool.{cases_lt}
use Rattle.std.proofs.lemmas.Option.{slice_get_read, slice_get_within, same_Some, slice_get-map}
use Rattle.std.proofs.lemmas.List.{length-map}
use Rattle.std.proofs.lemmas.List.Sums.{sum-map}
use Rattle.mapf_model.specs.declared.problem.Agent.{Agent}
use Rattle.mapf_model.specs.Grid.{GridMap}
use Rattle.mapf_model.specs.Pairs.{IsFirstPair, HoldsOfNoPair}
use Rattle.mapf_model.specs.Plan.{Instance}
use Rattle.mapf_model.specs.Tree.{ConstraintTree, Node as TreeNode, LeafNode, ClashNode, Leaf, Clash, ShareGoal, root}
use Rattle.mapf_model.proofs.ClaimLemmas.{slice_get_inside}
use Rattle.mapf_model.proofs.SumLemmas.{snoc_get}
use Rattle.mapf_cbs.specs.Answer.{IsImpossibleAnswer}
use Rattle.mapf_cbs.specs.Goals.{HaveDifferentGoals, IsFirstSharingPair, SomeGoalIsUnreachable, NamesFirstDefect}
use Rattle.mapf_cbs.specs.Nodes.{IsRootView}
use Rattle.mapf_cbs.specs.Search.{View, IsLive}
use Rattle.mapf_cbs.specs.Start.{HaveGoal, IsShortest, AreShortest, IsRootStart}
use Rattle.mapf_cbs.proofs.AnswerLemmas.{is_shown_impossible}
use Rattle.mapf_cbs.proofs.CheapestPathLemmas.{cheapest_of_shortest}

-- an element of an equal list
pub read_through : {X : Type 0} (xs ys : List X) (i : ℕ) (x : X) → xs ≡ ys → i < length xs → x ≡ get_or xs i x → slice_get ys i ≡ Some x
read_through xs ys i x same within is = subst (λ zs. slice_get zs i ≡ Some x) same (slice_get_read xs (length xs) i x refl within is)

pub AreShortest-more : (problem : Instance) (paths : List (List ℕ)) (agent : Agent) (path : List ℕ) → AreShortest problem paths →
    slice_get problem.agents (length paths) ≡ Some agent → IsShortest problem.grid agent path → AreShortest problem (paths ++ path ∷ [])
AreShortest-more problem paths agent path shortest this is =
    let inside : length paths < length problem.agents = slice_get_within problem.agents (length paths) agent this in
    record {
      within = omega (arith, length-append paths (path ∷ []));
      each = λ i a p ea ep. ⊎_elim
          (λ (old : slice_get paths i ≡ Some p). shortest.each i a p ea old)
          (λ (new : (i ≡ length paths) × (path ≡ p)).
          let same = same_Some agent a (sym this ∙ subst (λ j. slice_get problem.agents j ≡ Some a) new.0 ea) in
          subst (λ x. IsShortest problem.grid a x) new.1 (subst (λ x. IsShortest problem.grid x path) same is))
          (snoc_get paths path i p ep);
    }

some_cells : (grid : GridMap) (agent : Agent) (path : List ℕ) → IsShortest grid agent path → 1 ≤ length path
some_cells grid agent [] short = absurd (short.lawful.is_path.nonempty refl)
some_cells grid agent (x ∷ xs) short = omega arith

-- the root: no constraints, and the agents' shortest paths
pub record IsRootOf (problem : Instance) (paths : List (List ℕ)) : Type 0 where
  pub view : View
  pub is_root : IsRootView paths view
  pub live : IsLive problem view
  pub total : sum view.costs ≡ sum_by (λ path. length path - 1) paths

pub root_of : (problem : Instance) (paths : List (List ℕ)) → length paths ≡ length problem.agents → AreShortest problem paths → IsRootOf problem paths
root_of problem paths count shortest = record {
  view = record { context = root; paths = paths; costs = map (λ path. length path - 1) paths; blocks = [] };
  is_root = record { context = refl; same_paths = refl; blocks = refl };
  live = record {
    counted = record { paths = count; costs = length-map paths (λ path. length path - 1) ∙ count };
    own = tt;
    each = λ i agent path cost a p c.
        let e = slice_get-map (λ path. length path - 1) paths i in
        let same : length path - 1 ≡ cost = same_Some (length path - 1) cost (let f : slice_get (map (λ path. length path - 1) paths) i ≡ Some (length path - 1) = rw p at e in sym f ∙ c) in
        let short = shortest.each i agent path a p in
        rw (← same) (cheapest_of_shortest problem.grid agent path short (some_cells problem.grid agent path short));
  };
  total = sum-map (λ path. length path - 1) paths;
}

-- a leaf without blocks, where a goal can't be reached
pub leaf_answer : (problem : Instance) (limit : ℕ) → HaveDifferentGoals problem → SomeGoalIsUnreachable problem → (listed : List TreeNode) → listed ≡ LeafNode [] ∷ [] → IsImpossibleAnswer problem limit listed
leaf_answer problem limit goals (i, agent, is, unreachable) listed listed_are = (
  Leaf [],
  record {
    printable = record {
      spelled = listed_are;
      in_range = record { each = λ k d within. absurd (omega arith); rising = λ a b d lt within. absurd (omega arith) };
    };
    chosen = record {
      few = omega arith;
      earned = record { proper = (λ a b d lt within. absurd (omega arith), λ k d within. absurd (omega arith)); splits = tt };
      first_conflicts = tt;
      first_defect = record { clash = λ a b pair. absurd (goals a b pair.shared); leaf = λ h u. refl };
      blocks = refl;
    };
  },
  is_shown_impossible problem (Leaf []) (record { proper = (λ a b d lt within. absurd (omega arith), λ k d within. absurd (omega arith)); nodes = (λ j other block this found. cc, (i, agent, is, unreachable)) }),
)

share_goal : (problem : Instance) (i j : ℕ) → i ≢ j → HaveGoal problem.agents i j → ShareGoal problem i j
share_goal problem i j differ (a, b, ia, jb, same) = (differ, a, b, ia, jb, same)

-- a pair of agents with the same goal, before which there is no such pair, is the first one
first_pair : (problem : Instance) (i j : ℕ) → IsFirstPair (HaveGoal problem.agents) (length problem.agents) (i, j) → (a b : ℕ) → IsFirstSharingPair problem a b → (i ≡ a) × (j ≡ b)
first_pair problem i j is a b pair =
    let less = is.order in let shared = is.holds in let none = is.first in
    let (differ, p, q, ap_is, bq_is, same) = pair.shared in
    let a_first : a ≡ i = ⊎_elim
    (λ (h : a < i). absurd (none.0 a b h pair.order (slice_get_within problem.agents b q bq_is) (p, q, ap_is, bq_is, same)))
    (λ (h : i ≤ a). ⊎_elim
    (λ (before : i < a). absurd (pair.first i j less (share_goal problem i j (λ e. omega arith) shared) (inl before)))
    (λ (not_before : a ≤ i). omega arith)
    (cases_lt i a))
    (cases_lt a i) in
    let b_first : b ≡ j = ⊎_elim
    (λ (h : b < j). let order = pair.order in absurd (none.1 b (omega (arith, order, a_first)) h (subst (λ n. HaveGoal problem.agents n b) a_first (p, q, ap_is, bq_is, same))))
    (λ (h : j ≤ b). ⊎_elim
    (λ (before : j < b). absurd (pair.first i j less (share_goal problem i j (λ e. omega arith) shared) (inr (sym a_first, before))))
    (λ (not_before : b ≤ j). omega arith)
    (cases_lt j b))
    (cases_lt b j) in
    (sym a_first, sym b_first)

-- a clash of the first two agents with the same goal
pub clash_answer : (problem : Instance) (limit i j : ℕ) → IsFirstPair (HaveGoal problem.agents) (length problem.agents) (i, j) → (listed : List TreeNode) → listed ≡ ClashNode i j ∷ [] → IsImpossibleAnswer problem limit listed
clash_answer problem limit i j is listed listed_are = (
  Clash i j,
  record {
    printable = record {
      spelled = listed_are;
      in_range = (let less = is.order in let within = is.within in omega (arith, less, within), is.within);
    };
    chosen = record {
      few = omega arith;
      earned = record { proper = tt; splits = tt };
      first_conflicts = tt;
      first_defect = record {
        clash = λ a b pair. let e = first_pair problem i j is a b pair in ap (λ n. Clash n j) e.0 ∙ ap (λ n. Clash a n) e.1;
        leaf = λ goals u. absurd (goals i j (share_goal problem i j (λ e. let less = is.order in omega (arith, e, less)) is.holds));
      };
      blocks = tt;
    };
  },
  is_shown_impossible problem (Clash i j) (record { proper = tt; nodes = share_goal problem i j (λ e. let less = is.order in omega (arith, e, less)) is.holds }),
)

-- if no agent has the same goal as a later one, all goals differ
pub none_share : (problem : Instance) → HoldsOfNoPair (HaveGoal problem.agents) (length problem.agents) → (i j : ℕ) → ShareGoal problem i j → ⊥
none_share problem none i j (differ, a, b, ia, jb, same) = ⊎_elim
    (λ (less : i < j). none i j less (slice_get_within problem.agents j b jb) (a, b, ia, jb, same))
    (λ (more : j ≤ i). none j i (omega arith) (slice_get_within problem.agents i a ia) (b, a, jb, ia, sym same))
    (cases_lt i j)

-- at the root of a search the goals differ, and each can be reached
pub root_names : (problem : Instance) (paths : List (List ℕ)) → IsRootStart problem paths → (tree : ConstraintTree) → NamesFirstDefect problem tree
root_names problem paths root_start tree = record {
  clash = λ i j pair. absurd (root_start.goals i j pair.shared);
  leaf = λ goals (i, agent, is, unreachable).
      let count = root_start.count in
      let inside : i < length problem.agents = slice_get_within problem.agents i agent is in
      let path : (path : List ℕ) × (slice_get paths i ≡ Some path) = slice_get_inside paths i (omega arith) in
      absurd (unreachable (length path.0 - 1) (root_start.shortest.each i agent path.0 is path.1).short.walk);
}
