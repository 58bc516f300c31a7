-- What the tree of a search shows, and that it is earned.
use Rattle.std.proofs.Common.{◌≡◌, ◌≢◌, ◌⊎◌, ℕ, ◌+◌, ◌<◌, ◌≤◌, List, [], ◌∷◌, Option, Some, None, length, sum, map, slice_get, slice_set, refl, sym, ◌∙◌, ap, subst, inl, inr, ⊎_elim, arith, nat_eq}
use Rattle.std.proofs.lemmas.Bool.{cases_eq, cases_lt, cond_both, eqb-true}
use Rattle.std.proofs.lemmas.Option.{slice_get_within, same_Some, slice_get-map}
use Rattle.mapf_model.specs.declared.problem.Agent.{Agent}
use Rattle.mapf_model.specs.declared.label.Label.{Label}
use Rattle.mapf_model.specs.declared.label.Label.TheVariants.{Ticks, Never}
use Rattle.mapf_model.specs.declared.item.Claim.{Claim}
use Rattle.mapf_model.specs.declared.item.Claim.TheVariants.{Cost, Bound, Impossible}
use Rattle.mapf_model.specs.Blocks.{LabelBlock}
use Rattle.mapf_model.specs.Labels.{entries_of, AreSound, IsLabel, IsAtMost, label_sum}
use Rattle.mapf_model.specs.Plan.{Instance, IsSumOfCosts}
use Rattle.mapf_model.specs.declared.bar.Bar.{Bar}
use Rattle.mapf_model.specs.declared.conflict.Conflict.{Conflict}
use Rattle.mapf_model.specs.Tree.{ConstraintTree, Split, Leaf, Clash, NodeContext, AtEachNode, AtEachEnd, AtSomeLeaf, root, left_constraint, right_constraint, left_child_context, right_child_context, split_count, IsProper, IsProperNode, AreProperBlocks, AreBlocksSound, AreStartLabels, StartsAddUpTo, NodeShows, Shows, with_blocks}
use Rattle.mapf_model.specs.Conflicts.{HaveSomeConflict}
use Rattle.mapf_cbs.specs.Earned.{AreCheapest, AreDue, IsEarnedNode, IsEarned}
use Rattle.mapf_cbs.specs.declared.node.Status.{Status}
use Rattle.mapf_cbs.specs.declared.node.Status.TheVariants.{Open, Dead, Expanded}
use Rattle.mapf_cbs.specs.Chosen.{IsLeastSumAt, IsStoppedAtFirst}
use Rattle.mapf_cbs.specs.BoundBlocks.{AreBlocksFor, CarriesBlocksFor, CarriesBoundBlocks}
use Rattle.mapf_cbs.specs.FirstConflicts.{AreFirstPaths, IsOnFirstConflict, AreOnFirstConflicts}
use Rattle.mapf_cbs.specs.Search.{View, entries_at, AreOwnBlocks, IsLive, IsDead, IsStatus, IsCheapestOf, IsEndStatus, Shape, Node, End, splits, occurrences, IsShape, IsSearched, AreBlocksAt, IsTreeAt}
use Rattle.mapf_cbs.proofs.ShapeLemmas.{not_split, occurs_node}
use Rattle.std.proofs.lemmas.List.Elements.{All-push}
use Rattle.mapf_model.proofs.PlaceLemmas.{slice_get-set_same, slice_get-set_other, length-slice_set}
use Rattle.mapf_cbs.proofs.SumLemmas.{length-ticks, label_sum-never, label_sum-ticks}
use Rattle.mapf_cbs.proofs.ViewLemmas.{agent_path_of, live_cheapest, live_first, live_sum, live_least, dead_none}

module _ (problem : Instance) (view : View) where
  agent_path_label : (i : ℕ) (agent : Agent) (label : Label) (path : List ℕ) (cost : ℕ) → slice_get view.costs i ≡ Some cost → slice_get (map Ticks view.costs) i ≡ Some label →
      IsCheapestOf problem view i agent path cost → IsLabel problem.grid agent.goal (entries_at view i) agent.start 0 label
  agent_path_label i agent label path cost is l agent_path =
      let e = slice_get-map Ticks view.costs i in
      let same : Ticks cost ≡ label = same_Some (Ticks cost) label (let f : slice_get (map Ticks view.costs) i ≡ Some (Ticks cost) = rw is at e in sym f ∙ l) in
      subst (λ x. IsLabel problem.grid agent.goal (entries_at view i) agent.start 0 x) same agent_path.start

  live_starts : IsLive problem view → AreStartLabels problem (entries_at view) (map Ticks view.costs)
  live_starts live = record {
    count = length-ticks view.costs ∙ live.counted.costs;
    each = λ i agent label a l. let r = agent_path_of problem view live.counted i agent a in agent_path_label i agent label r.0 r.1 r.3 l (live.each i agent r.0 r.1 a r.2 r.3);
  }

  dead_start : (dead : IsDead problem view) (i : ℕ) (agent : Agent) (label : Label) → slice_get problem.agents i ≡ Some agent → slice_get (slice_set (map Ticks view.costs) dead.who Never) i ≡ Some label → (i ≡ dead.who) ⊎ (i ≢ dead.who) →
      IsLabel problem.grid agent.goal (entries_at view i) agent.start 0 label
  dead_start dead i agent label a l (inl same) =
      let is : dead.agent ≡ agent = same_Some dead.agent agent (sym dead.known ∙ subst (λ n. slice_get problem.agents n ≡ Some agent) same a) in
      let inside : dead.who < length problem.agents = slice_get_within problem.agents dead.who dead.agent dead.known in
      let size : length (map Ticks view.costs) ≡ length problem.agents = length-ticks view.costs ∙ dead.counted.costs in
      let never : Never ≡ label = same_Some Never label (sym (slice_get-set_same (map Ticks view.costs) dead.who Never (omega arith)) ∙ subst (λ n. slice_get (slice_set (map Ticks view.costs) dead.who Never) n ≡ Some label) same l) in
      subst (λ n. IsLabel problem.grid agent.goal (entries_at view n) agent.start 0 label) (sym same)
      (subst (λ (x : Agent). IsLabel problem.grid x.goal (entries_at view dead.who) x.start 0 label) is
      (subst (λ x. IsLabel problem.grid dead.agent.goal (entries_at view dead.who) dead.agent.start 0 x) never dead.blocked.start))
  dead_start dead i agent label a l (inr differ) =
      let r = agent_path_of problem view dead.counted i agent a in
      agent_path_label i agent label r.0 r.1 r.3 (sym (slice_get-set_other (map Ticks view.costs) dead.who i Never differ) ∙ l) (dead.each i agent r.0 r.1 differ a r.2 r.3)

  dead_starts : (dead : IsDead problem view) → AreStartLabels problem (entries_at view) (slice_set (map Ticks view.costs) dead.who Never)
  dead_starts dead = record {
    count = length-slice_set (map Ticks view.costs) dead.who Never ∙ length-ticks view.costs ∙ dead.counted.costs;
    each = λ i agent label a l. dead_start dead i agent label a l (cases_eq i dead.who);
  }

  dead_infinite : (dead : IsDead problem view) → label_sum (slice_set (map Ticks view.costs) dead.who Never) ≡ Never
  dead_infinite dead =
      let inside : dead.who < length problem.agents = slice_get_within problem.agents dead.who dead.agent dead.known in
      let size : length (map Ticks view.costs) ≡ length problem.agents = length-ticks view.costs ∙ dead.counted.costs in
      label_sum-never (slice_set (map Ticks view.costs) dead.who Never) dead.who (slice_get-set_same (map Ticks view.costs) dead.who Never (omega arith))

  -- a node's own blocks are proper and sound
  own_proper : (bars : ℕ → List Bar) (blocks : List LabelBlock) → AreOwnBlocks problem bars blocks → AreProperBlocks problem blocks
  own_proper bars [] own = (λ a b d lt within. absurd (omega arith), λ k d within. absurd (omega arith))
  own_proper bars (block ∷ []) own = (
    λ a b d lt within. absurd (omega arith),
    All-push (λ (block : LabelBlock). block.agent < length problem.agents) [] block (λ k d within. absurd (omega arith)) (slice_get_within problem.agents block.agent own.agent own.known),
  )
  own_proper bars (block ∷ other ∷ blocks) own = absurd own

  own_sound : (context : NodeContext) (blocks : List LabelBlock) → AreOwnBlocks problem context.bars blocks → AreBlocksSound problem context blocks
  own_sound context [] own i agent block a is = cc
  own_sound context (first ∷ []) own i agent block a is = cond_both (nat_eq first.agent i) (Some first) None
      (λ (o : Option LabelBlock). o ≡ Some block → AreSound problem.grid agent.goal (context.bars i) (entries_of block.entries))
      (λ t e.
      let this : first ≡ block = same_Some first block e in
      let here : first.agent ≡ i = eqb-true first.agent i t in
      let who : own.agent ≡ agent = same_Some own.agent agent (sym own.known ∙ subst (λ n. slice_get problem.agents n ≡ Some agent) (sym here) a) in
      subst (λ (b : LabelBlock). AreSound problem.grid agent.goal (context.bars i) (entries_of b.entries)) this
      (subst (λ n. AreSound problem.grid agent.goal (context.bars n) (entries_of first.entries)) here
      (subst (λ (x : Agent). AreSound problem.grid x.goal (context.bars first.agent) (entries_of first.entries)) who own.labels.sound)))
      (λ f e. absurd cc) is
  own_sound context (first ∷ other ∷ blocks) own i agent block a is = absurd own

  live_shows : IsLive problem view → (cost : ℕ) → cost ≤ sum view.costs → NodeShows problem (Cost cost) view.context (Leaf view.blocks)
  live_shows live cost low = (
    own_sound view.context view.blocks live.own,
    (map Ticks view.costs, live_starts live, let e : label_sum (map Ticks view.costs) ≡ Ticks (sum view.costs) = label_sum-ticks view.costs in subst (λ l. IsAtMost (Ticks cost) l) (sym e) low),
  )

  pub live_adds_up : IsLive problem view → StartsAddUpTo problem (sum view.costs) (with_blocks view.blocks view.context.entries)
  live_adds_up live = (map Ticks view.costs, live_starts live, label_sum-ticks view.costs)

  dead_shows : IsDead problem view → (cost : ℕ) → NodeShows problem (Cost cost) view.context (Leaf view.blocks)
  dead_shows dead cost = (
    own_sound view.context view.blocks dead.own,
    (slice_set (map Ticks view.costs) dead.who Never, dead_starts dead, subst (λ l. IsAtMost (Ticks cost) l) (sym (dead_infinite dead)) tt),
  )

  dead_shows_impossible : IsDead problem view → NodeShows problem Impossible view.context (Leaf view.blocks)
  dead_shows_impossible dead = (own_sound view.context view.blocks dead.own, (dead.who, dead.agent, dead.known, dead.blocked.start))

  pub own_of_status : (views : List View) (k : ℕ) (status : Status) → IsStatus problem views k view status → AreOwnBlocks problem view.context.bars view.blocks
  own_of_status views k Open live = live.own
  own_of_status views k Dead dead = dead.own
  own_of_status views k (Expanded conflict a) at_expanded = at_expanded.live.own

module _ (problem : Instance) (views : List View) (statuses : List Status) (count : ℕ) (searched : IsSearched problem views statuses count) where
  -- the children of a split inherit what it has and what it inherits
  to_left : (k : ℕ) (view : View) (conflict : Conflict) (blocks : List LabelBlock) (a : ℕ) → slice_get views k ≡ Some view → slice_get statuses k ≡ Some (Expanded conflict a) → AreBlocksAt views k blocks → (child : View) × (slice_get views a ≡ Some child) × (child.context ≡ left_child_context view.context conflict blocks) × AreBlocksFor problem child.context (Some (left_constraint conflict).agent) child.blocks
  to_left k view conflict blocks a is expanded here =
      let x = (searched.each k view (Expanded conflict a) is expanded).to_left in
      (x.0, x.1, x.2 ∙ ap (λ bs. left_child_context view.context conflict bs) (sym (here view is).0), x.3)

  to_right : (k : ℕ) (view : View) (conflict : Conflict) (blocks : List LabelBlock) (a : ℕ) → slice_get views k ≡ Some view → slice_get statuses k ≡ Some (Expanded conflict a) → AreBlocksAt views k blocks → (child : View) × (slice_get views (a + 1) ≡ Some child) × (child.context ≡ right_child_context view.context conflict blocks) × AreBlocksFor problem child.context (Some (right_constraint conflict).agent) child.blocks
  to_right k view conflict blocks a is expanded here =
      let y = (searched.each k view (Expanded conflict a) is expanded).to_right in
      (y.0, y.1, y.2 ∙ ap (λ bs. right_child_context view.context conflict bs) (sym (here view is).0), y.3)

  -- what holds of each node of the search holds of each node of its tree
  pub each_node : (P : NodeContext → ConstraintTree → Type 0) → ((k : ℕ) (view : View) (tree : ConstraintTree) → slice_get views k ≡ Some view → IsTreeAt views statuses k tree → P view.context tree) →
      (tree : ConstraintTree) (k : ℕ) (view : View) → slice_get views k ≡ Some view → IsTreeAt views statuses k tree → AtEachNode P view.context tree
  each_node P f (Split conflict blocks left right) k view is (here, a, expanded, on_left, on_right) =
      let x = to_left k view conflict blocks a is expanded here in let y = to_right k view conflict blocks a is expanded here in (
        f k view (Split conflict blocks left right) is (here, a, expanded, on_left, on_right),
        subst (λ context. AtEachNode P context left) x.2 (each_node P f left a x.0 x.1 on_left),
        subst (λ context. AtEachNode P context right) y.2 (each_node P f right (a + 1) y.0 y.1 on_right),
      )
  each_node P f (Leaf blocks) k view is at_leaf = f k view (Leaf blocks) is at_leaf
  each_node P f (Clash i j) k view is none = absurd none

  pub each_end : (P : NodeContext → Type 0) → ((k : ℕ) (view : View) (status : Status) → slice_get views k ≡ Some view → slice_get statuses k ≡ Some status → IsEndStatus status → P view.context) →
      (tree : ConstraintTree) (k : ℕ) (view : View) → slice_get views k ≡ Some view → IsTreeAt views statuses k tree → AtEachEnd P view.context tree
  each_end P f (Split conflict blocks left right) k view is (here, a, expanded, on_left, on_right) =
      let x = to_left k view conflict blocks a is expanded here in let y = to_right k view conflict blocks a is expanded here in (
        subst (λ context. AtEachEnd P context left) x.2 (each_end P f left a x.0 x.1 on_left),
        subst (λ context. AtEachEnd P context right) y.2 (each_end P f right (a + 1) y.0 y.1 on_right),
      )
  each_end P f (Leaf blocks) k view is (here, status, status_is, end) = f k view status is status_is end
  each_end P f (Clash i j) k view is none = absurd none

  -- each node has the blocks of the agent that was replanned there
  carries : (tree : ConstraintTree) (k : ℕ) (view : View) (bound : Option ℕ) → slice_get views k ≡ Some view → IsTreeAt views statuses k tree → AreBlocksFor problem view.context bound view.blocks → CarriesBlocksFor problem view.context bound tree
  carries (Split conflict blocks left right) k view bound is (here, a, expanded, on_left, on_right) own =
      let x = to_left k view conflict blocks a is expanded here in let y = to_right k view conflict blocks a is expanded here in
      let i = (left_constraint conflict).agent in let j = (right_constraint conflict).agent in (
        subst (λ bs. AreBlocksFor problem view.context bound bs) (sym (here view is).0) own,
        subst (λ context. CarriesBlocksFor problem context (Some i) left) x.2 (carries left a x.0 (Some i) x.1 on_left x.3),
        subst (λ context. CarriesBlocksFor problem context (Some j) right) y.2 (carries right (a + 1) y.0 (Some j) y.1 on_right y.3),
      )
  carries (Leaf blocks) k view bound is (here, status, status_is, end) own = subst (λ bs. AreBlocksFor problem view.context bound bs) (sym (here view is).0) own
  carries (Clash i j) k view bound is none own = absurd none

  -- the search's tree has as many splits as its shape
  pub split_count_is : (tree : ConstraintTree) (shape : Shape) (k : ℕ) → IsShape statuses k shape → IsTreeAt views statuses k tree → split_count tree ≡ splits shape
  split_count_is (Split conflict blocks left right) (Node n l r) k (number, c, x, is, on_l, on_r) (here, a, expanded, on_left, on_right) =
      let same : Expanded c x ≡ Expanded conflict a = same_Some (Expanded c x) (Expanded conflict a) (sym is ∙ expanded) in
      let x_is : x ≡ a = cc in
      let e = split_count_is left l a (subst (λ n. IsShape statuses n l) x_is on_l) on_left in
      let f = split_count_is right r (a + 1) (subst (λ n. IsShape statuses (n + 1) r) x_is on_r) on_right in
      omega arith
  split_count_is (Split conflict blocks left right) (End m) k (same, status, is, end) (here, a, expanded, on_left, on_right) =
      absurd (subst IsEndStatus (same_Some status (Expanded conflict a) (sym is ∙ expanded)) end)
  split_count_is (Leaf blocks) (Node n l r) k (number, c, x, is, on_l, on_r) (here, status, status_is, end) =
      absurd (subst IsEndStatus (same_Some status (Expanded c x) (sym status_is ∙ is)) end)
  split_count_is (Leaf blocks) (End m) k on at_leaf = refl
  split_count_is (Clash i j) shape k on none = absurd none

  -- an end of the shape is a leaf of the tree
  pub some_leaf : (P : NodeContext → List LabelBlock → Type 0) (j : ℕ) (view_j : View) (status_j : Status) → slice_get views j ≡ Some view_j → slice_get statuses j ≡ Some status_j → IsEndStatus status_j → P view_j.context view_j.blocks →
      (tree : ConstraintTree) (shape : Shape) (k : ℕ) (view : View) → slice_get views k ≡ Some view → IsShape statuses k shape → IsTreeAt views statuses k tree → 0 < occurrences j shape → AtSomeLeaf P view.context tree
  some_leaf P j view_j status_j j_is j_status j_end holds (Split conflict blocks left right) (Node n l r) k view is (number, c, x, split, on_l, on_r) (here, a, expanded, on_left, on_right) some =
      let to_l = to_left k view conflict blocks a is expanded here in let to_r = to_right k view conflict blocks a is expanded here in
      let same : Expanded c x ≡ Expanded conflict a = same_Some (Expanded c x) (Expanded conflict a) (sym split ∙ expanded) in
      let x_is : x ≡ a = cc in
      let not_here = not_split statuses j status_j j_status j_end k n c x number split in
      let parts = occurs_node j n l r in
      ⊎_elim
      (λ (in_left : 0 < occurrences j l). inl (subst (λ context. AtSomeLeaf P context left) to_l.2 (some_leaf P j view_j status_j j_is j_status j_end holds left l a to_l.0 to_l.1 (subst (λ m. IsShape statuses m l) x_is on_l) on_left in_left)))
      (λ (not_in_left : occurrences j l ≤ 0). inr (subst (λ context. AtSomeLeaf P context right) to_r.2 (some_leaf P j view_j status_j j_is j_status j_end holds right r (a + 1) to_r.0 to_r.1 (subst (λ m. IsShape statuses (m + 1) r) x_is on_r) on_right (omega (arith, some, parts, not_here, not_in_left)))))
      (cases_lt 0 (occurrences j l))
  some_leaf P j view_j status_j j_is j_status j_end holds (Split conflict blocks left right) (End m) k view is (same, status, status_is, end) (here, a, expanded, on_left, on_right) some =
      absurd (subst IsEndStatus (same_Some status (Expanded conflict a) (sym status_is ∙ expanded)) end)
  some_leaf P j view_j status_j j_is j_status j_end holds (Leaf blocks) (Node n l r) k view is (number, c, x, split, on_l, on_r) (here, status, status_is, end) some =
      absurd (subst IsEndStatus (same_Some status (Expanded c x) (sym status_is ∙ split)) end)
  some_leaf P j view_j status_j j_is j_status j_end holds (Leaf blocks) (End m) k view is (same, status, status_is, end) at_leaf some = ⊎_elim
      (λ (e : j ≡ m). subst (λ bs. P view.context bs) (sym (at_leaf.0 view is).0)
      (subst (λ (v : View). P v.context v.blocks) (same_Some view_j view (sym j_is ∙ subst (λ n. slice_get views n ≡ Some view) (same ∙ sym e) is)) holds))
      (λ (e : j ≢ m). absurd (cond_both (nat_eq j m) 1 0 (λ n. 0 < n → ⊥) (λ t. absurd (e (eqb-true j m t))) (λ f h. omega arith) some))
      (cases_eq j m)
  some_leaf P j view_j status_j j_is j_status j_end holds (Clash a b) shape k view is on none some = absurd none

  at_least : (low : ℕ) → ((m : ℕ) (view : View) → slice_get views m ≡ Some view → slice_get statuses m ≡ Some Open → low ≤ sum view.costs) →
      (k : ℕ) (view : View) (status : Status) → slice_get views k ≡ Some view → slice_get statuses k ≡ Some status → IsEndStatus status →
      (others : List (List ℕ)) (total : ℕ) → AreCheapest problem view.context others → IsSumOfCosts problem.agents others total → low ≤ total
  at_least low least k view Open is status_is end others total cheapest is_sum =
      let one = least k view is status_is in let two = live_least problem view (searched.each k view Open is status_is) others total cheapest is_sum in omega arith
  at_least low least k view Dead is status_is end others total cheapest is_sum = absurd (dead_none problem view (searched.each k view Dead is status_is) others cheapest)
  at_least low least k view (Expanded c a) is status_is end others total cheapest is_sum = absurd end

  module _ (tree : ConstraintTree) (on_tree : IsTreeAt views statuses 0 tree) where
    -- the paths of a node are due if no open node has a smaller sum
    pub due : (view : View) → IsLive problem view → ((m : ℕ) (other : View) → slice_get views m ≡ Some other → slice_get statuses m ≡ Some Open → sum view.costs ≤ sum other.costs) → AreDue problem tree view.context view.paths (sum view.costs)
    due view live least = record {
      cheapest = live_cheapest problem view live;
      sum = live_sum problem view live;
      least = subst (λ context. AtEachEnd (λ end_context. (others : List (List ℕ)) (other_total : ℕ) → AreCheapest problem end_context others → IsSumOfCosts problem.agents others other_total → sum view.costs ≤ other_total) context tree) searched.first.2
          (each_end (λ end_context. (others : List (List ℕ)) (other_total : ℕ) → AreCheapest problem end_context others → IsSumOfCosts problem.agents others other_total → sum view.costs ≤ other_total)
          (at_least (sum view.costs) least) tree 0 searched.first.0 searched.first.1 on_tree);
    }

    -- what holds of each node of the search holds of each node of the tree, from the root on
    from_root : (P : NodeContext → ConstraintTree → Type 0) → ((k : ℕ) (view : View) (node : ConstraintTree) → slice_get views k ≡ Some view → IsTreeAt views statuses k node → P view.context node) → AtEachNode P root tree
    from_root P f = subst (λ context. AtEachNode P context tree) searched.first.2 (each_node P f tree 0 searched.first.0 searched.first.1 on_tree)

    -- each node is proper, and each split is on the first conflict of due paths
    node_facts : (k : ℕ) (view : View) (node : ConstraintTree) → slice_get views k ≡ Some view → IsTreeAt views statuses k node → IsProperNode problem node × IsEarnedNode problem tree view.context node × IsOnFirstConflict problem tree view.context node
    node_facts k view (Split c blocks left right) is (here, a, expanded, on_left, on_right) =
        let at_expanded = searched.each k view (Expanded c a) is expanded in
        let first = at_expanded.on_first in
        let is_due = due view at_expanded.live (λ m other other_is is_open. searched.least k m view other (Expanded c a) is other_is expanded tt is_open) in
        let proper = subst (λ bs. AreProperBlocks problem bs) (sym (here view is).0) (own_proper problem view view.context.bars view.blocks at_expanded.live.own) in
        ((at_expanded.proper, proper), (view.paths, sum view.costs, is_due, first.has, first.earliest), (view.paths, sum view.costs, is_due, live_first problem view at_expanded.live, first))
    node_facts k view (Leaf blocks) is (here, status, status_is, end) =
        let own = own_of_status problem view views k status (searched.each k view status is status_is) in
        (subst (λ bs. AreProperBlocks problem bs) (sym (here view is).0) (own_proper problem view view.context.bars view.blocks own), tt, tt)
    node_facts k view (Clash i j) is none = absurd none

    pub is_proper : IsProper problem tree
    is_proper = from_root (λ to node. IsProperNode problem node) (λ k view node is at. (node_facts k view node is at).0)

    pub is_earned : IsEarned problem tree
    is_earned = record { proper = is_proper; splits = from_root (IsEarnedNode problem tree) (λ k view node is at. (node_facts k view node is at).1) }

    pub is_on_first : AreOnFirstConflicts problem tree
    is_on_first = from_root (IsOnFirstConflict problem tree) (λ k view node is at. (node_facts k view node is at).2)

    -- the blocks of a split are sound
    split_shows : (k : ℕ) (view : View) (conflict : Conflict) (blocks : List LabelBlock) (a : ℕ) → slice_get views k ≡ Some view → slice_get statuses k ≡ Some (Expanded conflict a) → AreBlocksAt views k blocks → AreBlocksSound problem view.context blocks
    split_shows k view conflict blocks a is expanded here =
        let at_expanded = searched.each k view (Expanded conflict a) is expanded in
        subst (λ bs. AreBlocksSound problem view.context bs) (sym (here view is).0) (own_sound problem view view.context view.blocks at_expanded.live.own)

    cost_leaf : (cost : ℕ) → ((m : ℕ) (other : View) → slice_get views m ≡ Some other → slice_get statuses m ≡ Some Open → cost ≤ sum other.costs) →
        (k : ℕ) (view : View) (status : Status) → slice_get views k ≡ Some view → slice_get statuses k ≡ Some status → IsEndStatus status → NodeShows problem (Cost cost) view.context (Leaf view.blocks)
    cost_leaf cost least k view Open is status_is end = live_shows problem view (searched.each k view Open is status_is) cost (least k view is status_is)
    cost_leaf cost least k view Dead is status_is end = dead_shows problem view (searched.each k view Dead is status_is) cost
    cost_leaf cost least k view (Expanded c a) is status_is end = absurd end

    impossible_leaf : ((m : ℕ) → slice_get statuses m ≡ Some Open → ⊥) → (k : ℕ) (view : View) (status : Status) → slice_get views k ≡ Some view → slice_get statuses k ≡ Some status → IsEndStatus status → NodeShows problem Impossible view.context (Leaf view.blocks)
    impossible_leaf none_open k view Open is status_is end = absurd (none_open k status_is)
    impossible_leaf none_open k view Dead is status_is end = dead_shows_impossible problem view (searched.each k view Dead is status_is)
    impossible_leaf none_open k view (Expanded c a) is status_is end = absurd end

    -- a claim that is shown at each end is shown at each node
    shows : (claim : Claim) → ((k : ℕ) (view : View) (status : Status) → slice_get views k ≡ Some view → slice_get statuses k ≡ Some status → IsEndStatus status → NodeShows problem claim view.context (Leaf view.blocks)) → Shows problem claim tree
    shows claim ends = record { proper = is_proper; nodes = from_root (NodeShows problem claim) each }
      where
        each : (k : ℕ) (view : View) (node : ConstraintTree) → slice_get views k ≡ Some view → IsTreeAt views statuses k node → NodeShows problem claim view.context node
        each k view (Split c blocks left right) is (here, a, expanded, on_left, on_right) = split_shows k view c blocks a is expanded here
        each k view (Leaf blocks) is (here, status, status_is, end) = subst (λ bs. NodeShows problem claim view.context (Leaf bs)) (sym (here view is).0) (ends k view status is status_is end)
        each k view (Clash i j) is none = absurd none

    -- the least sum of the open nodes is shown, as a cost
    pub shows_cost : (cost : ℕ) → ((m : ℕ) (other : View) → slice_get views m ≡ Some other → slice_get statuses m ≡ Some Open → cost ≤ sum other.costs) → Shows problem (Cost cost) tree
    shows_cost cost least = shows (Cost cost) (cost_leaf cost least)

    -- and as a bound
    pub shows_bound : (bound : ℕ) → ((m : ℕ) (other : View) → slice_get views m ≡ Some other → slice_get statuses m ≡ Some Open → bound ≤ sum other.costs) → Shows problem (Bound bound) tree
    shows_bound bound least = shows (Bound bound) (cost_leaf bound least)

    pub shows_impossible : ((m : ℕ) → slice_get statuses m ≡ Some Open → ⊥) → Shows problem Impossible tree
    shows_impossible none_open = shows Impossible (impossible_leaf none_open)

    pub has_splits : split_count tree ≡ count
    has_splits = split_count_is tree searched.tree.shape 0 searched.tree.is_shape on_tree ∙ searched.tree.exact

    pub has_blocks : CarriesBoundBlocks problem tree
    has_blocks = subst (λ context. CarriesBlocksFor problem context None tree) searched.first.2 (carries tree 0 searched.first.0 None searched.first.1 on_tree searched.first.3)

    -- what holds at an open node holds at some leaf
    at_open : (P : NodeContext → List LabelBlock → Type 0) (j : ℕ) (view : View) → slice_get views j ≡ Some view → slice_get statuses j ≡ Some Open → P view.context view.blocks → AtSomeLeaf P root tree
    at_open P j view is is_open holds =
        let once = searched.tree.once j (slice_get_within statuses j Open is_open) in
        subst (λ context. AtSomeLeaf P context tree) searched.first.2
        (some_leaf P j view Open is is_open tt holds tree searched.tree.shape 0 searched.first.0 searched.first.1 searched.tree.is_shape on_tree (omega arith))

    -- an open node of least sum whose paths have a conflict is one at which the search may stop
    pub is_stopped : (Fact : List (List ℕ) → Type 0) (j : ℕ) (view : View) → slice_get views j ≡ Some view → slice_get statuses j ≡ Some Open →
        ((m : ℕ) (other : View) → slice_get views m ≡ Some other → slice_get statuses m ≡ Some Open → sum view.costs ≤ sum other.costs) → HaveSomeConflict view.paths → Fact view.paths → IsStoppedAtFirst Fact problem tree
    is_stopped Fact j view is is_open least meet fact =
        let P : NodeContext → List LabelBlock → Type 0 = λ context blocks. (paths : List (List ℕ)) × (total : ℕ) × AreDue problem tree context paths total × HaveSomeConflict paths × AreFirstPaths problem context paths × Fact paths in
        let live = searched.each j view Open is is_open in
        record { earned = is_earned; leaf = at_open P j view is is_open (view.paths, sum view.costs, due view live least, meet, live_first problem view live, fact) }

    -- the paths of an open node are those of a leaf
    pub at_leaf : (j : ℕ) (view : View) → slice_get views j ≡ Some view → slice_get statuses j ≡ Some Open → AtSomeLeaf (λ context blocks. AreCheapest problem context view.paths × AreFirstPaths problem context view.paths) root tree
    at_leaf j view is is_open =
        let live = searched.each j view Open is is_open in
        at_open (λ context blocks. AreCheapest problem context view.paths × AreFirstPaths problem context view.paths) j view is is_open (live_cheapest problem view live, live_first problem view live)

    -- an open node of least sum is a leaf at which its paths are due and the labels of the starts add up to this sum
    pub meets_at_a_leaf : (j : ℕ) (view : View) → slice_get views j ≡ Some view → slice_get statuses j ≡ Some Open →
        ((m : ℕ) (other : View) → slice_get views m ≡ Some other → slice_get statuses m ≡ Some Open → sum view.costs ≤ sum other.costs) → AtSomeLeaf (IsLeastSumAt problem tree (sum view.costs)) root tree
    meets_at_a_leaf j view is is_open least =
        let live = searched.each j view Open is is_open in
        at_open (IsLeastSumAt problem tree (sum view.costs)) j view is is_open ((view.paths, due view live least), live_adds_up problem view live)
