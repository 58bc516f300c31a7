-- A search goes on: an open node of least sum is split.
use Rattle.std.proofs.Common.{◌≡◌, ◌≢◌, ◌⊎◌, ℕ, zero, suc, ◌+◌, ◌*◌, ◌<◌, ◌≤◌, List, [], ◌∷◌, ◌++◌, Some, Contains, length, sum, slice_get, refl, sym, ◌∙◌, ap, subst, inl, inr, ⊎_elim, arith}
use Rattle.std.proofs.lemmas.Bool.{cases_eq}
use Rattle.std.proofs.lemmas.Option.{slice_get_within, same_Some}
use Rattle.mapf_model.specs.declared.constraint.Constraint.{Constraint}
use Rattle.mapf_model.specs.declared.conflict.Conflict.{Conflict}
use Rattle.mapf_model.specs.Plan.{Instance}
use Rattle.mapf_model.specs.Tree.{NodeContext, root, with_constraint, left_constraint, right_constraint, left_child_context, right_child_context, ShareGoal}
use Rattle.mapf_model.specs.Conflicts.{tick_of}
use Rattle.mapf_cbs.specs.declared.node.Status.{Status}
use Rattle.mapf_cbs.specs.declared.node.Status.TheVariants.{Open, Dead, Expanded}
use Rattle.mapf_model.specs.Grid.{free_cell_count}
use Rattle.mapf_constraints.specs.BarSets.{bar_tick, AreBefore}
use Rattle.mapf_cbs.specs.BoundBlocks.{AreBlocksFor}
use Rattle.mapf_cbs.specs.FirstConflicts.{IsFirstConflict}
use Rattle.mapf_cbs.specs.Search.{View, IsLive, IsDead, IsStatus, IsExpandedAt, IsExpandedStatus, End, occurrences, IsSearched}
use Rattle.mapf_model.proofs.PlaceLemmas.{slice_get-front, slice_get-here}
use Rattle.mapf_model.proofs.ContainsLemmas.{Contains-none}
use Rattle.mapf_cbs.proofs.SumLemmas.{each_two, of_one, slice_get-second, length-two_more}
use Rattle.mapf_cbs.proofs.ChildLemmas.{AreBefore-with_constraint, left_tick, right_tick, conflict_proper, conflict_early}
use Rattle.mapf_cbs.proofs.ShapeLemmas.{IsGrown, IsOneTree-grown}

-- what holds of a new child by its outcome
abbrev pub IsChildStatus : Instance → View → View → Status → Type 0
IsChildStatus problem view child Open = IsLive problem child × (sum view.costs ≤ sum child.costs)
IsChildStatus problem view child Dead = IsDead problem child
IsChildStatus problem view child (Expanded conflict left) = ⊥

pub searched_first : (problem : Instance) (view : View) → view.context ≡ root → view.blocks ≡ [] → IsLive problem view → IsSearched problem (view ∷ []) (Open ∷ []) 0
searched_first problem view at_root no_blocks live = record {
  lengths = refl;
  first = (view, refl, at_root, no_blocks);
  each = λ k v status is open_is. of_one (λ k f. IsStatus problem (view ∷ []) k v f) Open (of_one (λ k w. IsLive problem w) view live k v is) k status open_is;
  least = λ k m v other status is other_is status_is expanded open_is. absurd (of_one (λ k f. IsExpandedStatus f → ⊥) Open (λ none. none) k status status_is expanded);
  tree = record { shape = End 0; is_shape = (refl, Open, refl, tt); exact = refl; once = once };
  low = λ k v i is bar in_it. absurd (Contains-none bar (subst (λ bars. Contains bars bar) (of_one (λ k (w : View). w.context.bars i ≡ []) view (ap (λ (c : NodeContext). c.bars i) at_root) k v is) in_it));
}
  where
    once : (k : ℕ) → k < 1 → occurrences k (End 0) ≡ 1
    once zero within = refl
    once (suc k) within = absurd (omega arith)

module _ (problem : Instance) (goals : (i j : ℕ) → ShareGoal problem i j → ⊥)
    (views : List View) (statuses : List Status) (count : ℕ) (searched : IsSearched problem views statuses count)
    (j : ℕ) (view : View) (is : slice_get views j ≡ Some view) (was_open : slice_get statuses j ≡ Some Open)
    (least : (m : ℕ) (other : View) → slice_get views m ≡ Some other → slice_get statuses m ≡ Some Open → sum view.costs ≤ sum other.costs)
    (conflict : Conflict) (on_first : IsFirstConflict view.paths conflict) (in_time : tick_of conflict < 1000000)
    (x y : View) (x_context : x.context ≡ left_child_context view.context conflict view.blocks) (y_context : y.context ≡ right_child_context view.context conflict view.blocks)
    (x_bound : AreBlocksFor problem x.context (Some (left_constraint conflict).agent) x.blocks) (y_bound : AreBlocksFor problem y.context (Some (right_constraint conflict).agent) y.blocks)
    (left right : Status) (x_is : IsChildStatus problem view x left) (y_is : IsChildStatus problem view y right)
    (after : List Status) (grown : IsGrown statuses after j conflict left right)
  where
    live : IsLive problem view
    live = searched.each j view Open is was_open

    -- an index of the longer list
    data Place (k : ℕ) (v : View) (status : Status) : Type 0 where
      Old : k < length statuses → k ≢ j → slice_get views k ≡ Some v → slice_get statuses k ≡ Some status → Place k v status
      This : k ≡ j → v ≡ view → status ≡ Expanded conflict (length statuses) → Place k v status
      First : k ≡ length statuses → v ≡ x → status ≡ left → Place k v status
      Second : k ≡ length statuses + 1 → v ≡ y → status ≡ right → Place k v status

    x_at : slice_get (views ++ x ∷ y ∷ []) (length statuses) ≡ Some x
    x_at = subst (λ n. slice_get (views ++ x ∷ y ∷ []) n ≡ Some x) searched.lengths (slice_get-here views (y ∷ []) x)

    y_at : slice_get (views ++ x ∷ y ∷ []) (length statuses + 1) ≡ Some y
    y_at = subst (λ n. slice_get (views ++ x ∷ y ∷ []) (n + 1) ≡ Some y) searched.lengths (slice_get-second views x y)

    old_view : (k : ℕ) (v : View) → slice_get views k ≡ Some v → slice_get (views ++ x ∷ y ∷ []) k ≡ Some v
    old_view k v at = slice_get-front views (x ∷ y ∷ []) k (slice_get_within views k v at) ∙ at

    place : (k : ℕ) (v : View) (status : Status) → slice_get (views ++ x ∷ y ∷ []) k ≡ Some v → slice_get after k ≡ Some status → Place k v status
    place k v status v_is status_is =
        let size = searched.lengths in
        each_two (λ k v. (status : Status) → slice_get after k ≡ Some status → Place k v status) views x y
        (λ k v v_is status status_is. ⊎_elim
        (λ (this : k ≡ j). This this (same_Some v view (sym v_is ∙ ap (λ n. slice_get views n) this ∙ is)) (same_Some status (Expanded conflict (length statuses)) (sym status_is ∙ ap (λ n. slice_get after n) this ∙ grown.split)))
        (λ (other : k ≢ j). let old : k < length statuses = (let inside = slice_get_within views k v v_is in omega arith) in
        Old old other v_is (sym (grown.others k old other) ∙ status_is))
        (cases_eq k j))
        (λ status status_is. First size refl (same_Some status left (sym status_is ∙ ap (λ n. slice_get after n) size ∙ grown.first)))
        (λ status status_is. Second (ap (λ n. n + 1) size) refl (same_Some status right (sym status_is ∙ ap (λ n. slice_get after (n + 1)) size ∙ grown.second)))
        k v v_is status status_is

    lift_status : (k : ℕ) (v : View) (status : Status) → IsStatus problem views k v status → IsStatus problem (views ++ x ∷ y ∷ []) k v status
    lift_status k v Open h = h
    lift_status k v Dead h = h
    lift_status k v (Expanded c a) h = record {
      live = h.live;
      proper = h.proper;
      early = h.early;
      on_first = h.on_first;
      to_left = (h.to_left.0, old_view a h.to_left.0 h.to_left.1, h.to_left.2, h.to_left.3);
      to_right = (h.to_right.0, old_view (a + 1) h.to_right.0 h.to_right.1, h.to_right.2, h.to_right.3);
      later = h.later;
    }

    child_status : (k : ℕ) (child : View) (status : Status) → IsChildStatus problem view child status → IsStatus problem (views ++ x ∷ y ∷ []) k child status
    child_status k child Open h = h.0
    child_status k child Dead h = h
    child_status k child (Expanded c a) h = absurd h

    this_expanded : IsExpandedAt problem (views ++ x ∷ y ∷ []) j view conflict (length statuses)
    this_expanded =
        let inside : j < length statuses = slice_get_within statuses j Open was_open in
        record {
          live = searched.each j view Open is was_open;
          proper = conflict_proper problem view (searched.each j view Open is was_open) conflict on_first.has;
          early = in_time;
          on_first = on_first;
          to_left = (x, x_at, x_context, x_bound);
          to_right = (y, y_at, y_context, y_bound);
          later = inside;
        }

    each_at : (k : ℕ) (v : View) (status : Status) → Place k v status → IsStatus problem (views ++ x ∷ y ∷ []) k v status
    each_at k v status (Old old other v_is status_is) = lift_status k v status (searched.each k v status v_is status_is)
    each_at k v status (This this v_is status_is) =
        subst (λ f. IsStatus problem (views ++ x ∷ y ∷ []) k v f) (sym status_is)
        (subst (λ w. IsExpandedAt problem (views ++ x ∷ y ∷ []) k w conflict (length statuses)) (sym v_is)
        (subst (λ n. IsExpandedAt problem (views ++ x ∷ y ∷ []) n view conflict (length statuses)) (sym this) this_expanded))
    each_at k v status (First first v_is status_is) =
        subst (λ f. IsStatus problem (views ++ x ∷ y ∷ []) k v f) (sym status_is) (child_status k v left (subst (λ w. IsChildStatus problem view w left) (sym v_is) x_is))
    each_at k v status (Second second v_is status_is) =
        subst (λ f. IsStatus problem (views ++ x ∷ y ∷ []) k v f) (sym status_is) (child_status k v right (subst (λ w. IsChildStatus problem view w right) (sym v_is) y_is))

    child_least : (child : View) (status : Status) → IsChildStatus problem view child status → status ≡ Open → sum view.costs ≤ sum child.costs
    child_least child Open h is_open = h.1
    child_least child Dead h is_open = absurd cc
    child_least child (Expanded c a) h is_open = absurd h

    -- an open node is an old one, or no cheaper than the node that was split
    open_at : (m : ℕ) (v : View) → Place m v Open → ((slice_get views m ≡ Some v) × (slice_get statuses m ≡ Some Open)) ⊎ (sum view.costs ≤ sum v.costs)
    open_at m v (Old old other v_is status_is) = inl (v_is, status_is)
    open_at m v (This this v_is status_is) = absurd cc
    open_at m v (First first v_is status_is) = inr (subst (λ (w : View). sum view.costs ≤ sum w.costs) (sym v_is) (child_least x left x_is (sym status_is)))
    open_at m v (Second second v_is status_is) = inr (subst (λ (w : View). sum view.costs ≤ sum w.costs) (sym v_is) (child_least y right y_is (sym status_is)))

    child_not_expanded : (child : View) (status : Status) → IsChildStatus problem view child status → IsExpandedStatus status → ⊥
    child_not_expanded child Open h expanded = expanded
    child_not_expanded child Dead h expanded = expanded
    child_not_expanded child (Expanded c a) h expanded = h

    least_at : (k m : ℕ) (v other : View) (status : Status) → Place k v status → Place m other Open → IsExpandedStatus status → sum v.costs ≤ sum other.costs
    least_at k m v other status (Old old differ v_is status_is) at expanded = ⊎_elim
        (λ (h : (slice_get views m ≡ Some other) × (slice_get statuses m ≡ Some Open)). searched.least k m v other status v_is h.0 status_is expanded h.1)
        (λ (h : sum view.costs ≤ sum other.costs). let first = searched.least k j v view status v_is is status_is expanded was_open in omega arith)
        (open_at m other at)
    least_at k m v other status (This this v_is status_is) at expanded = subst (λ (w : View). sum w.costs ≤ sum other.costs) (sym v_is) (⊎_elim
        (λ (h : (slice_get views m ≡ Some other) × (slice_get statuses m ≡ Some Open)). least m other h.0 h.1)
        (λ (h : sum view.costs ≤ sum other.costs). h)
        (open_at m other at))
    least_at k m v other status (First first v_is status_is) at expanded = absurd (child_not_expanded x left x_is (subst IsExpandedStatus status_is expanded))
    least_at k m v other status (Second second v_is status_is) at expanded = absurd (child_not_expanded y right y_is (subst IsExpandedStatus status_is expanded))

    early : tick_of conflict < count * free_cell_count problem.grid + free_cell_count problem.grid
    early = conflict_early problem view (searched.each j view Open is was_open) goals (count * free_cell_count problem.grid) (λ i. searched.low j view i is) conflict on_first.has

    low_with : (constraint : Constraint) → bar_tick constraint.bar ≡ tick_of conflict → (i : ℕ) → AreBefore ((count + 1) * free_cell_count problem.grid) (with_constraint view.context.bars constraint i)
    low_with constraint at_tick = AreBefore-with_constraint view.context.bars constraint (count * free_cell_count problem.grid) ((count + 1) * free_cell_count problem.grid) (omega arith) (let e = early in omega (arith, e, at_tick)) (λ i. searched.low j view i is)

    low_at : (k : ℕ) (v : View) → slice_get (views ++ x ∷ y ∷ []) k ≡ Some v → (i : ℕ) → AreBefore ((count + 1) * free_cell_count problem.grid) (v.context.bars i)
    low_at = each_two (λ k (v : View). (i : ℕ) → AreBefore ((count + 1) * free_cell_count problem.grid) (v.context.bars i)) views x y
        (λ k v v_is i bar in_it. let b = searched.low k v i v_is bar in_it in omega arith)
        (λ i. subst (λ (w : NodeContext). AreBefore ((count + 1) * free_cell_count problem.grid) (w.bars i)) (sym x_context) (low_with (left_constraint conflict) (left_tick conflict) i))
        (λ i. subst (λ (w : NodeContext). AreBefore ((count + 1) * free_cell_count problem.grid) (w.bars i)) (sym y_context) (low_with (right_constraint conflict) (right_tick conflict) i))

    pub searched_grown : IsSearched problem (views ++ x ∷ y ∷ []) after (count + 1)
    searched_grown =
        let size = searched.lengths in let two = length-two_more views x y in let grew = grown.size in
        record {
          lengths = omega arith;
          first = (searched.first.0, old_view 0 searched.first.0 searched.first.1, searched.first.2, searched.first.3);
          each = λ k v status v_is status_is. each_at k v status (place k v status v_is status_is);
          least = λ k m v other status v_is other_is status_is expanded is_open. least_at k m v other status (place k v status v_is status_is) (place m other Open other_is is_open) expanded;
          tree = IsOneTree-grown statuses after j conflict left right Open grown was_open tt count searched.tree;
          low = λ k v i v_is. low_at k v v_is i;
        }
