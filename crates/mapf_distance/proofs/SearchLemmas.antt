-- The properties of a search are preserved when a cell is expanded, and at its end the start's entry is its distance.
use Rattle.std.proofs.Common.{◌≡◌, ◌⊎◌, ℕ, zero, suc, ◌+◌, ◌^◌, ◌<◌, ◌≤◌, Option, Some, None, IfSome, IfNone, List, [], ◌∷◌, ◌++◌, All, Contains, replicate, length, slice_index_or, slice_set, sum, add-one, refl, sym, ◌∙◌, ap, subst, inl, inr, ⊎_elim, arith}
use Rattle.std.specs.Option.{option_to_list}
use Rattle.std.proofs.Math.ListN.{length-set}
use Rattle.std.proofs.lemmas.Bool.{cases_lt, cases_eq}
use Rattle.std.proofs.lemmas.List.{get_or_default, get_or_past, length_push, length-append, get_or-replicate, length-replicate}
use Rattle.std.proofs.lemmas.List.Elements.{All-nil, All-push, All-weaker, All-contains, All-contains_itself, Contains-append_left, Contains-append_right, Contains-append_cases, Contains-push, Contains-push_cases}
use Rattle.std.proofs.lemmas.List.Sums.{sum_by-set}
use Rattle.mapf_model.specs.Distance.{Walk, IsDistance, IsUnreachable}
use Rattle.mapf_model.specs.Grid.{GridMap, IsGridMap, IsFree, DifferByOne, Step, column, row}
use Rattle.mapf_model.specs.Neighbours.{neighbourhood}
use Rattle.mapf_model.proofs.StepLemmas.{step_neighbour, step_end, free_within}
use Rattle.mapf_distance.specs.declared.wave.TheConstants.{BLOCKED, UNREACHED}
use Rattle.mapf_distance.specs.Distances.{IsDistanceOrNone}
use Rattle.mapf_distance.specs.Marks.{entry_of}
use Rattle.mapf_distance.specs.Search.{IsSearch, IsSeen, IsTaken, IsKnown, IsSearchAt, IsSameSearch, IsInserted, IsPut, effort, gap, estimate, open_of, value_of}
use Rattle.mapf_distance.specs.declared.search.Search.{Search}
use Rattle.mapf_distance.proofs.MarkLemmas.{entry_of-set_same, entry_of-set_other}
use Rattle.mapf_distance.proofs.StepLemmas.{Step-sym, Walk-from_free}
use Rattle.mapf_model.proofs.ContainsLemmas.{Contains-none}

apart_step : (a b s : ℕ) → DifferByOne a b → gap a s ≤ gap b s + 1
apart_step a b s (inl e) = omega arith
apart_step a b s (inr e) = omega arith

-- a step brings a cell nearer by one at most
pub estimate_step : (grid : GridMap) (from to start : ℕ) → Step grid from to → estimate grid from start ≤ estimate grid to start + 1
estimate_step grid from to start (inl (free, same)) = let e = ap (λ cell. estimate grid cell start) same in omega arith
estimate_step grid from to start (inr beside) = ⊎_elim
    (λ in_row.
    let e = ap (λ r. gap r (row grid start)) in_row.0 in
    let a = apart_step (column grid from) (column grid to) (column grid start) in_row.1 in
    omega arith)
    (λ in_column.
    let e = ap (λ r. gap r (column grid start)) in_column.0 in
    let a = apart_step (row grid from) (row grid to) (row grid start) in_column.1 in
    omega arith)
    beside.apart

pub estimate_self : (grid : GridMap) (start : ℕ) → estimate grid start start ≡ 0
estimate_self grid start = omega arith

-- the elements of a list into which a cell was inserted
module _ (cell : ℕ) (old new : List ℕ) (inserted : IsInserted cell old new) where
  ahead : List ℕ
  ahead = inserted.0

  behind : List ℕ
  behind = inserted.1

  pub inserted_keeps : (x : ℕ) → Contains old x → Contains new x
  unfolding ahead behind
  inserted_keeps x listed = subst (λ list. Contains list x) (sym inserted.3) (⊎_elim
      (λ (before : Contains ahead x). Contains-append_left (ahead ++ cell ∷ []) behind x (Contains-append_left ahead (cell ∷ []) x before))
      (λ (after : Contains behind x). Contains-append_right (ahead ++ cell ∷ []) behind x after)
      (Contains-append_cases ahead behind x (subst (λ list. Contains list x) inserted.2 listed)))

  pub inserted_cases : (x : ℕ) → Contains new x → Contains old x ⊎ (cell ≡ x)
  unfolding ahead behind
  inserted_cases x listed = ⊎_elim
      (λ (before : Contains (ahead ++ cell ∷ []) x). ⊎_elim
      (λ (kept : Contains ahead x). inl (subst (λ list. Contains list x) (sym inserted.2) (Contains-append_left ahead behind x kept)))
      (λ (same : cell ≡ x). inr same)
      (Contains-push_cases ahead cell x before))
      (λ (after : Contains behind x). inl (subst (λ list. Contains list x) (sym inserted.2) (Contains-append_right ahead behind x after)))
      (Contains-append_cases (ahead ++ cell ∷ []) behind x (subst (λ list. Contains list x) inserted.3 listed))

  pub inserted_here : Contains new cell
  unfolding ahead behind
  inserted_here = subst (λ list. Contains list cell) (sym inserted.3) (Contains-append_left (ahead ++ cell ∷ []) behind cell (Contains-push ahead cell))

  pub inserted_length : length new ≡ length old + 1
  unfolding ahead behind
  inserted_length =
      let all = ap length inserted.3 ∙ length-append (ahead ++ cell ∷ []) behind in
      let before = ap length inserted.2 ∙ length-append ahead behind in
      let pushed = length_push ahead cell in
      omega arith

module _ (grid : GridMap) (start goal level : ℕ) (But : ℕ → Type 0) (table due later : List ℕ) (search : IsSearch grid start goal But level table due later) where
  -- a step from a cell leads to a cell whose entry is larger by more than one
  module _ (cell next distance : ℕ) (known : IsKnown table cell) (is : entry_of table cell + 1 ≡ distance) (step : Step grid cell next) (inside : next < length table) (more : distance < entry_of table next) where
    after : List ℕ
    after = slice_set table next distance

    small : distance < UNREACHED
    small = let t = search.top next inside in omega arith

    here : entry_of after next ≡ distance
    unfolding after
    here = entry_of-set_same table next distance inside

    other : (x : ℕ) → (x ≡ next → ⊥) → entry_of after x ≡ entry_of table x
    unfolding after
    other x apart = entry_of-set_other table next x distance apart

    -- no entry grows
    falls : (x : ℕ) → entry_of after x ≤ entry_of table x
    falls x = ⊎_elim
        (λ (same : x ≡ next). let e = ap (entry_of after) same in let f = ap (entry_of table) same in let h = here in omega arith)
        (λ (apart : x ≡ next → ⊥). let e = other x apart in omega arith)
        (cases_eq x next)

    keeps_known : (x : ℕ) → IsKnown table x → IsKnown after x
    keeps_known x k = let f = falls x in omega arith

    taken_after : (x : ℕ) → (x ≡ next → ⊥) → IsTaken grid table x → IsTaken grid after x
    taken_after x apart taken to go = let t = taken to go in let f = falls to in let o = other x apart in omega arith

    module _ (new_due new_later : List ℕ) (opens : (x : ℕ) → Contains due x → Contains new_due x) (waits : (x : ℕ) → Contains later x → Contains new_later x)
        (due_known : All (IsKnown after) new_due) (later_known : All (IsKnown after) new_later) (low : (x : ℕ) → Contains new_later x → level < 2 ^ 34)
        (put : ((distance + estimate grid next start ≡ level) × Contains new_due next) ⊎ ((distance + estimate grid next start ≡ level + 2) × Contains new_later next)) where
      seen_after : (x : ℕ) → (x ≡ next → ⊥) → But x ⊎ IsSeen grid start level table due later x → But x ⊎ IsSeen grid start level after new_due new_later x
      seen_after x apart (inl but) = inl but
      seen_after x apart (inr (inl (high, taken))) = inr (inl ((let o = other x apart in omega arith), taken_after x apart taken))
      seen_after x apart (inr (inr (inl (is_level, listed)))) = inr (inr (inl ((let o = other x apart in omega arith), opens x listed)))
      seen_after x apart (inr (inr (inr (is_next, listed)))) = inr (inr (inr ((let o = other x apart in omega arith), waits x listed)))

      seen_here : But next ⊎ IsSeen grid start level after new_due new_later next
      seen_here = inr (inr (⊎_elim
          (λ p. inl ((let h = here in let a = p.0 in omega arith), p.1))
          (λ p. inr ((let h = here in let a = p.0 in omega arith), p.1))
          put))

      reached : IsSearch grid start goal But level after new_due new_later
      unfolding after
      reached = record {
        shape = search.shape;
        free = search.free;
        count = length-set table next distance ∙ search.count;
        top = λ x within. (let f = falls x in let l = length-set table next distance in let t = search.top x (omega arith) in omega arith);
        source = (let f = falls goal in let s = search.source in omega arith);
        walks = λ x k. ⊎_elim
            (λ (same : x ≡ next). subst (λ at. Walk grid at goal (entry_of after at)) (sym same)
            (subst (λ n. Walk grid next goal n) (sym (here ∙ sym is ∙ add-one (entry_of table cell))) (cell, Step-sym grid cell next step, search.walks cell known)))
            (λ (apart : x ≡ next → ⊥). let o = other x apart in subst (λ n. Walk grid x goal n) (sym o) (search.walks x (omega arith)))
            (cases_eq x next);
        due_known = due_known;
        later_known = later_known;
        low = low;
        seen = λ x k. ⊎_elim
            (λ (same : x ≡ next). subst (λ at. But at ⊎ IsSeen grid start level after new_due new_later at) (sym same) seen_here)
            (λ (apart : x ≡ next → ⊥). let o = other x apart in seen_after x apart (search.seen x (omega arith)))
            (cases_eq x next);
      }

    known_after : All (IsKnown after) due
    known_after = All-weaker (IsKnown table) (IsKnown after) keeps_known due search.due_known

    waiting_after : All (IsKnown after) later
    waiting_after = All-weaker (IsKnown table) (IsKnown after) keeps_known later search.later_known

    next_known : IsKnown after next
    next_known = let h = here in let s = small in omega arith

    pub reach_open : (new_due : List ℕ) → IsInserted next due new_due → distance + estimate grid next start ≡ level → IsSearch grid start goal But level (slice_set table next distance) new_due later
    unfolding after
    reach_open new_due inserted is_level = reached new_due later (inserted_keeps next due new_due inserted) (λ x listed. listed)
        (All-weaker (Contains new_due) (IsKnown after)
        (λ x listed. ⊎_elim
        (λ (before : Contains due x). All-contains (IsKnown after) due x known_after before)
        (λ (same : next ≡ x). subst (IsKnown after) same next_known)
        (inserted_cases next due new_due inserted x listed))
        new_due (All-contains_itself new_due))
        waiting_after search.low (inl (is_level, inserted_here next due new_due inserted))

    pub reach_later : level < 2 ^ 34 → distance + estimate grid next start ≡ level + 2 → IsSearch grid start goal But level (slice_set table next distance) due (later ++ next ∷ [])
    unfolding after
    reach_later low is_next = reached due (later ++ next ∷ []) (λ x listed. listed) (λ x listed. Contains-append_left later (next ∷ []) x listed)
        known_after (All-push (IsKnown after) later next waiting_after next_known) (λ x listed. low) (inr (is_next, Contains-push later next))

    pub reach_falls : sum (slice_set table next distance) + 1 ≤ sum table
    reach_falls = let s = sum_by-set (λ x. x) table next distance BLOCKED inside in omega arith

    pub reach_keeps_entry : entry_of (slice_set table next distance) cell ≡ entry_of table cell
    unfolding after
    reach_keeps_entry = other cell (λ same. (let e = ap (entry_of table) same in omega arith))

    pub reach_lowers : (x : ℕ) → entry_of (slice_set table next distance) x ≤ entry_of table x
    unfolding after
    reach_lowers = falls

  -- no open cell is left on the level
  pub risen : due ≡ [] → IsSearch grid start goal But (level + 2) table later []
  risen swept =
      let waiting = All-nil (IsKnown table) in
      let low = λ (x : ℕ) (listed : Contains [] x). absurd {A = level + 2 < 2 ^ 34} (Contains-none x listed) in
      let seen = λ (x : ℕ) (k : IsKnown table x). again x (search.seen x k) in
      assumption
    where
      again : (x : ℕ) → But x ⊎ IsSeen grid start level table due later x → But x ⊎ IsSeen grid start (level + 2) table later [] x
      again x (inl but) = inl but
      again x (inr (inl (high, taken))) = inr (inl (omega arith, taken))
      again x (inr (inr (inl (is_level, listed)))) = absurd (Contains-none x (subst (λ list. Contains list x) swept listed))
      again x (inr (inr (inr (is_next, listed)))) = inr (inr (inl (is_next, listed)))

-- what holds after a cell beside this one was reached
pub record IsReachedAt (grid : GridMap) (cell distance next : ℕ) (old new : Search) : Type 0 where
  pub search : IsSearchAt grid cell new
  pub entry : entry_of new.table.items cell + 1 ≡ distance
  pub level : value_of grid new.start new.table.items cell ≡ new.level
  pub effort : effort new ≤ effort old
  pub falls : (x : ℕ) → entry_of new.table.items x ≤ entry_of old.table.items x
  pub here : entry_of new.table.items next ≤ distance

pub reached_at : (grid : GridMap) (cell distance next : ℕ) (old new : Search) → IsSearchAt grid cell old → entry_of old.table.items cell + 1 ≡ distance → value_of grid old.start old.table.items cell ≡ old.level → old.level < 2 ^ 34 →
    Step grid cell next → next < length old.table.items → distance < entry_of old.table.items next →
    new.table.items ≡ slice_set old.table.items next distance → IsPut next (distance + estimate grid next old.start) old new → IsSameSearch old new → IsReachedAt grid cell distance next old new
reached_at grid cell distance next old new (s, known) is level low step inside more table put same =
    let table_before : List ℕ = old.table.items in
    let due : List ℕ = open_of old in
    let later : List ℕ = old.later.items in
    let nearer = estimate_step grid cell next old.start step in
    let keeps = reach_keeps_entry grid old.start old.goal old.level (λ other. other ≡ cell) table_before due later s cell next distance known is step inside more in
    let falls = reach_falls grid old.start old.goal old.level (λ other. other ≡ cell) table_before due later s cell next distance known is step inside more in
    let lowers = reach_lowers grid old.start old.goal old.level (λ other. other ≡ cell) table_before due later s cell next distance known is step inside more in
    record {
      search = (
        ⊎_elim
            (λ p. rw (same.start, same.goal, same.level, table, p.2)
            (reach_open grid old.start old.goal old.level (λ other. other ≡ cell) table_before due later s cell next distance known is step inside more (open_of new) p.1 p.0))
            (λ p. rw (same.start, same.goal, same.level, table, p.1, p.2)
            (reach_later grid old.start old.goal old.level (λ other. other ≡ cell) table_before due later s cell next distance known is step inside more low p.0))
            put,
        rw table (rw keeps known),
      );
      entry = rw table (rw keeps is);
      level = rw (same.start, same.level, table) (rw keeps level);
      effort = ⊎_elim
          (λ p. rw table (let longer = inserted_length next due (open_of new) p.1 in omega arith))
          (λ p. rw (table, p.1) (omega arith))
          put;
      falls = λ x. rw table (lowers x);
      here = rw table (let e = entry_of-set_same table_before next distance inside in omega arith);
    }

-- a cell is taken from those of the level
module _ (grid : GridMap) (start goal level : ℕ) (table due rest later : List ℕ) (cell : ℕ) where
  abbrev At : ℕ → Type 0
  At other = other ≡ cell

  pub taken_out : IsInserted cell rest due → IsSearch grid start goal (λ x. ⊥) level table due later →
      IsSearch grid start goal At level table rest later × IsKnown table cell × ((value_of grid start table cell ≡ level → ⊥) → IsSeen grid start level table rest later cell)
  taken_out inserted search = (
    (let due_known = All-weaker (Contains rest) (IsKnown table) (λ x listed. All-contains (IsKnown table) due x search.due_known (inserted_keeps cell rest due inserted x listed)) rest (All-contains_itself rest) in
        let seen = λ (x : ℕ) (k : IsKnown table x). out x (search.seen x k) in
        assumption),
    All-contains (IsKnown table) due cell search.due_known (inserted_here cell rest due inserted),
    λ apart. passed apart (search.seen cell (All-contains (IsKnown table) due cell search.due_known (inserted_here cell rest due inserted))),
  )
    where
      out : (x : ℕ) → ⊥ ⊎ IsSeen grid start level table due later x → At x ⊎ IsSeen grid start level table rest later x
      out x (inl none) = absurd none
      out x (inr (inl taken)) = inr (inl taken)
      out x (inr (inr (inl (is_level, listed)))) = ⊎_elim
          (λ (before : Contains rest x). inr (inr (inl (is_level, before))))
          (λ (same : cell ≡ x). inl (sym same))
          (inserted_cases cell rest due inserted x listed)
      out x (inr (inr (inr waits))) = inr (inr (inr waits))

      passed : (value_of grid start table cell ≡ level → ⊥) → ⊥ ⊎ IsSeen grid start level table due later cell → IsSeen grid start level table rest later cell
      passed apart (inl none) = absurd none
      passed apart (inr (inl taken)) = inl taken
      passed apart (inr (inr (inl (is_level, listed)))) = absurd (apart is_level)
      passed apart (inr (inr (inr waits))) = inr (inr waits)

-- the cell is expanded or open afterwards
module _ (grid : GridMap) (start goal level : ℕ) (table due later : List ℕ) (cell : ℕ) (search : IsSearch grid start goal (λ other. other ≡ cell) level table due later) where
  pub seen_all : IsSeen grid start level table due later cell → IsSearch grid start goal (λ x. ⊥) level table due later
  seen_all now = let seen = λ (x : ℕ) (k : IsKnown table x). all x (search.seen x k) in assumption
    where
      all : (x : ℕ) → (x ≡ cell) ⊎ IsSeen grid start level table due later x → ⊥ ⊎ IsSeen grid start level table due later x
      all x (inl same) = inr (subst (λ at. IsSeen grid start level table due later at) (sym same) now)
      all x (inr seen) = inr seen

  pub all_taken : value_of grid start table cell ≡ level → IsTaken grid table cell → IsSearch grid start goal (λ x. ⊥) level table due later
  all_taken is_level taken = seen_all (inl (omega arith, taken))

-- a level with later cells is low
pub low_level : (level : ℕ) (later : List ℕ) → (length later ≡ 0 → ⊥) → ((cell : ℕ) → Contains later cell → level < 2 ^ 34) → level < 2 ^ 34
low_level level [] some low = absurd (some refl)
low_level level (cell ∷ later) some low = low cell (zero, omega arith, refl)

-- of two lists that are empty together each is empty
pub both_empty : (xs ys : List ℕ) → xs ++ ys ≡ [] → (xs ≡ []) × (ys ≡ [])
both_empty [] ys none = (refl, none)
both_empty (x ∷ xs) ys none = absurd (let e = ap length none in omega arith)

-- whatever cell is taken out
pub popped : (grid : GridMap) (start goal level : ℕ) (table due rest front tail later : List ℕ) (r : Option ℕ) → IsSearch grid start goal (λ x. ⊥) level table due later →
    rest ≡ front ++ tail → due ≡ front ++ option_to_list r ++ tail →
    IfSome r (λ cell. (IsSearch grid start goal (λ x. x ≡ cell) level table rest later × IsKnown table cell)
    × ((value_of grid start table cell ≡ level → ⊥) → IsSeen grid start level table rest later cell))
popped grid start goal level table due rest front tail later None search left is = tt
popped grid start goal level table due rest front tail later (Some cell) search left is =
    let inserted : IsInserted cell rest due = (front, tail, left, is) in
    let t = taken_out grid start goal level table due rest later cell inserted search in
    ((t.0, t.1), t.2)

-- the start's entry is its distance if the level is at least the entry
module _ (grid : GridMap) (start goal level : ℕ) (table due later : List ℕ) (search : IsSearch grid start goal (λ x. ⊥) level table due later) where
  -- all steps were taken from a cell with so small a value
  taken_below : (x : ℕ) → IsKnown table x → value_of grid start table x < level → IsTaken grid table x
  taken_below x k low = from (search.seen x k)
    where
      from : ⊥ ⊎ IsSeen grid start level table due later x → IsTaken grid table x
      from (inl none) = absurd none
      from (inr (inl (high, taken))) = taken
      from (inr (inr (inl (is_level, listed)))) = absurd (omega arith)
      from (inr (inr (inr (is_next, listed)))) = absurd (omega arith)

  -- a walk that may lead the start to the goal in fewer steps bounds the entries on it
  pub walk_bound : (bound : ℕ) → bound ≤ level → bound ≤ UNREACHED → (n x : ℕ) → Walk grid x goal n → n + estimate grid x start < bound → entry_of table x ≤ n
  walk_bound bound within low zero x (free, same) less = let e = ap (entry_of table) same in let s = search.source in omega arith
  walk_bound bound within low (suc n) x (next, step, walk) less =
      let nearer = estimate_step grid next x start (Step-sym grid x next step) in
      let before = walk_bound bound within low n next walk (omega arith) in
      let taken = taken_below next (omega arith) (omega arith) x (Step-sym grid x next step) in
      omega arith

  pub start_distance : (distance : ℕ) → distance ≡ entry_of table start → distance < UNREACHED → distance ≤ level → IsDistance grid goal start distance
  start_distance distance is known high = record {
    walk = subst (λ n. Walk grid start goal n) (sym is) (search.walks start (omega arith));
    least = λ n walk. ⊎_elim
        (λ (less : n < distance).
        let self = estimate_self grid start in
        let b = walk_bound distance high (omega arith) n start walk (omega arith) in
        omega arith)
        (λ (past : distance ≤ n). past)
        (cases_lt n distance);
  }

-- the free cells at the first `count` of the places have an entry of at most this
abbrev pub AreTaken : GridMap → ℕ → List (Option ℕ) → ℕ → List ℕ → Type 0
AreTaken grid distance places count table = (k next : ℕ) → k < count → slice_index_or places k None ≡ Some next → IsFree grid next → entry_of table next ≤ distance

-- one place more, after which no entry is larger
pub taken_more : (grid : GridMap) (distance count : ℕ) (places : List (Option ℕ)) (table after : List ℕ) → AreTaken grid distance places count table → ((x : ℕ) → entry_of after x ≤ entry_of table x) →
    ((next : ℕ) → slice_index_or places count None ≡ Some next → IsFree grid next → entry_of after next ≤ distance) → AreTaken grid distance places (count + 1) after
taken_more grid distance count places table after before falls here k next lt is free = ⊎_elim
    (λ (earlier : k < count). let t = before k next earlier is free in let f = falls next in omega arith)
    (λ (past : count ≤ k). let last : k ≡ count = omega arith in here next (subst (λ n. slice_index_or places n None ≡ Some next) last is) free)
    (cases_lt k count)

-- all places are those of the cell's steps
pub taken_all : (grid : GridMap) (distance count cell : ℕ) (places : List (Option ℕ)) (table : List ℕ) → places ≡ neighbourhood grid.width cell → 0 < grid.width → IsFree grid cell → length places ≤ count →
    AreTaken grid distance places count table → distance ≡ entry_of table cell + 1 → IsTaken grid table cell
taken_all grid distance count cell places table beside wide free all taken is to go =
    let (k, within, at) = subst (λ list. Contains list (Some to)) (sym beside) (step_neighbour grid cell wide free to go) in
    let t = taken k to (omega arith) (get_or_default places k None (Some to) within ∙ at) (step_end grid cell to go) in
    omega arith

-- the search that has reached only its goal
module _ (grid : GridMap) (start goal cells : ℕ) (shape : IsGridMap grid) (free_start : IsFree grid start) (free_goal : IsFree grid goal) (all : cells ≡ length grid.free) where
  blank : List ℕ
  blank = replicate cells UNREACHED

  first : List ℕ
  first = slice_set blank goal 0

  pub goal_inside : goal < length (replicate cells UNREACHED)
  goal_inside = let w = free_within grid goal free_goal in let n = length-replicate cells UNREACHED in omega arith

  first_here : entry_of first goal ≡ 0
  unfolding first blank
  first_here = entry_of-set_same (replicate cells UNREACHED) goal 0 goal_inside

  blank_entry : (x : ℕ) → x < cells → entry_of blank x ≡ UNREACHED
  unfolding blank
  blank_entry x within = get_or-replicate cells x UNREACHED BLOCKED within

  blank_past : (x : ℕ) → cells ≤ x → entry_of blank x ≡ BLOCKED
  unfolding blank
  blank_past x past = get_or_past (replicate cells UNREACHED) x BLOCKED (let n = length-replicate cells UNREACHED in omega arith)

  blank_high : (x : ℕ) → UNREACHED ≤ entry_of blank x
  blank_high x = ⊎_elim
      (λ (within : x < cells). let e = blank_entry x within in omega arith)
      (λ (past : cells ≤ x). let e = blank_past x past in omega arith)
      (cases_lt x cells)

  first_other : (x : ℕ) → (x ≡ goal → ⊥) → entry_of first x ≡ entry_of blank x
  unfolding first
  first_other x apart = entry_of-set_other blank goal x 0 apart

  first_only : (x : ℕ) → IsKnown first x → x ≡ goal
  first_only x k = ⊎_elim
      (λ (same : x ≡ goal). same)
      (λ (apart : x ≡ goal → ⊥). let o = first_other x apart in let h = blank_high x in absurd (omega arith))
      (cases_eq x goal)

  first_count : length first ≡ cells
  unfolding first blank
  first_count = length-set (replicate cells UNREACHED) goal 0 ∙ length-replicate cells UNREACHED

  pub search_start : IsSearch grid start goal (λ x. ⊥) (estimate grid goal start) (slice_set (replicate cells UNREACHED) goal 0) (goal ∷ []) []
  unfolding first blank
  search_start = record {
    shape = shape;
    free = free_start;
    count = first_count ∙ all;
    top = λ x within. ⊎_elim
        (λ (same : x ≡ goal). let e = ap (entry_of first) same in let h = first_here in omega arith)
        (λ (apart : x ≡ goal → ⊥). let o = first_other x apart in let n = first_count in let b = blank_entry x (omega arith) in omega arith)
        (cases_eq x goal);
    source = first_here;
    walks = λ x k. subst (λ at. Walk grid at goal (entry_of first at)) (sym (first_only x k)) (subst (λ n. Walk grid goal goal n) (sym first_here) (free_goal, refl));
    due_known = All-push (IsKnown first) [] goal (All-nil (IsKnown first)) (let h = first_here in omega arith);
    later_known = All-nil (IsKnown first);
    low = λ x listed. absurd (Contains-none x listed);
    seen = λ x k. subst (λ at. ⊥ ⊎ IsSeen grid start (estimate grid goal start) first (goal ∷ []) [] at) (sym (first_only x k))
        (inr (inr (inl ((let h = first_here in omega arith), Contains-push [] goal))));
  }

-- a cell with an entry is free
pub known_free : (grid : GridMap) (start goal level : ℕ) (But : ℕ → Type 0) (table due later : List ℕ) → IsSearch grid start goal But level table due later → (cell : ℕ) → IsKnown table cell → IsFree grid cell
known_free grid start goal level But table due later search cell known = Walk-from_free grid cell goal (entry_of table cell) (search.walks cell known)

-- the distance of a cell, or that there is none
pub distance_or_none : (grid : GridMap) (goal cell : ℕ) (r : Option ℕ) → IfSome r (λ n. IsDistance grid goal cell n) → IfNone r (IsUnreachable grid goal cell) → IsDistanceOrNone grid goal cell r
distance_or_none grid goal cell None some none = none
distance_or_none grid goal cell (Some n) some none = some
