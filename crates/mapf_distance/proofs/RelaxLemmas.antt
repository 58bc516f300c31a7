-- The steps from one cell are taken one after another, and those towards the start keep the f-value.
use Rattle.std.proofs.Common.{◌≡◌, ℕ, ◌+◌, ◌-◌, ◌%◌, ◌^◌, ◌<◌, ◌≤◌, Bool, Option, Some, None, IfSome, List, cond, length, slice_index_or, nat_le, nat_lt, refl, sym, ◌∙◌, ap, subst, inl, inr, ⊎_elim, arith}
use Rattle.std.proofs.lemmas.Bool.{cases_lt, ltb-true, lt-ltb, le-ltb, leb-true}
use Rattle.std.proofs.lemmas.List.{get_or_default}
use Rattle.std.proofs.lemmas.Option.{same_Some, none-some, cond_some}
use Rattle.mapf_model.specs.Grid.{GridMap, IsFree, column, row}
use Rattle.mapf_model.specs.Neighbours.{neighbourhood}
use Rattle.mapf_model.proofs.StepLemmas.{number, down, along, along_before, free_within}
use Rattle.mapf_distance.specs.Marks.{entry_of}
use Rattle.mapf_distance.specs.Search.{IsAim, IsSearchAt, IsSearchOn, IsSameSearch, IsRelaxed, effort, estimate, gap, open_of, value_of}
use Rattle.mapf_distance.specs.declared.search.Aim.{Aim}
use Rattle.mapf_distance.specs.declared.search.Search.{Search}
use Rattle.mapf_distance.proofs.BesideLemmas.{place_step}
use Rattle.mapf_distance.proofs.SearchLemmas.{AreTaken, reached_at, taken_more, taken_all, all_taken, known_free}

-- the steps to the first `count` of the places beside the cell were taken
pub record IsTaking (grid : GridMap) (cell distance : ℕ) (places : List (Option ℕ)) (count : ℕ) (first now : Search) : Type 0 where
  pub beside : places ≡ neighbourhood grid.width cell
  pub wide : 0 < grid.width
  pub search : IsSearchAt grid cell now
  pub entry : entry_of now.table.items cell + 1 ≡ distance
  pub level : value_of grid now.start now.table.items cell ≡ now.level
  pub low : now.level < 2 ^ 34
  pub taken : AreTaken grid distance places count now.table.items
  pub effort : effort now ≤ effort first
  pub same : IsSameSearch first now

pub taking_first : {distance width : ℕ} {places : List (Option ℕ)} (grid : GridMap) (cell : ℕ) (first : Search) → places ≡ neighbourhood width cell → width ≡ grid.width → IsSearchAt grid cell first →
    value_of grid first.start first.table.items cell ≡ first.level → first.level < 2 ^ 34 → distance ≡ entry_of first.table.items cell + 1 → IsTaking grid cell distance places 0 first first
taking_first grid cell first beside wide search level low is = record {
  beside = beside ∙ ap (λ w. neighbourhood w cell) wide;
  wide = (let some = search.0.shape.0 in omega arith);
  search = search;
  entry = sym is;
  level = level;
  low = low;
  taken = λ k next none. absurd (omega arith);
  effort = omega arith;
  same = record { start = refl; goal = refl; level = refl };
}

module _ {grid : GridMap} {cell distance : ℕ} {places : List (Option ℕ)} {count : ℕ} {first old : Search} (t : IsTaking grid cell distance places count first old) where
  free : IsFree grid cell
  free = known_free grid old.start old.goal old.level (λ other. other ≡ cell) old.table.items (open_of old) old.later.items t.search.0 cell t.search.1

  skip : ((next : ℕ) → slice_index_or places count None ≡ Some next → IsFree grid next → entry_of old.table.items next ≤ distance) → IsTaking grid cell distance places (count + 1) first old
  skip low =
      let more = taken_more grid distance count places old.table.items old.table.items t.taken (λ x. omega arith) low in
      assumption

  -- the step to the cell at this place was relaxed
  pub taking_more : (default : Option ℕ) (new : Search) → count < 5 → IsRelaxed grid (slice_index_or places count default) distance old new → IsTaking grid cell distance places (count + 1) first new
  taking_more default new within relaxed = more (slice_index_or places count default) (get_or_default places count None default (let five = ap length t.beside in omega arith)) relaxed
    where
      more : (to : Option ℕ) → slice_index_or places count None ≡ to → IsRelaxed grid to distance old new → IsTaking grid cell distance places (count + 1) first new
      more None is same = rw same (skip (λ next next_is. absurd (none-some next (sym is ∙ next_is))))
      more (Some next) is (inr (refused, same)) = rw same (skip (λ n n_is n_free. ⊎_elim
          (λ (less : distance < entry_of old.table.items n). absurd (refused (subst (λ x. IsFree grid x × (distance < entry_of old.table.items x)) (same_Some n next (sym n_is ∙ is)) (n_free, less))))
          (λ (past : entry_of old.table.items n ≤ distance). past)
          (cases_lt distance (entry_of old.table.items n))))
      more (Some next) is (inl (both, table, put, kept)) =
          let step = place_step grid cell places t.beside t.wide free count next None within is both.0 in
          let inside : next < length old.table.items = let f = free_within grid next both.0 in let n = t.search.0.count in omega arith in
          let r = reached_at grid cell distance next old new t.search t.entry t.level t.low step inside both.1 table put kept in
          record {
            beside = t.beside;
            wide = t.wide;
            search = r.search;
            entry = r.entry;
            level = r.level;
            low = (let l = kept.level in let w = t.low in omega arith);
            taken = taken_more grid distance count places old.table.items new.table.items t.taken r.falls
                (λ n n_is n_free. subst (λ x. entry_of new.table.items x ≤ distance) (sym (same_Some n next (sym n_is ∙ is))) r.here);
            effort = (let e = r.effort in let b = t.effort in omega arith);
            same = record {
              start = kept.start ∙ t.same.start;
              goal = kept.goal ∙ t.same.goal;
              level = kept.level ∙ t.same.level;
            };
          }

  -- the cell itself has an entry
  pub taking_self : slice_index_or places count None ≡ Some cell → IsTaking grid cell distance places (count + 1) first old
  taking_self is = skip (λ next next_is is_free.
      let same = ap (entry_of old.table.items) (same_Some cell next (sym is ∙ next_is)) in
      let here = t.entry in
      omega arith)

  pub taking_end : 5 ≤ count → IsSearchOn grid old
  taking_end all =
      all_taken grid old.start old.goal old.level old.table.items (open_of old) old.later.items cell t.search.0 t.level
      (taken_all grid distance count cell places old.table.items t.beside t.wide free (let five = ap length t.beside in omega arith) t.taken (sym t.entry))

-- of two neighbouring numbers the one on the side of a third is nearer to it
gap_before : (a b s : ℕ) → b ≡ a + 1 → s < b → gap a s + 1 ≡ gap b s
gap_before a b s e before = omega arith

gap_from : (a b s : ℕ) → b ≡ a + 1 → b ≤ s → gap a s ≡ gap b s + 1
gap_from a b s e from = omega arith

-- which steps keep the f-value
module _ {grid : GridMap} {cell distance : ℕ} {places : List (Option ℕ)} {count : ℕ} {first now : Search} (t : IsTaking grid cell distance places count first now) (aim : Aim) (is_aim : IsAim grid first.start aim) where
  abbrev start : ℕ
  start = now.start

  abbrev Keeps : Bool → ℕ → Type 0
  Keeps flag next = distance + estimate grid next start ≡ cond flag now.level (now.level + 2)

  at_level : distance + estimate grid cell start ≡ now.level + 1
  at_level = let e = t.entry in let l = t.level in omega arith

  aim_row : aim.row ≡ row grid start
  aim_row = is_aim.row ∙ ap (row grid) (sym t.same.start)

  aim_column : aim.column ≡ column grid start
  aim_column = is_aim.column ∙ ap (column grid) (sym t.same.start)

  keeps_if : (a b next : ℕ) → (a < b → estimate grid next start + 1 ≡ estimate grid cell start) → (b ≤ a → estimate grid next start ≡ estimate grid cell start + 1) → Keeps (nat_lt a b) next
  keeps_if a b next towards away = ⊎_elim
      (λ (less : a < b). subst (λ flag. Keeps flag next) (sym (lt-ltb a b less)) (let e = towards less in let l = at_level in omega arith))
      (λ (past : b ≤ a). subst (λ flag. Keeps flag next) (sym (le-ltb a b past)) (let e = away past in let l = at_level in omega arith))
      (cases_lt a b)

  pub due_above : (at : ℕ) → at ≡ row grid cell → (place : Option ℕ) → place ≡ cond (nat_le grid.width cell) (Some (cell - grid.width)) None → IfSome place (λ next. Keeps (nat_lt aim.row at) next)
  due_above at cell_row None is = tt
  due_above at cell_row (Some next) is =
      let found = cond_some (nat_le grid.width cell) (cell - grid.width) next (sym is) in
      let high = leb-true grid.width cell found.0 in
      let move = down grid.width t.wide next cell (let e = found.1 in omega arith) in
      let same = ap (λ n. gap n (column grid start)) move.1 in
      let aimed = aim_row in
      keeps_if aim.row at next
      (λ less. let nearer = gap_before (row grid next) (row grid cell) (row grid start) move.0 (omega arith) in omega arith)
      (λ past. let farther = gap_from (row grid next) (row grid cell) (row grid start) move.0 (omega arith) in omega arith)

  pub due_left : (at : ℕ) → at ≡ column grid cell → (place : Option ℕ) → place ≡ cond (nat_lt 0 (cell % grid.width)) (Some (cell - 1)) None → IfSome place (λ next. Keeps (nat_lt aim.column at) next)
  due_left at cell_column None is = tt
  due_left at cell_column (Some next) is =
      let found = cond_some (nat_lt 0 (cell % grid.width)) (cell - 1) next (sym is) in
      let positive = ltb-true 0 (cell % grid.width) found.0 in
      let whole = number grid.width t.wide cell in
      let move = along_before grid.width t.wide next cell (let e = found.1 in omega arith) positive in
      let same = ap (λ n. gap n (row grid start)) move.0 in
      let aimed = aim_column in
      keeps_if aim.column at next
      (λ less. let nearer = gap_before (column grid next) (column grid cell) (column grid start) move.1 (omega arith) in omega arith)
      (λ past. let farther = gap_from (column grid next) (column grid cell) (column grid start) move.1 (omega arith) in omega arith)

  pub due_right : (at : ℕ) → at ≡ column grid cell → (place : Option ℕ) → place ≡ cond (nat_lt (cell % grid.width + 1) grid.width) (Some (cell + 1)) None → IfSome place (λ next. Keeps (nat_lt at aim.column) next)
  due_right at cell_column None is = tt
  due_right at cell_column (Some next) is =
      let found = cond_some (nat_lt (cell % grid.width + 1) grid.width) (cell + 1) next (sym is) in
      let move = along grid.width t.wide cell next found.1 (ltb-true (cell % grid.width + 1) grid.width found.0) in
      let same = ap (λ n. gap n (row grid start)) move.0 in
      let aimed = aim_column in
      keeps_if at aim.column next
      (λ less. let nearer = gap_from (column grid cell) (column grid next) (column grid start) move.1 (omega arith) in omega arith)
      (λ past. let farther = gap_before (column grid cell) (column grid next) (column grid start) move.1 (omega arith) in omega arith)

  pub due_below : (at : ℕ) → at ≡ row grid cell → (place : Option ℕ) → place ≡ Some (cell + grid.width) → IfSome place (λ next. Keeps (nat_lt at aim.row) next)
  due_below at cell_row None is = tt
  due_below at cell_row (Some next) is =
      let move = down grid.width t.wide cell next (sym (same_Some next (cell + grid.width) is)) in
      let same = ap (λ n. gap n (column grid start)) move.1 in
      let aimed = aim_row in
      keeps_if at aim.row next
      (λ less. let nearer = gap_from (row grid cell) (row grid next) (row grid start) move.0 (omega arith) in omega arith)
      (λ past. let farther = gap_before (row grid cell) (row grid next) (row grid start) move.0 (omega arith) in omega arith)
