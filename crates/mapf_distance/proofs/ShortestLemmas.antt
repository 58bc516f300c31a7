-- A search that has expanded all cells up to an f-value knows the distances of the cells on shortest paths.
use Rattle.std.proofs.Common.{◌≡◌, ℕ, zero, suc, ◌+◌, ◌<◌, ◌≤◌, Bool, true, false, cond, List, [], length, count_by, slice_index_or, slice_set, add-one, sym, ◌∙◌, ap, subst, ⊎_elim, arith}
use Rattle.std.proofs.lemmas.Bool.{cases_lt, both_ways}
use Rattle.std.proofs.lemmas.List.{get_or_past, get_or-set_other}
use Rattle.std.proofs.lemmas.List.Sums.{sum_by-set, get_or-le-sum_by}
use Rattle.mapf_model.specs.Distance.{Walk, IsDistance}
use Rattle.mapf_model.specs.Grid.{GridMap, IsFree, Step, free_cell_count}
use Rattle.mapf_distance.specs.declared.search.Search.{Search}
use Rattle.mapf_distance.specs.Marks.{entry_of}
use Rattle.mapf_distance.specs.Search.{IsSettled, estimate, open_of}
use Rattle.mapf_distance.proofs.DescentLemmas.{IsDistance-one, nearer_step}
use Rattle.mapf_distance.proofs.SearchLemmas.{estimate_step, risen, walk_bound}
use Rattle.mapf_distance.proofs.StepLemmas.{Step-sym, Walk-from_free}

pub settled_less : (grid : GridMap) (bound less : ℕ) (search : Search) → IsSettled grid bound search → less ≤ bound → IsSettled grid less search
settled_less grid bound less search settled lower = record { searched = settled.searched; swept = settled.swept; within = omega arith; small = omega arith }

module _ (grid : GridMap) (bound : ℕ) (search : Search) (settled : IsSettled grid bound search) where
  -- no walk of so small an f-value is shorter than the entry
  entry_low : (n x : ℕ) → Walk grid x search.goal n → n + estimate grid x search.start ≤ bound → entry_of search.table.items x ≤ n
  entry_low n x walk near =
      let swept = settled.swept in
      let within = settled.within in
      let small = settled.small in
      walk_bound grid search.start search.goal (search.level + 2) search.table.items search.later.items []
      (risen grid search.start search.goal search.level (λ other. ⊥) search.table.items (open_of search) search.later.items settled.searched swept)
      (bound + 1) (omega arith) (omega arith) n x walk (omega arith)

  entry_if_distance : (n x : ℕ) → n + estimate grid x search.start ≤ bound → IsDistance grid search.goal x n → entry_of search.table.items x ≡ n
  entry_if_distance n x near is =
      let low = entry_low n x is.walk near in
      let small = settled.small in
      let high = is.least (entry_of search.table.items x) (settled.searched.walks x (omega arith)) in
      omega arith

  distance_if_entry : (n x : ℕ) → n + estimate grid x search.start ≤ bound → entry_of search.table.items x ≡ n → IsDistance grid search.goal x n
  distance_if_entry n x near is =
      let small = settled.small in
      record {
        walk = subst (λ m. Walk grid x search.goal m) is (settled.searched.walks x (omega arith));
        least = λ m walk. ⊎_elim
            (λ (less : m < n). let low = entry_low m x walk (omega arith) in omega arith)
            (λ (past : n ≤ m). past)
            (cases_lt m n);
      }

  pub free_if_entry : (n x : ℕ) → n ≤ bound → entry_of search.table.items x ≡ n → IsFree grid x
  free_if_entry n x within is = let small = settled.small in Walk-from_free grid x search.goal (entry_of search.table.items x) (settled.searched.walks x (omega arith))

-- a step lengthens the estimate by one at most
pub estimate_after : (grid : GridMap) (from to start : ℕ) → Step grid from to → estimate grid to start ≤ estimate grid from start + 1
estimate_after grid from to start step = estimate_step grid to from start (Step-sym grid from to step)

-- one step from a cell with one step more to the goal
module _ (grid : GridMap) (cell distance : ℕ) (search : Search) (settled : IsSettled grid (distance + 1 + estimate grid cell search.start) search) (to : ℕ) (step : Step grid cell to) where
  pub next_entry : IsDistance grid search.goal to distance → entry_of search.table.items to ≡ distance
  next_entry there = let e = estimate_after grid cell to search.start step in
      entry_if_distance grid (distance + 1 + estimate grid cell search.start) search settled distance to (omega arith) there

  pub next_distance : entry_of search.table.items to ≡ distance → IsDistance grid search.goal to distance
  next_distance is = let e = estimate_after grid cell to search.start step in
      distance_if_entry grid (distance + 1 + estimate grid cell search.start) search settled distance to (omega arith) is

-- a shortest path has each of its cells once, so it has no more cells than are free
pub distance_few : (grid : GridMap) (goal distance cell : ℕ) → IsDistance grid goal cell distance → distance < free_cell_count grid
distance_few grid goal distance cell is = counted distance cell is grid.free (λ k other within there. Walk-from_free grid other goal k there.walk)
  where
    weight : Bool → ℕ
    weight flag = cond flag 1 0

    held : (flags : List Bool) (other : ℕ) → slice_index_or flags other false ≡ true → other < length flags
    held flags other is_set = ⊎_elim
        (λ (within : other < length flags). within)
        (λ (past : length flags ≤ other). absurd (both_ways (slice_index_or flags other false) (get_or_past flags other false past) is_set))
        (cases_lt other (length flags))

    counted : (n from : ℕ) → IsDistance grid goal from n → (flags : List Bool) → ((k other : ℕ) → k ≤ n → IsDistance grid goal other k → slice_index_or flags other false ≡ true) → n < count_by (λ flag. flag) flags
    counted zero from there flags set =
        let is_set = set zero from (omega arith) there in
        let one = get_or-le-sum_by weight flags from false (held flags from is_set) in
        let is_one = ap weight is_set in
        omega arith
    counted (suc n) from there flags set =
        let is_set = set (suc n) from (omega arith) there in
        let (next, step, nearer) = nearer_step grid goal from n (subst (λ m. IsDistance grid goal from m) (sym (add-one n)) there) in
        let rest = counted n next nearer (slice_set flags from false) (λ k other within is_there.
        get_or-set_other flags from other false false (λ same. (let e = IsDistance-one grid goal from k (suc n) (subst (λ at. IsDistance grid goal at k) same is_there) there in omega arith))
        ∙ set k other (omega arith) is_there) in
        let changed = sum_by-set weight flags from false false (held flags from is_set) in
        let is_one = ap weight is_set in
        omega arith
