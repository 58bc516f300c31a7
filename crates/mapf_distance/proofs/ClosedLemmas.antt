-- A search with no open cell has reached each cell that leads to the goal.
use Rattle.std.proofs.Common.{◌⊎◌, ℕ, zero, suc, ◌<◌, ◌≤◌, List, [], ap, subst, inl, inr, ⊎_elim, arith}
use Rattle.std.proofs.lemmas.Bool.{cases_lt}
use Rattle.mapf_model.specs.Distance.{Walk, IsUnreachable}
use Rattle.mapf_model.specs.Grid.{GridMap}
use Rattle.mapf_model.specs.Limits.{most_cells}
use Rattle.mapf_model.proofs.ContainsLemmas.{Contains-none}
use Rattle.mapf_distance.specs.declared.search.Search.{Search}
use Rattle.mapf_distance.specs.declared.wave.TheConstants.{UNREACHED}
use Rattle.mapf_distance.specs.Marks.{entry_of}
use Rattle.mapf_distance.specs.Search.{IsSearch, IsSearchOn, IsSeen, IsTaken, IsKnown, IsFound, IsEnded, open_of, value_of}
use Rattle.mapf_distance.proofs.MarkLemmas.{few_free}
use Rattle.mapf_distance.proofs.SearchLemmas.{estimate_self}
use Rattle.mapf_distance.proofs.ShortestLemmas.{distance_few}
use Rattle.mapf_distance.proofs.StepLemmas.{Step-sym}

module _ (grid : GridMap) (start goal level : ℕ) (table : List ℕ) (search : IsSearch grid start goal (λ x. ⊥) level table [] []) where
  -- all steps were taken from each cell with an entry
  taken : (x : ℕ) → IsKnown table x → (value_of grid start table x ≤ level) × IsTaken grid table x
  taken x known = from (search.seen x known)
    where
      from : ⊥ ⊎ IsSeen grid start level table [] [] x → (value_of grid start table x ≤ level) × IsTaken grid table x
      from (inl none) = absurd none
      from (inr (inl is_taken)) = is_taken
      from (inr (inr (inl (is_level, listed)))) = absurd (Contains-none x listed)
      from (inr (inr (inr (is_next, listed)))) = absurd (Contains-none x listed)

  -- no walk is shorter than the entry
  entry_low : (n x : ℕ) → Walk grid x goal n → n < UNREACHED → entry_of table x ≤ n
  entry_low zero x (free, same) small = let e = ap (entry_of table) same in let s = search.source in omega arith
  entry_low (suc n) x (next, step, walk) small =
      let before = entry_low n next walk (omega arith) in
      let after = (taken next (omega arith)).1 x (Step-sym grid x next step) in
      omega arith

  -- so each entry is a distance, and less than the number of cells
  entry_small : (x : ℕ) → IsKnown table x → entry_of table x < most_cells
  entry_small x known =
      let few = distance_few grid goal (entry_of table x) x (record {
        walk = search.walks x known;
        least = λ n walk. ⊎_elim
            (λ (less : n < entry_of table x). let low = entry_low n x walk (omega arith) in omega arith)
            (λ (past : entry_of table x ≤ n). past)
            (cases_lt n (entry_of table x));
      }) in
      let most = few_free grid search.shape in
      omega arith

  -- the first cell of a walk to the goal has an entry
  reached : (n x : ℕ) → Walk grid x goal n → IsKnown table x
  reached zero x (free, same) = let e = ap (entry_of table) same in let s = search.source in omega arith
  reached (suc n) x (next, step, walk) =
      let known = reached n next walk in
      let small = entry_small next known in
      let after = (taken next known).1 x (Step-sym grid x next step) in
      omega arith

  pub closed_unreachable : ((entry_of table start < UNREACHED) × (entry_of table start ≤ level) → ⊥) → IsUnreachable grid goal start
  closed_unreachable missing n walk =
      let known = reached n start walk in
      let low = (taken start known).0 in
      let self = estimate_self grid start in
      missing (known, omega arith)

pub ended_unreachable : (grid : GridMap) (search : Search) → IsSearchOn grid search → IsEnded search → (IsFound search → ⊥) → IsUnreachable grid search.goal search.start
ended_unreachable grid search searched ended missing =
    let none = ended missing in
    closed_unreachable grid search.start search.goal search.level search.table.items
    (subst (λ due. IsSearch grid search.start search.goal (λ x. ⊥) search.level search.table.items due []) none.0
    (subst (λ later. IsSearch grid search.start search.goal (λ x. ⊥) search.level search.table.items (open_of search) later) none.1 searched))
    missing
