-- The wave that has reached only its goal.
use Rattle.std.proofs.Common.{◌≡◌, ℕ, zero, suc, ◌+◌, ◌<◌, List, [], ◌∷◌, length, map, count_by, slice_set, refl, sym, ◌∙◌, ap, subst, ⊎_elim, arith}
use Rattle.std.proofs.Math.Seq.{map-set_same}
use Rattle.std.proofs.lemmas.Bool.{cases_eq}
use Rattle.std.proofs.lemmas.List.Sums.{sum_by-set}
use Rattle.mapf_model.specs.Distance.{Walk}
use Rattle.mapf_model.specs.Grid.{GridMap, IsGridMap, IsFree, free_cell_count}
use Rattle.mapf_distance.specs.declared.wave.TheConstants.{BLOCKED, UNREACHED}
use Rattle.mapf_distance.specs.Marks.{entry_of, is_open, is_unreached, first_entry}
use Rattle.mapf_distance.specs.Wave.{IsWave, entry_at}
use Rattle.mapf_distance.proofs.MarkLemmas.{entry_of-set_same, entry_of-set_other, within_table, first_open, first_count, first_unreached, first_none, weight}

module _ (grid : GridMap) (goal : ℕ) (shape : IsGridMap grid) (free : IsFree grid goal) where
  first : List ℕ
  first = map first_entry grid.free

  table : List ℕ
  table = slice_set first goal 0

  fresh : entry_of first goal ≡ UNREACHED
  unfolding first
  fresh = first_unreached grid.free goal free

  pub goal_inside : goal < length (map first_entry grid.free)
  unfolding first
  goal_inside = let e = fresh in within_table first goal (omega arith)

  here : entry_of table goal ≡ 0
  unfolding first table
  here = entry_of-set_same first goal 0 goal_inside

  only : (cell : ℕ) → entry_of table cell < UNREACHED → goal ≡ cell
  unfolding first table
  only cell known = ⊎_elim
      (λ (same : cell ≡ goal). sym same)
      (λ (apart : cell ≡ goal → ⊥). let e = entry_of-set_other first goal cell 0 apart in let n = first_none grid.free cell in absurd (omega arith))
      (cases_eq cell goal)

  fewer : length (goal ∷ []) + count_by is_unreached table ≡ free_cell_count grid
  unfolding first table
  fewer =
      let changed = sum_by-set weight first goal 0 BLOCKED goal_inside in
      let was : weight (entry_of first goal) ≡ 1 = ap weight fresh in
      let total = first_count grid.free in
      omega arith

  -- the only place
  single : (place : ℕ) → place < length (goal ∷ []) → entry_at table (goal ∷ []) place ≡ 0
  single zero within = here
  single (suc place) within = absurd (omega arith)

  pub wave_start : IsWave grid 0 (slice_set (map first_entry grid.free) goal 0) (goal ∷ [])
  unfolding first table
  wave_start = record {
    shape = shape;
    free = map-set_same is_open first goal 0 BLOCKED (sym (ap is_open fresh)) ∙ first_open grid.free;
    count = fewer;
    start = here;
    walks = λ cell known. subst (λ at. Walk grid at goal (entry_of table at)) (only cell known) (subst (λ n. Walk grid goal goal n) (sym here) (free, refl));
    listed = λ cell known. (zero, omega arith, only cell known);
    entered = λ place within. let e = single place within in omega arith;
    rising = λ before after le within. let a = single before (omega arith) in let b = single after within in omega arith;
    ahead = λ place other from within within_other. let a = single place within in let b = single other within_other in omega arith;
    taken = λ place to before. absurd (omega arith);
    some = omega arith;
    bound = omega arith;
  }
