-- Steps can be taken in both directions, and so can walks, with the same number of steps.
use Rattle.std.proofs.Common.{ℕ, zero, suc, sym, subst, inl, inr, ⊎_elim}
use Rattle.mapf_model.specs.Grid.{GridMap, IsFree, DifferByOne, Step}
use Rattle.mapf_model.specs.Distance.{Walk}
use Rattle.mapf_model.proofs.StepLemmas.{step_end}

pub Step-sym : (grid : GridMap) (from to : ℕ) → Step grid from to → Step grid to from
Step-sym grid from to (inl (free, same)) = inl (subst (λ cell. IsFree grid cell) same free, sym same)
Step-sym grid from to (inr beside) = inr (record {
  from_free = beside.to_free;
  to_free = beside.from_free;
  apart = ⊎_elim
      (λ in_row. inl (sym in_row.0, turned in_row.1))
      (λ in_column. inr (sym in_column.0, turned in_column.1))
      beside.apart;
})
  where
    turned : {a b : ℕ} → DifferByOne a b → DifferByOne b a
    turned (inl e) = inr e
    turned (inr e) = inl e

pub Walk-from_free : (grid : GridMap) (from to n : ℕ) → Walk grid from to n → IsFree grid from
Walk-from_free grid from to zero (free, same) = free
Walk-from_free grid from to (suc n) (next, step, walk) = step_end grid next from (Step-sym grid from next step)
