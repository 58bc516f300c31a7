-- Walks to the goal of which each step has to lead nearer to it.
use Rattle.std.proofs.Common.{◌≡◌, ℕ, suc, ◌+◌, ◌-◌, ◌<◌, ◌≤◌, List, [], ◌∷◌, ◌++◌, length, slice_index, sym, subst, arith, length-append}
use Rattle.std.proofs.Math.Seq.{get_or-append_seam}
use Rattle.mapf_constraints.specs.BarSets.{AreBefore}
use Rattle.mapf_model.specs.declared.bar.Bar.TheVariants.{Cell, Move}
use Rattle.mapf_model.specs.Distance.{Walk, IsDistance}
use Rattle.mapf_model.specs.Grid.{Step}
use Rattle.mapf_model.specs.Labels.{MayGo}
use Rattle.mapf_model.proofs.StepLemmas.{step_end}
use Rattle.mapf_spacetime.specs.Task.{Task, Goes, IsValue, state_at}
use Rattle.mapf_spacetime.specs.PathSearch.{Walked, CanArrive, state_of, IsSearching}
use Rattle.mapf_spacetime.proofs.WayLemmas.{step_searching, arrives_walks}

-- these cells, and no state from which the search backtracked
abbrev pub only_cells : List ℕ → Walked
only_cells cells = record { cells = cells; failed = [] }

-- the states that failed may be forgotten
pub without_failures : (task : Task) (cost : ℕ) (way : Walked) → IsSearching task cost way → IsSearching task cost (only_cells way.cells)
without_failures task cost way w = record {
  from = w.from;
  short = w.short;
  fresh = λ k within held. let h = held.1 in omega (arith, h);
  stuck = λ s held. let h = held.1 in absurd (omega (arith, h));
  least = w.least;
}

-- no constraint forbids a step after the last one
pub may_after : (task : Task) (from to tick : ℕ) → Step task.grid from to → AreBefore tick task.bars → MayGo task.grid task.bars from to tick
may_after task from to tick step before = record {
  step = step;
  arrival = λ held. let h = before (Cell to (tick + 1)) held in omega (arith, h);
  move = λ held. let h = before (Move from to tick) held in omega (arith, h);
}

module _ (task : Task) (cost : ℕ) (cells : List ℕ) (w : IsSearching task cost (only_cells cells)) (unfinished : length cells ≤ cost) (free : AreBefore (length cells - 1) task.bars)
    (level : IsValue task (state_of cells (length cells - 1)) cost) (to distance : ℕ) (left : (length cells - 1) + (distance + 1) ≡ cost)
    (step : Step task.grid (slice_index cells (length cells - 1)) to) (is : IsDistance task.grid task.goal to distance)
    (least : (other : ℕ) → Step task.grid (slice_index cells (length cells - 1)) other → IsDistance task.grid task.goal other distance → to ≤ other)
  where
    next_level : IsValue task (state_at to (length cells)) cost
    next_level =
        let sum = level.sum in
        let few = level.few in
        let small = level.small in
        let some = w.from.some in
        record {
          distance = distance;
          is = is;
          sum = omega (arith, left, some);
          few = omega (arith, few, sum, left);
          small = omega (arith, small, sum, left);
        }

    lesser : (other : ℕ) → other < to → MayGo task.grid task.bars (slice_index cells (length cells - 1)) other (length cells - 1) → CanArrive task cost (state_at other (length cells)) → ⊥
    lesser other less may (n, on) =
        let some = w.from.some in
        let walk = arrives_walks task cost n (state_at other (length cells)) (step_end task.grid (slice_index cells (length cells - 1)) other may.step) on in
        let sum = walk.1 in
        let same : n ≡ distance = omega (arith, sum, left, some) in
        let far : IsDistance task.grid task.goal other distance = record {
          walk = subst (Walk task.grid other task.goal) same walk.0;
          least = λ m short. let more = level.is.least (suc m) (other, may.step, short) in let all = level.sum in omega (arith, more, all, left);
        } in
        let low = least other may.step far in
        omega (arith, low, less)

    -- the step to the nearer cell of the least number
    pub step_direct : IsSearching task cost (only_cells (cells ++ to ∷ []))
    step_direct =
        let some = w.from.some in
        let goes : Goes task (state_of cells (length cells - 1)) (state_at to (length cells)) = record { may = may_after task (slice_index cells (length cells - 1)) to (length cells - 1) step free; tick = omega (arith, some) } in
        step_searching task cost (only_cells cells) w to unfinished goes (cost, next_level, omega arith) (λ held. let h = held.1 in omega (arith, h)) lesser

    pub level_direct : IsValue task (state_of (cells ++ to ∷ []) (length (cells ++ to ∷ []) - 1)) cost
    level_direct =
        let size = length-append cells (to ∷ []) in
        let last : length (cells ++ to ∷ []) - 1 ≡ length cells = omega (arith, size) in
        subst (λ n. IsValue task (state_of (cells ++ to ∷ []) n) cost) (sym last)
        (subst (λ cell. IsValue task (state_at cell (length cells)) cost) (sym (get_or-append_seam cells to [] 0)) next_level)

    pub free_direct : AreBefore (length (cells ++ to ∷ []) - 1) task.bars
    free_direct bar held = let h = free bar held in let size = length-append cells (to ∷ []) in omega (arith, h, size)
