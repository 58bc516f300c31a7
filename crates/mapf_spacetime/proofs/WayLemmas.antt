-- A walk that backtracks only from states from which the agent can't arrive gets to the goal.
use Rattle.std.proofs.Common.{◌≡◌, ◌⊎◌, inl, inr, ⊎_elim, ℕ, zero, suc, ◌+◌, ◌-◌, ◌<◌, ◌≤◌, List, [], ◌∷◌, ◌++◌, length, take, slice_index, Contains, refl, sym, ap, subst, ◌∙◌, arith, length-append, length-take}
use Rattle.std.proofs.Math.ListN.{get_or-append}
use Rattle.std.proofs.Math.Seq.{get_or-append_seam}
use Rattle.std.proofs.lemmas.Bool.{cases_lt}
use Rattle.std.proofs.lemmas.List.{get_or-take}
use Rattle.std.proofs.lemmas.List.Elements.{Contains-push_cases}
use Rattle.mapf_distance.specs.Distances.{IsLeastDescent}
use Rattle.mapf_model.specs.Bars.{Satisfies}
use Rattle.mapf_model.specs.Distance.{Walk, IsDistance, IsUnreachable}
use Rattle.mapf_model.specs.Grid.{GridMap, IsFree, Step}
use Rattle.mapf_model.specs.Labels.{MayGo}
use Rattle.mapf_model.specs.Path.{at, IsPath, IsLawful, IsCost}
use Rattle.mapf_spacetime.specs.Answer.{IsFirstOfCost}
use Rattle.mapf_model.specs.declared.state.State.{State}
use Rattle.mapf_spacetime.specs.Task.{Task, Goes, IsValue, IsWithin, agent_of, state_at, start_of}
use Rattle.mapf_spacetime.specs.PathSearch.{Walked, first_walk, with_step, with_failure, CanArriveIn, CanArrive, IsNoWayOn, IsWholeWalk, state_of, IsSearching}
use Rattle.mapf_spacetime.specs.declared.path_search.SearchEnd.{SearchEnd}
use Rattle.mapf_spacetime.specs.declared.path_search.SearchEnd.TheVariants.{AtGoal, Paused, NoWay}
use Rattle.mapf_spacetime.specs.PathSearchEnds.{IsEnd}
use Rattle.mapf_model.proofs.ContainsLemmas.{Contains-none}
use Rattle.mapf_spacetime.proofs.PathLemmas.{at_is, satisfied_step}
use Rattle.mapf_spacetime.proofs.ValueLemmas.{value_free}
use Rattle.mapf_model.proofs.StepLemmas.{step_start, step_end}

-- a search begins at the start
pub first_searching : (task : Task) (cost : ℕ) → IsWithin task cost (start_of task) → IsSearching task cost (first_walk task.start)
first_searching task cost within = record {
  from = record {
    some = omega arith;
    start = refl;
    within = λ k less. (let first : 0 ≡ k = omega arith in subst (λ n. IsWithin task cost (state_of (task.start ∷ []) n)) first within);
    goes = λ k less. absurd (omega arith);
  };
  short = omega arith;
  fresh = λ k less held. Contains-none (state_of (task.start ∷ []) k) held;
  stuck = λ s held. absurd (Contains-none s held);
  least = λ k to less. absurd (omega arith);
}

-- it can go on unless it is at the goal
pub still_searching : (task : Task) (cost : ℕ) (way : Walked) (end : SearchEnd) → IsEnd task cost way end → (end ≡ AtGoal → ⊥) → IsSearching task cost way
still_searching task cost way AtGoal is not = absurd (not refl)
still_searching task cost way Paused is not = is
still_searching task cost way NoWay is not = is.0

module _ (task : Task) (cost : ℕ) (way : Walked) (w : IsSearching task cost way) (to : ℕ) (unfinished : length way.cells ≤ cost) where
  old : (k : ℕ) → k < length way.cells → slice_index (way.cells ++ to ∷ []) k ≡ slice_index way.cells k
  old k lt = get_or-append way.cells (to ∷ []) 0 k lt

  new : (k : ℕ) → k ≡ length way.cells → slice_index (way.cells ++ to ∷ []) k ≡ to
  new k e = ap (λ n. slice_index (way.cells ++ to ∷ []) n) e ∙ get_or-append_seam way.cells to [] 0

  pub step_searching : Goes task (state_of way.cells (length way.cells - 1)) (state_at to (length way.cells)) → IsWithin task cost (state_at to (length way.cells)) → (Contains way.failed (state_at to (length way.cells)) → ⊥) →
      ((other : ℕ) → other < to → MayGo task.grid task.bars (slice_index way.cells (length way.cells - 1)) other (length way.cells - 1) → CanArrive task cost (state_at other (length way.cells)) → ⊥) → IsSearching task cost (with_step way to)
  step_searching goes within fresh lesser = record {
    from = record {
      some = (let n = length-append way.cells (to ∷ []) in omega arith);
      start = (let some = w.from.some in old 0 (omega arith)) ∙ w.from.start;
      within = λ k lt. at (λ s. IsWithin task cost s) w.from.within within k lt;
      goes = λ k lt. (let n = length-append way.cells (to ∷ []) in ⊎_elim
          (λ (before : k + 1 < length way.cells).
          subst (λ c. Goes task (state_at c k) (state_of (way.cells ++ to ∷ []) (k + 1))) (sym (old k (omega arith)))
          (subst (λ c. Goes task (state_of way.cells k) (state_at c (k + 1))) (sym (old (k + 1) before)) (w.from.goes k before)))
          (λ (last : length way.cells ≤ k + 1).
          let some = w.from.some in
          let here : length way.cells ≡ k + 1 = omega arith in
          let before : length way.cells - 1 ≡ k = omega arith in
          subst (λ c. Goes task (state_at c k) (state_of (way.cells ++ to ∷ []) (k + 1))) (sym (old k (omega arith)))
          (subst (λ c. Goes task (state_of way.cells k) (state_at c (k + 1))) (sym (new (k + 1) (sym here)))
          (subst (λ n. Goes task (state_of way.cells k) (state_at to n)) here (subst (λ n. Goes task (state_of way.cells n) (state_at to (length way.cells))) before goes))))
          (cases_lt (k + 1) (length way.cells)));
    };
    short = (let n = length-append way.cells (to ∷ []) in omega arith);
    fresh = λ k lt. at (λ s. Contains way.failed s → ⊥) w.fresh fresh k lt;
    stuck = w.stuck;
    least = λ k other lt less may arrives. (let n = length-append way.cells (to ∷ []) in
        let may_before = subst (λ c. MayGo task.grid task.bars c other k) (old k (omega arith)) may in
        ⊎_elim
        (λ (before : k + 1 < length way.cells). w.least k other before (subst (λ c. other < c) (old (k + 1) before) less) may_before arrives)
        (λ (last : length way.cells ≤ k + 1).
        let some = w.from.some in
        let here : k + 1 ≡ length way.cells = omega arith in
        let before : k ≡ length way.cells - 1 = omega arith in
        lesser other (subst (λ c. other < c) (new (k + 1) here) less)
        (subst (λ n. MayGo task.grid task.bars (slice_index way.cells n) other n) before may_before)
        (subst (λ n. CanArrive task cost (state_at other n)) here arrives))
        (cases_lt (k + 1) (length way.cells)));
  }
    where
      at : (P : State → Type 0) → ((k : ℕ) → k < length way.cells → P (state_of way.cells k)) → P (state_at to (length way.cells)) → (k : ℕ) → k < length (way.cells ++ to ∷ []) → P (state_of (way.cells ++ to ∷ []) k)
      at P before last k lt = let n = length-append way.cells (to ∷ []) in ⊎_elim
          (λ (early : k < length way.cells). subst (λ c. P (state_at c k)) (sym (old k early)) (before k early))
          (λ (late : length way.cells ≤ k).
          let here : length way.cells ≡ k = omega arith in
          subst (λ c. P (state_at c k)) (sym (new k (sym here))) (subst (λ n. P (state_at to n)) here last))
          (cases_lt k (length way.cells))

  -- no step leads on
  dead_end : ((next : ℕ) → IsNoWayOn task cost way.failed (state_of way.cells (length way.cells - 1)) next) →
      CanArrive task cost (state_of way.cells (length way.cells - 1)) → ⊥
  dead_end none (zero, here) = let some = w.from.some in let tick = ap (λ s. s.tick) here in omega arith
  dead_end none (suc n, (next, goes, on)) =
      let tick = goes.tick in
      let same : next ≡ state_at next.cell ((length way.cells - 1) + 1) = λ i. record { tick = tick i; cell = next.cell } in
      w.stuck next (subst (Contains way.failed) (sym same) (none next.cell goes.may (subst (CanArrive task cost) same (n, on)))) (n, on)

  -- from the start alone there is nowhere to backtrack to
  pub nowhere : length way.cells ≡ 1 → ((next : ℕ) → IsNoWayOn task cost way.failed (state_of way.cells (length way.cells - 1)) next) → CanArrive task cost (start_of task) → ⊥
  nowhere one none arrives =
      let zero_is : length way.cells - 1 ≡ 0 = omega arith in
      let at_start : state_of way.cells (length way.cells - 1) ≡ start_of task = ap (λ k. state_of way.cells k) zero_is ∙ ap (λ c. state_at c 0) w.from.start in
      dead_end none (subst (CanArrive task cost) (sym at_start) arrives)

  pub back_searching : 1 < length way.cells →
      ((next : ℕ) → IsNoWayOn task cost way.failed (state_of way.cells (length way.cells - 1)) next) →
      IsSearching task cost (with_failure way (state_of way.cells (length way.cells - 1)))
  back_searching more none =
      let n = length-take (length way.cells - 1) way.cells in
      let some = w.from.some in
      let kept : (k : ℕ) → k < length way.cells - 1 → slice_index way.cells k ≡ slice_index (take (length way.cells - 1) way.cells) k = λ k lt. sym (get_or-take (length way.cells - 1) way.cells k 0 lt) in
      record {
        from = record {
          some = omega arith;
          start = sym (kept 0 (omega arith)) ∙ w.from.start;
          within = λ k lt. subst (λ c. IsWithin task cost (state_at c k)) (kept k (omega arith)) (w.from.within k (omega arith));
          goes = λ k lt. subst (λ c. Goes task (state_at c k) (state_of (take (length way.cells - 1) way.cells) (k + 1))) (kept k (omega arith))
              (subst (λ c. Goes task (state_of way.cells k) (state_at c (k + 1))) (kept (k + 1) (omega arith)) (w.from.goes k (omega arith)));
        };
        short = (let s = w.short in omega arith);
        fresh = λ k lt held. ⊎_elim
            (λ before. w.fresh k (omega arith) (subst (λ c. Contains way.failed (state_at c k)) (sym (kept k (omega arith))) before))
            (λ same. let tick = ap (λ s. s.tick) same in absurd (omega arith))
            (Contains-push_cases way.failed (state_of way.cells (length way.cells - 1)) (state_of (take (length way.cells - 1) way.cells) k) held);
        stuck = λ s held. ⊎_elim
            (λ before. w.stuck s before)
            (λ same. subst (λ t. CanArrive task cost t → ⊥) same (dead_end none))
            (Contains-push_cases way.failed (state_of way.cells (length way.cells - 1)) s held);
        least = λ k other lt less may arrived. w.least k other (omega arith) (subst (λ c. other < c) (sym (kept (k + 1) (omega arith))) less)
            (subst (λ c. MayGo task.grid task.bars c other k) (sym (kept k (omega arith))) may) arrived;
      }

-- a walk to the goal has at least as many steps as the distance
pub arrives_walks : (task : Task) (cost n : ℕ) (s : State) → IsFree task.grid s.cell → CanArriveIn task cost n s → Walk task.grid s.cell task.goal n × (s.tick + n ≡ cost)
arrives_walks task cost zero s free here = ((free, ap (λ (t : State). t.cell) here), (let tick = ap (λ (t : State). t.tick) here in omega arith))
arrives_walks task cost (suc n) s free (next, goes, on) =
    let rest = arrives_walks task cost n next (step_end task.grid s.cell next.cell goes.may.step) on in
    ((next.cell, goes.may.step, rest.0), (let tick = goes.tick in let sum = rest.1 in omega arith))

pub past_cost : (task : Task) (cost value : ℕ) (s : State) → IsValue task s value → cost < value → CanArrive task cost s → ⊥
past_cost task cost value s is more (n, on) =
    let walk = arrives_walks task cost n s (value_free task s value is) on in
    let few = is.is.least n walk.0 in let sum = is.sum in let all = walk.1 in omega arith

pub no_walk : (task : Task) (cost : ℕ) (s : State) → IsFree task.grid s.cell → IsUnreachable task.grid task.goal s.cell → CanArrive task cost s → ⊥
no_walk task cost s free none (n, on) = none n (arrives_walks task cost n s free on).0

-- a path that satisfies the constraints arrives from each of its states
path_arrives : (task : Task) (cost : ℕ) (path : List ℕ) → IsLawful task.grid (agent_of task) path → Satisfies task.bars path → IsCost task.goal path cost → (n k : ℕ) → k + n ≡ cost → CanArriveIn task cost n (state_at (at path k) k)
path_arrives task cost path lawful satisfies is_cost zero k e =
    let same : k ≡ cost = omega arith in
    ap (λ cell. state_at cell k) (is_cost.rests k (omega arith)) ∙ ap (λ n. state_at task.goal n) same
path_arrives task cost path lawful satisfies is_cost (suc n) k e =
    (state_at (at path (k + 1)) (k + 1), record { may = satisfied_step task path lawful.is_path satisfies k (at path k) (at path (k + 1)) refl refl; tick = refl }, path_arrives task cost path lawful satisfies is_cost n (k + 1) (omega arith))

cases_le : (m n : ℕ) → (m ≤ n) ⊎ (n < m)
cases_le m n = ⊎_elim (λ (less : n < m). inr less) (λ (no_less : m ≤ n). inl no_less) (cases_lt n m)

-- the least walk comes before all paths of its cost
pub walk_first : (task : Task) (cost : ℕ) (cells : List ℕ) → IsWholeWalk task cost cells → IsCost task.goal cells cost → IsFirstOfCost task cost cells
walk_first task cost cells w is_cost other zero lawful satisfies other_cost agree =
    let some = w.way.some in
    let same : at cells 0 ≡ at other 0 = at_is cells 0 (omega arith) ∙ w.way.start ∙ sym lawful.start in omega arith
walk_first task cost cells w is_cost other (suc k) lawful satisfies other_cost agree = ⊎_elim
    (λ (during : suc k ≤ cost). ⊎_elim
    (λ (less : at other (suc k) < at cells (suc k)).
    let count = w.count in
    let next : suc k ≡ k + 1 = omega arith in
    let here : at other k ≡ slice_index cells k = sym (agree k (omega arith)) ∙ at_is cells k (omega arith) in
    let there : at cells (suc k) ≡ slice_index cells (k + 1) = at_is cells (suc k) (omega arith) ∙ ap (λ n. slice_index cells n) next in
    let may = satisfied_step task other lawful.is_path satisfies k (slice_index cells k) (at other (suc k)) here (ap (λ n. at other n) (sym next)) in
    let left : suc k + (cost - suc k) ≡ cost = omega arith in
    let arrives : CanArrive task cost (state_at (at other (suc k)) (suc k)) = (cost - suc k, path_arrives task cost other lawful satisfies other_cost (cost - suc k) (suc k) left) in
    absurd (w.least k (at other (suc k)) (omega arith) (subst (λ c. at other (suc k) < c) there less) may
    (subst (λ n. CanArrive task cost (state_at (at other (suc k)) n)) next arrives)))
    (λ (no_less : at cells (suc k) ≤ at other (suc k)). no_less)
    (cases_lt (at other (suc k)) (at cells (suc k))))
    (λ (after : cost < suc k).
    let same : at cells (suc k) ≡ at other (suc k) = is_cost.rests (suc k) (omega arith) ∙ sym (other_cost.rests (suc k) (omega arith)) in omega arith)
    (cases_le (suc k) cost)

-- a walk from a cell of a path is a longer one from its start
lead_in : (grid : GridMap) (goal : ℕ) (path : List ℕ) → IsPath grid path → (k n : ℕ) → Walk grid (at path k) goal n → Walk grid (at path 0) goal (k + n)
lead_in grid goal path is_path zero n walk = let same : n ≡ 0 + n = omega arith in subst (Walk grid (at path 0) goal) same walk
lead_in grid goal path is_path (suc k) n walk =
    let next : k + 1 ≡ suc k = omega arith in
    let longer : Walk grid (at path k) goal (suc n) = (at path (suc k), subst (λ m. Step grid (at path k) (at path m)) next (is_path.steps k), walk) in
    let same : k + suc n ≡ suc k + n = omega arith in
    subst (Walk grid (at path 0) goal) same (lead_in grid goal path is_path k (suc n) longer)

-- on a shortest path the distance of each cell is the number of steps that are left
left_distance : (task : Task) (cost : ℕ) (path : List ℕ) → IsLawful task.grid (agent_of task) path → Satisfies task.bars path → IsCost task.goal path cost → IsDistance task.grid task.goal task.start cost → (k : ℕ) → k ≤ cost →
    IsDistance task.grid task.goal (at path k) (cost - k)
left_distance task cost path lawful satisfies is_cost shortest k le =
    let left : k + (cost - k) ≡ cost = omega arith in
    let free = step_start task.grid (at path k) (at path (k + 1)) (lawful.is_path.steps k) in
    record {
      walk = (arrives_walks task cost (cost - k) (state_at (at path k) k) free (path_arrives task cost path lawful satisfies is_cost (cost - k) k left)).0;
      least = λ n walk.
          let all = shortest.least (k + n) (subst (λ cell. Walk task.grid cell task.goal (k + n)) lawful.start (lead_in task.grid task.goal path lawful.is_path k n walk)) in
          omega arith;
    }

-- the least descent comes before all paths of its cost
pub descent_first : (task : Task) (path : List ℕ) → at path 0 ≡ task.start → IsDistance task.grid task.goal task.start (length path - 1) → IsCost task.goal path (length path - 1) → IsLeastDescent task.grid task.goal path → IsFirstOfCost task (length path - 1) path
descent_first task path starts shortest is_cost least other zero lawful satisfies other_cost agree =
    let same : at path 0 ≡ at other 0 = starts ∙ sym lawful.start in omega arith
descent_first task path starts shortest is_cost least other (suc k) lawful satisfies other_cost agree = ⊎_elim
    (λ (during : suc k ≤ length path - 1).
    let next : k + 1 ≡ suc k = omega arith in
    let here : at other k ≡ slice_index path k = sym (agree k (omega arith)) ∙ at_is path k (omega arith) in
    let step = subst (λ c. Step task.grid c (at other (k + 1))) here (lawful.is_path.steps k) in
    let far = left_distance task (length path - 1) other lawful satisfies other_cost shortest (k + 1) (omega arith) in
    let low = least k (at other (k + 1)) (omega arith) step far in
    let there : at path (k + 1) ≡ slice_index path (k + 1) = at_is path (k + 1) (omega arith) in
    subst (λ n. at path n ≤ at other n) next (omega (arith, low, there)))
    (λ (after : length path - 1 < suc k).
    let same : at path (suc k) ≡ at other (suc k) = is_cost.rests (suc k) (omega arith) ∙ sym (other_cost.rests (suc k) (omega arith)) in omega arith)
    (cases_le (suc k) (length path - 1))
