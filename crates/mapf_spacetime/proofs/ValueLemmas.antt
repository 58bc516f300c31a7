-- Walks, distances and the f-values of states.
use Rattle.std.proofs.Common.{◌≡◌, ⊎_elim, ℕ, zero, suc, ◌+◌, ◌≤◌, refl, subst, arith}
use Rattle.mapf_model.specs.Distance.{Walk, IsDistance, IsUnreachable}
use Rattle.mapf_model.specs.Grid.{GridMap, IsFree}
use Rattle.mapf_model.specs.declared.state.State.{State}
use Rattle.mapf_distance.proofs.StepLemmas.{Step-sym}
use Rattle.mapf_spacetime.specs.Task.{Task, Goes, IsValue, IsWithin, IsBelow}

pub walk_start : (grid : GridMap) (goal cell n : ℕ) → Walk grid cell goal n → IsFree grid cell
walk_start grid goal cell zero (free, is) = free
walk_start grid goal cell (suc n) (next, step, walk) = ⊎_elim (λ here. here.0) (λ beside. beside.from_free) step

pub walk_end : (grid : GridMap) (goal cell n : ℕ) → Walk grid cell goal n → IsFree grid goal
walk_end grid goal cell zero (free, is) = subst (IsFree grid) is free
walk_end grid goal cell (suc n) (next, step, walk) = walk_end grid goal next n walk

pub goal_distance : (grid : GridMap) (goal : ℕ) → IsFree grid goal → IsDistance grid goal goal 0
goal_distance grid goal free = record { walk = (free, refl); least = λ n w. omega arith }

module _ (task : Task) (state : State) where
  pub value_free : (value : ℕ) → IsValue task state value → IsFree task.grid state.cell
  value_free value v = walk_start task.grid task.goal state.cell v.distance v.is.walk

  pub value_unique : (a b : ℕ) → IsValue task state a → IsValue task state b → a ≡ b
  value_unique a b p q = let x = p.is.least q.distance q.is.walk in let y = q.is.least p.distance p.is.walk in let s = p.sum in let t = q.sum in omega arith

  pub value_none : (value : ℕ) → IsUnreachable task.grid task.goal state.cell → IsValue task state value → ⊥
  value_none value none v = none v.distance v.is.walk

  pub below_within : (cost : ℕ) → IsBelow task cost state → IsWithin task cost state
  below_within cost (value, is, less) = (value, is, omega arith)

  pub level_within : (cost : ℕ) → IsValue task state cost → IsWithin task cost state
  level_within cost is = (cost, is, omega arith)

  pub at_goal : (cost : ℕ) → IsValue task state cost → state.cell ≡ task.goal → state.tick ≡ cost
  at_goal cost v is =
      let free = walk_end task.grid task.goal state.cell v.distance v.is.walk in
      let at = subst (λ cell. IsDistance task.grid task.goal cell v.distance) is v.is in
      let none = at.least 0 (goal_distance task.grid task.goal free).walk in
      let sum = v.sum in
      omega arith

-- no step lowers the f-value
pub no_lower : (task : Task) (from to : State) (a b : ℕ) → IsValue task from a → IsValue task to b → Goes task from to → a ≤ b
no_lower task from to a b p q goes =
    let short = p.is.least (suc q.distance) (to.cell, goes.may.step, q.is.walk) in
    let tick = goes.tick in
    let s = p.sum in
    let t = q.sum in
    omega arith

-- a step raises the f-value by at most two
pub not_higher : (task : Task) (from to : State) (a b : ℕ) → IsValue task from a → IsValue task to b → Goes task from to → b ≤ a + 2
not_higher task from to a b p q goes =
    let short = q.is.least (suc p.distance) (from.cell, Step-sym task.grid from.cell to.cell goes.may.step, p.is.walk) in
    let tick = goes.tick in
    let s = p.sum in
    let t = q.sum in
    omega arith
