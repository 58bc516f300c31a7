-- Walks of states as paths.
use Rattle.std.proofs.Common.{◌≡◌, ◌≢◌, ◌⊎◌, inl, inr, ⊎_elim, ℕ, zero, suc, ◌+◌, ◌-◌, ◌<◌, ◌≤◌, min, List, length, slice_index, Contains, sym, ap, subst, ◌∙◌, arith}
use Rattle.std.proofs.lemmas.Bool.{cases_lt}
use Rattle.mapf_model.specs.Grid.{Step}
use Rattle.mapf_model.specs.declared.bar.Bar.TheVariants.{Cell, Move}
use Rattle.mapf_model.specs.Bars.{Satisfies}
use Rattle.mapf_model.specs.Distance.{Walk}
use Rattle.mapf_model.specs.Labels.{MayGo}
use Rattle.mapf_model.specs.Laws.{NeighboursMakePaths}
use Rattle.mapf_model.specs.Path.{at, IsPath, IsLawful, IsCost, IsTight}
use Rattle.mapf_model.proofs.PathLemmas.{IsCost-from_end}
use Rattle.mapf_spacetime.specs.Task.{Task, Goes, IsValue, IsOpen, MayRestFrom, agent_of, state_at, start_of}
use Rattle.mapf_spacetime.specs.Sweeps.{IsFrom, AreSwept, HasArrived}
use Rattle.mapf_model.specs.declared.state.State.{State}
use Rattle.mapf_spacetime.specs.PathSearch.{CanArrive, CanArriveIn, state_of, IsWholeWalk}
use Rattle.mapf_spacetime.proofs.ValueLemmas.{value_free, value_unique, value_none, no_lower}

pub at_is : (cells : List ℕ) (tick : ℕ) → tick < length cells → at cells tick ≡ slice_index cells tick
at_is cells tick lt = let same : min tick (length cells - 1) ≡ tick = omega arith in ap (λ n. slice_index cells n) same

pub at_past : (cells : List ℕ) (tick : ℕ) → length cells - 1 ≤ tick → at cells tick ≡ slice_index cells (length cells - 1)
at_past cells tick le = let same : min tick (length cells - 1) ≡ length cells - 1 = omega arith in ap (λ n. slice_index cells n) same

-- the constraints allow each step of a path that satisfies them
pub satisfied_step : (task : Task) (cells : List ℕ) → IsPath task.grid cells → Satisfies task.bars cells → (tick from to : ℕ) → at cells tick ≡ from → at cells (tick + 1) ≡ to → MayGo task.grid task.bars from to tick
satisfied_step task cells path satisfies tick from to here there = record {
  step = subst (λ c. Step task.grid c to) here (subst (Step task.grid (at cells tick)) there (path.steps tick));
  arrival = λ barred. satisfies (Cell to (tick + 1)) barred there;
  move = λ barred. satisfies (Move from to tick) barred (here, there);
}

-- an agent that goes only through states that aren't forbidden, and may rest at the end, violates no constraint
module _ (task : Task) (cells : List ℕ) (some : 1 ≤ length cells) (start : slice_index cells 0 ≡ task.start) (start_open : IsOpen task (start_of task))
    (goes : (k : ℕ) → k + 1 < length cells → Goes task (state_of cells k) (state_of cells (k + 1)))
    (ends : slice_index cells (length cells - 1) ≡ task.goal) (rest : MayRestFrom task (length cells - 1)) where
  pub is_open : (k : ℕ) → k < length cells → IsOpen task (state_of cells k)
  is_open zero lt barred = start_open (subst (λ c. Contains task.bars (Cell c 0)) start barred)
  is_open (suc k) lt barred =
      let next : suc k ≡ k + 1 = omega arith in
      (goes k (omega arith)).may.arrival (subst (λ n. Contains task.bars (Cell (slice_index cells n) n)) next barred)

  pub goes_satisfy : Satisfies task.bars cells
  goes_satisfy (Cell cell tick) barred meets = ⊎_elim
      (λ (during : tick < length cells). is_open tick during (subst (λ c. Contains task.bars (Cell c tick)) (sym meets ∙ at_is cells tick during) barred))
      (λ (after : length cells ≤ tick). rest.stay tick (omega arith) (subst (λ c. Contains task.bars (Cell c tick)) (sym meets ∙ at_past cells tick (omega arith) ∙ ends) barred))
      (cases_lt tick (length cells))
  goes_satisfy (Move from to tick) barred meets = ⊎_elim
      (λ (during : tick + 1 < length cells).
      (goes tick during).may.move
      (subst (λ c. Contains task.bars (Move c (slice_index cells (tick + 1)) tick)) (sym meets.0 ∙ at_is cells tick (omega arith))
      (subst (λ c. Contains task.bars (Move from c tick)) (sym meets.1 ∙ at_is cells (tick + 1) during) barred)))
      (λ (after : length cells ≤ tick + 1).
      let here : from ≡ task.goal = sym meets.0 ∙ at_past cells tick (omega arith) ∙ ends in
      let there : to ≡ task.goal = sym meets.1 ∙ at_past cells (tick + 1) (omega arith) ∙ ends in
      rest.wait tick (omega arith) (subst (λ c. Contains task.bars (Move c task.goal tick)) here (subst (λ c. Contains task.bars (Move from c tick)) there barred)))
      (cases_lt (tick + 1) (length cells))

-- a walk that ends at the cost ends at the goal
module _ (task : Task) (cost : ℕ) (cells : List ℕ) (w : IsWholeWalk task cost cells) where
  pub ends : slice_index cells (length cells - 1) ≡ task.goal
  ends =
      let count = w.count in
      let last : length cells - 1 ≡ cost = omega arith in
      let (value, is, le) = w.way.within cost (omega arith) in
      let none : is.distance ≡ 0 = (let sum = is.sum in omega arith) in
      ap (λ n. slice_index cells n) last ∙ (subst (Walk task.grid (slice_index cells cost) task.goal) none is.is.walk).1

  leads_on : (n k : ℕ) → k + n ≡ cost → CanArriveIn task cost n (state_of cells k)
  leads_on zero k e =
      let count = w.count in
      let last : length cells - 1 ≡ k = omega arith in
      let here : k ≡ cost = omega arith in
      let cell : slice_index cells k ≡ task.goal = subst (λ n. slice_index cells n ≡ task.goal) last ends in
      λ i. record { tick = here i; cell = cell i }
  leads_on (suc n) k e = (let count = w.count in (state_of cells (k + 1), w.way.goes k (omega arith), leads_on n (k + 1) (omega arith)))

  -- so the agent can arrive
  pub walk_leads : CanArrive task cost (start_of task)
  walk_leads =
      let start : state_of cells 0 ≡ start_of task = ap (λ c. state_at c 0) w.way.start in
      (cost, subst (CanArriveIn task cost cost) start (leads_on cost 0 (omega arith)))

-- and goes through the states below it
module _ (task : Task) (cost : ℕ) (states : List State) (cells : List ℕ) (swept : AreSwept task cost states) (w : IsWholeWalk task cost cells) where
  -- a state below the cost isn't one from it on
  below_only : (s : State) (value : ℕ) → IsValue task s value → value < cost → Contains states s ⊎ IsFrom task cost s → Contains states s
  below_only s value is less either = ⊎_elim
      (λ held. held)
      (λ (other, other_is, more). absurd (let one = value_unique task s value other is other_is in omega arith))
      either

  -- the walk goes through these states while it is below the cost
  pub low_walk : (k : ℕ) → k < length cells → (value : ℕ) → IsValue task (state_of cells k) value → value < cost → Contains states (state_of cells k)
  low_walk zero lt value is less =
      let same : start_of task ≡ state_of cells 0 = ap (λ c. state_at c 0) (sym w.way.start) in
      below_only (state_of cells 0) value is less (subst (λ s. Contains states s ⊎ IsFrom task cost s) same swept.start)
  low_walk (suc k) lt value is less =
      let next : k + 1 ≡ suc k = omega arith in
      let goes = subst (λ n. Goes task (state_of cells k) (state_of cells n)) next (w.way.goes k (omega arith)) in
      let (before, before_is, le) = w.way.within k (omega arith) in
      let low = no_lower task (state_of cells k) (state_of cells (suc k)) before value before_is is goes in
      let reached = low_walk k (omega arith) before before_is (omega arith) in
      let same : state_at (slice_index cells (suc k)) (k + 1) ≡ state_of cells (suc k) = ap (state_at (slice_index cells (suc k))) next in
      ⊎_elim
      (λ held. subst (Contains states) same held)
      (λ other. ⊎_elim
      (λ from. below_only (state_of cells (suc k)) value is less (inr (subst (IsFrom task cost) same from)))
      (λ none. absurd (value_none task (state_of cells (suc k)) value none is))
      other)
      (swept.followed (state_of cells k) reached (slice_index cells (suc k)) goes.may)

-- a walk of the least cost
module _ (task : Task) (cost : ℕ) (states : List State) (cells : List ℕ) (h : HasArrived task cost states) (w : IsWholeWalk task cost cells) (start_open : IsOpen task (start_of task)) where
  at_goal_last : slice_index cells (length cells - 1) ≡ task.goal
  at_goal_last = ends task cost cells w

  opens : (k : ℕ) → k < length cells → IsOpen task (state_of cells k)
  opens = is_open task cells w.way.some w.way.start start_open w.way.goes at_goal_last (let count = w.count in let last : length cells - 1 ≡ cost = omega arith in subst (MayRestFrom task) (sym last) h.rest)

  not_before : 0 < cost → slice_index cells (cost - 1) ≢ task.goal
  not_before some is =
      let count = w.count in
      let (value, v, le) = w.way.within (cost - 1) (omega arith) in
      let here : state_of cells (cost - 1) ≡ state_at task.goal (cost - 1) = ap (λ c. state_at c (cost - 1)) is in
      let none : value ≡ cost - 1 = (
      let free = value_free task (state_of cells (cost - 1)) value v in
      let rest = v.is.least 0 (free, is) in
      let sum = v.sum in omega arith) in
      let reached = low_walk task cost states cells h.swept w (cost - 1) (omega arith) value v (omega arith) in
      let (later, after, barred) = h.swept.quiet (cost - 1) (subst (Contains states) here reached) in
      ⊎_elim
      (λ (now : later < cost).
      let same : later ≡ cost - 1 = omega arith in
      opens (cost - 1) (omega arith) (subst (λ c. Contains task.bars (Cell c (cost - 1))) (sym is) (subst (λ n. Contains task.bars (Cell task.goal n)) same barred)))
      (λ (rest : cost ≤ later). h.rest.stay later rest barred)
      (cases_lt later cost)

  pub walk_satisfies : Satisfies task.bars cells
  walk_satisfies = goes_satisfy task cells w.way.some w.way.start start_open w.way.goes at_goal_last (let count = w.count in let last : length cells - 1 ≡ cost = omega arith in subst (MayRestFrom task) (sym last) h.rest)

  pub walk_cost : IsCost task.goal cells cost
  walk_cost = let count = w.count in
      IsCost-from_end task.goal cells cost (omega arith)
      (λ k le lt. let k_is : length cells - 1 ≡ k = omega arith in subst (λ n. slice_index cells n ≡ task.goal) k_is at_goal_last)
      not_before

  pub walk_tight : IsTight cells
  walk_tight = let count = w.count in ⊎_elim
      (λ (none : cost < 1). inl (omega arith))
      (λ (some : 1 ≤ cost).
      let before : length cells - 2 ≡ cost - 1 = omega arith in
      inr (λ same. not_before some (ap (λ n. slice_index cells n) (sym before) ∙ sym same ∙ at_goal_last)))
      (cases_lt cost 1)

  pub walk_lawful : NeighboursMakePaths → IsLawful task.grid (agent_of task) cells
  walk_lawful paths =
      let some = w.way.some in
      record {
        is_path = (paths task.grid cells).1 (record {
          nonempty = λ e. (let n = ap length e in absurd (omega arith));
          first = (let (value, is, le) = w.way.within 0 (omega arith) in value_free task (state_of cells 0) value is);
          neighbours = λ k lt. (w.way.goes k lt).may.step;
        });
        start = at_is cells 0 (omega arith) ∙ w.way.start;
        goal = at_is cells (length cells - 1) (omega arith) ∙ at_goal_last;
      }
