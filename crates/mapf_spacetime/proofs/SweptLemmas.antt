-- States below a cost: they are those of a sweep that arrives at the cost, and a bound on such costs.
use Rattle.std.proofs.Common.{◌≡◌, ◌⊎◌, inl, inr, ⊎_elim, true, false, ℕ, zero, suc, ◌+◌, ◌<◌, ◌≤◌, List, [], ◌∷◌, ◌++◌, AllPairs, Contains, length, slice_index_or, refl, sym, ap, subst, ◌∙◌, arith}
use Rattle.std.proofs.Math.Logic.{⊎_map}
use Rattle.std.proofs.lemmas.Bool.{cases_lt}
use Rattle.std.proofs.lemmas.List.{get_or_default}
use Rattle.std.proofs.lemmas.List.Elements.{Contains-append_left, Contains-get_or, Contains-push, Contains-push_cases}
use Rattle.std.proofs.lemmas.List.Quantifiers.{all_pairs_push}
use Rattle.mapf_model.specs.declared.bar.Bar.TheVariants.{Cell, Move}
use Rattle.mapf_model.specs.Distance.{IsDistance, IsUnreachable}
use Rattle.mapf_model.specs.Grid.{free_cell_count}
use Rattle.mapf_model.specs.Labels.{MayGo}
use Rattle.mapf_model.specs.Limits.{most_cells}
use Rattle.mapf_model.proofs.ContainsLemmas.{Contains-none}
use Rattle.mapf_constraints.specs.BarSets.{AreBefore}
use Rattle.mapf_model.specs.declared.state.State.{State}
use Rattle.mapf_spacetime.specs.PathSearch.{CanArrive, IsWholeWalk, state_of}
use Rattle.mapf_spacetime.specs.States.{IsBelowLimit}
use Rattle.mapf_model.specs.States.{IsEarlier}
use Rattle.mapf_spacetime.specs.Sweeps.{Sweeping, IsFrom, IsStartOrEntered, IsWhole, MeetsGoal, AreQuiet, AreSwept, HasArrived, AreAll, SomeIsPast}
use Rattle.mapf_spacetime.proofs.SweepInvariants.{AreKept}
use Rattle.mapf_spacetime.specs.Task.{Task, Goes, IsValue, IsWithin, IsBelow, MayRestFrom, state_at, start_of}
use Rattle.mapf_spacetime.proofs.ValueLemmas.{value_unique, no_lower}
use Rattle.mapf_spacetime.proofs.WayLemmas.{past_cost}
use Rattle.mapf_spacetime.proofs.PathLemmas.{low_walk, walk_leads}

pub one_held : {X : Type 0} (x y : X) → Contains (x ∷ []) y → x ≡ y
one_held x y h = ⊎_elim (λ none. absurd (Contains-none y none)) (λ same. same) (Contains-push_cases [] x y h)

-- the f-value of a state within a bound is below a cost, or at least it
pub below_or_from : (task : Task) (bound cost : ℕ) (s : State) → IsWithin task bound s → IsBelow task cost s ⊎ IsFrom task cost s
below_or_from task bound cost s (value, is, le) = ⊎_elim
    (λ (less : value < cost). inl (value, is, less))
    (λ (more : cost ≤ value). inr (value, is, more))
    (cases_lt value cost)

pub not_both : (task : Task) (cost : ℕ) (s : State) → IsBelow task cost s → IsFrom task cost s → ⊥
not_both task cost s (a, a_is, less) (b, b_is, more) = let same = value_unique task s a b a_is b_is in omega arith

-- the states of a sweep that arrives whose f-value is below the cost
module _ (task : Task) (cost : ℕ) (sweep : Sweeping) (m : MeetsGoal task cost sweep) (low : List State)
    (kept : (s : State) → Contains sweep.states s → IsBelow task cost s → Contains low s)
    (only : (s : State) → Contains low s → Contains sweep.states s × IsBelow task cost s)
    (rising : AllPairs IsEarlier low) where
  held_or_from : (s : State) → Contains sweep.states s → Contains low s ⊎ IsFrom task cost s
  held_or_from s held = ⊎_elim (λ below. inl (kept s held below)) (λ from. inr from) (below_or_from task sweep.bound cost s (m.reached.within s held))

  quiet_low : (tick : ℕ) → Contains low (state_at task.goal tick) → (tick < cost)
  quiet_low tick held = let (value, is, less) = (only (state_at task.goal tick) held).1 in let sum = is.sum in omega arith

  pub low_swept : AreSwept task cost low
  low_swept = record {
    start = held_or_from (start_of task) m.reached.start;
    below = λ s held. (only s held).1;
    entered = λ s held. ⊎_elim
        (λ is. inl is)
        (λ (from, there, goes). let (before, before_is, le) = m.reached.within from there in
        let (value, is, less) = (only s held).1 in
        let low = no_lower task from s before value before_is is goes in
        inr (from, kept from there (before, before_is, omega arith), goes))
        (m.reached.entered s (only s held).0);
    followed = λ s held to may. ⊎_elim
        (λ there. ⊎_elim (λ l. inl l) (λ from. inr (inl from)) (held_or_from (state_at to (s.tick + 1)) there))
        (λ other. inr other)
        (m.followed s (only s held).0 (only s held).1 to may);
    quiet = λ tick held. m.quiet tick (quiet_low tick held) (only (state_at task.goal tick) held).0;
    rising = rising;
  }

-- if the agent can arrive from a state to which it can go from the start, it can arrive from the start
pub leads_back : (task : Task) (cost : ℕ) (Known : State → Type 0) → ((s : State) → Known s → (s ≡ start_of task) ⊎ ((from : State) × Known from × Goes task from s)) → (n : ℕ) (s : State) → s.tick ≡ n → Known s → CanArrive task cost s → CanArrive task cost (start_of task)
leads_back task cost Known entered zero s tick known (m, on) = ⊎_elim
    (λ is. subst (CanArrive task cost) is (m, on))
    (λ (from, held, goes). absurd (let t = goes.tick in omega arith))
    (entered s known)
leads_back task cost Known entered (suc n) s tick known (m, on) = ⊎_elim
    (λ is. subst (CanArrive task cost) is (m, on))
    (λ (from, held, goes). let t = goes.tick in leads_back task cost Known entered n from (omega arith) held (suc m, (s, goes, on)))
    (entered s known)

pub meets_leads : (task : Task) (cost : ℕ) (sweep : Sweeping) → MeetsGoal task cost sweep → CanArrive task cost (start_of task)
meets_leads task cost sweep m = leads_back task cost (IsStartOrEntered task sweep.states) (λ s. ⊎_map (λ is. is) (λ (from, held, goes). (from, m.reached.entered from held, goes)))
    cost (state_at task.goal cost) refl m.arrival (0, refl)

-- a sweep that arrives shows the least cost
pub arrived : (task : Task) (cost : ℕ) (sweep : Sweeping) → MeetsGoal task cost sweep → (low : List State) → AreSwept task cost low → HasArrived task cost low
arrived task cost sweep m low swept =
    let leads = meets_leads task cost sweep m in
    let (value, is, le) = m.reached.within (start_of task) m.reached.start in
    record {
      swept = swept;
      leads = leads;
      within = (
        value,
        is,
        ⊎_elim
            (λ (past : cost < value). absurd (past_cost task cost value (start_of task) is past leads))
            (λ (no : value ≤ cost). no)
            (cases_lt cost value),
      );
      rest = m.rest;
    }

-- where no constraints are left from a tick on, and all states below a cost were reached
module _ (task : Task) (cost : ℕ) (states : List State) (below : (s : State) → Contains states s → IsBelow task cost s)
    (followed : (s : State) → Contains states s → (to : ℕ) → MayGo task.grid task.bars s.cell to s.tick →
    Contains states (state_at to (s.tick + 1)) ⊎ (IsFrom task cost (state_at to (s.tick + 1)) ⊎ IsUnreachable task.grid task.goal to))
    (quiet : AreQuiet task states) (last : ℕ) (above : AreBefore last task.bars) where
  late_arrives : (d : ℕ) (s : State) → Contains states s → last ≤ s.tick → IsDistance task.grid task.goal s.cell d → s.tick + d < cost → (v : ℕ) → s.tick + d ≡ v → Contains states (state_at task.goal v)
  late_arrives zero s reached late is within v v_is =
      let ticks : s.tick ≡ v = omega arith in
      let same : s ≡ state_at task.goal v = λ i. record { tick = ticks i; cell = is.walk.1 i } in
      subst (Contains states) same reached
  late_arrives (suc n) s reached late is within v v_is =
      let (next, step, walk) = is.walk in
      let there = state_at next (s.tick + 1) in
      let next_is : IsDistance task.grid task.goal next n = record { walk = walk; least = λ m q. (let short = is.least (suc m) (next, step, q) in omega arith) } in
      let may : MayGo task.grid task.bars s.cell next s.tick = record {
        step = step;
        arrival = λ barred. (let b = above (Cell next (s.tick + 1)) barred in absurd (omega arith));
        move = λ barred. (let b = above (Move s.cell next s.tick) barred in absurd (omega arith));
      } in
      ⊎_elim
      (λ held. late_arrives n there held (omega arith) next_is (omega arith) v (omega arith))
      (λ other. ⊎_elim
      (λ (value, v_of, more). let short = v_of.is.least n walk in let sum = v_of.sum in absurd (omega arith))
      (λ none. absurd (none n walk))
      other)
      (followed s reached next may)

  not_late : (s : State) → Contains states s → s.tick < last
  not_late s reached = ⊎_elim
      (λ (early : s.tick < last). early)
      (λ (late : last ≤ s.tick).
      let (value, is, less) = below s reached in
      let sum = is.sum in
      let arrival = late_arrives is.distance s reached late is.is (omega arith) value (omega arith) in
      let (later, after, barred) = quiet value arrival in
      let b = above (Cell task.goal later) barred in
      absurd (omega arith))
      (cases_lt s.tick last)

  -- a state of at least that cost to which one of them leads, or the start, bounds the cost
  pub bounded : (s : State) → IsStartOrEntered task states s → IsFrom task cost s → (cost < last + free_cell_count task.grid) × (cost < last + most_cells)
  bounded s entered (value, is, more) =
      let sum = is.sum in
      let few = is.few in
      let small = is.small in
      ⊎_elim
      (λ start. let tick = ap (λ (t : State). t.tick) start in (omega arith, omega arith))
      (λ (from, reached, goes). let late = not_late from reached in let tick = goes.tick in (omega arith, omega arith))
      entered

pub cost_bounded : (task : Task) (cost : ℕ) (states : List State) → AreSwept task cost states → (last : ℕ) → AreBefore last task.bars →
    (s : State) → IsStartOrEntered task states s → IsFrom task cost s → (cost < last + free_cell_count task.grid) × (cost < last + most_cells)
cost_bounded task cost states w last above = bounded task cost states w.below w.followed w.quiet last above

-- on the way to a state of at least the cost there is a first one
module _ (task : Task) (cost : ℕ) (sweep : Sweeping) (m : MeetsGoal task cost sweep) (low : List State)
    (kept : (s : State) → Contains sweep.states s → IsBelow task cost s → Contains low s) where
  first_from : (n : ℕ) (s : State) → s.tick ≡ n → IsStartOrEntered task sweep.states s → IsFrom task cost s → (t : State) × IsStartOrEntered task low t × IsFrom task cost t
  first_from zero s tick entered from = ⊎_elim
      (λ is. (s, inl is, from))
      (λ (before, held, goes). absurd (let t = goes.tick in omega arith))
      entered
  first_from (suc n) s tick entered from = ⊎_elim
      (λ is. (s, inl is, from))
      (λ (before, held, goes). let t = goes.tick in ⊎_elim
      (λ below. (s, inr (before, kept before held below, goes), from))
      (λ far. first_from n before (omega arith) (m.reached.entered before held) far)
      (below_or_from task sweep.bound cost before (m.reached.within before held)))
      entered

  pub meets_first : (t : State) × IsStartOrEntered task low t × IsFrom task cost t
  meets_first = first_from cost (state_at task.goal cost) refl m.arrival (cost, m.is_value, omega arith)

pub meets_limit : (task : Task) (cost : ℕ) (sweep : Sweeping) → MeetsGoal task cost sweep → (low : List State) → AreSwept task cost low →
    ((s : State) → Contains sweep.states s → IsBelow task cost s → Contains low s) → IsBelowLimit task cost
meets_limit task cost sweep m low swept kept last above = let (t, entered, from) = meets_first task cost sweep m low kept in (cost_bounded task cost low swept last above t entered from).0

-- a whole sweep has reached all states below the next bound
pub whole_swept : (task : Task) (sweep : Sweeping) → IsWhole task sweep → AreSwept task (sweep.bound + 1) sweep.states
whole_swept task sweep w = record {
  start = inl w.reached.start;
  below = λ s held. (let (value, is, le) = w.reached.within s held in (value, is, omega arith));
  entered = w.reached.entered;
  followed = λ s held to may. ⊎_map (λ there. there) (⊎_map (λ (cut, (value, is, more)). (value, is, omega arith)) (λ none. none)) (w.followed s held to may);
  quiet = w.quiet;
  rising = w.reached.rising;
}

-- if a state was left out, a greater bound may be tried
pub next_bound : (task : Task) (sweep : Sweeping) → IsWhole task sweep → SomeIsPast task sweep.bound sweep.states → (last : ℕ) → AreBefore last task.bars → sweep.bound + 1 < last + most_cells
next_bound task sweep w (state, entered, (value, is, more)) last above = (cost_bounded task (sweep.bound + 1) sweep.states (whole_swept task sweep w) last above state (inr entered) (value, is, omega arith)).1

pub next_limit : (task : Task) (sweep : Sweeping) → IsWhole task sweep → SomeIsPast task sweep.bound sweep.states → IsBelowLimit task (sweep.bound + 1)
next_limit task sweep w (state, entered, (value, is, more)) last above = (cost_bounded task (sweep.bound + 1) sweep.states (whole_swept task sweep w) last above state (inr entered) (value, is, omega arith)).0

-- the states whose f-value is below the cost are kept one after the other
pub none_kept : (task : Task) (cost : ℕ) (states : List State) → AreKept task cost 0 states []
none_kept task cost states = record {
  kept = λ k less. absurd (omega arith);
  only = λ s held. absurd (Contains-none s held);
  rising = λ i j d less inside. absurd (omega arith);
}

module _ (task : Task) (cost count : ℕ) (states low : List State) (a : AreKept task cost count states low) where
  state : State
  state = slice_index_or states count (start_of task)

  pub kept_skip : (IsBelow task cost (slice_index_or states count (start_of task)) → ⊥) → AreKept task cost (count + 1) states low
  kept_skip above = record {
    kept = λ k less below. ⊎_elim
        (λ (before : k < count). a.kept k before below)
        (λ (here : count ≤ k). let same : k ≡ count = omega arith in absurd (above (subst (λ n. IsBelow task cost (slice_index_or states n (start_of task))) same below)))
        (cases_lt k count);
    only = λ s held. (let ((k, less, is), below) = a.only s held in ((k, omega arith, is), below));
    rising = a.rising;
  }

  pub kept_push : count < length states → AllPairs IsEarlier states → IsBelow task cost (slice_index_or states count (start_of task)) → AreKept task cost (count + 1) states (low ++ slice_index_or states count (start_of task) ∷ [])
  kept_push inside rising here = record {
    kept = λ k less below. ⊎_elim
        (λ (before : k < count). Contains-append_left low (slice_index_or states count (start_of task) ∷ []) (slice_index_or states k (start_of task)) (a.kept k before below))
        (λ (last : count ≤ k). let same : count ≡ k = omega arith in
        subst (λ n. Contains (low ++ slice_index_or states count (start_of task) ∷ []) (slice_index_or states n (start_of task))) same (Contains-push low (slice_index_or states count (start_of task))))
        (cases_lt k count);
    only = λ s held. ⊎_elim
        (λ old. let ((k, less, is), below) = a.only s old in ((k, omega arith, is), below))
        (λ same. ((count, omega arith, same), subst (IsBelow task cost) same here))
        (Contains-push_cases low (slice_index_or states count (start_of task)) s held);
    rising = all_pairs_push IsEarlier low (slice_index_or states count (start_of task)) a.rising
        (λ k d less. (let ((j, j_less, is), below) = a.only (slice_index_or low k d) (Contains-get_or low k d less) in
        subst (λ s. IsEarlier s (slice_index_or states count (start_of task))) is (rising j count (start_of task) j_less inside)));
  }

pub kept_holds : (task : Task) (cost count : ℕ) (states low : List State) → AreKept task cost count states low → length states ≤ count → (s : State) → Contains states s → IsBelow task cost s → Contains low s
kept_holds task cost count states low a most s (k, inside, is) below =
    let at : slice_index_or states k (start_of task) ≡ s = get_or_default states k (start_of task) s inside ∙ is in
    subst (Contains low) at (a.kept k (omega arith) (subst (IsBelow task cost) (sym at) below))

-- all of them are kept
pub kept_swept : (task : Task) (cost count : ℕ) (sweep : Sweeping) (low : List State) → MeetsGoal task cost sweep → AreKept task cost count sweep.states low → length sweep.states ≤ count → count ≤ length sweep.states → AreSwept task cost low
kept_swept task cost count sweep low m a most least = low_swept task cost sweep m low (kept_holds task cost count sweep.states low a most)
    (λ s held. let ((k, less, is), below) = a.only s held in
    (subst (Contains sweep.states) is (Contains-get_or sweep.states k (start_of task) (omega arith)), below))
    a.rising

-- a whole sweep that left out no state has reached all
pub whole_all : (task : Task) (sweep : Sweeping) → IsWhole task sweep → sweep.is_cut ≡ false → AreAll task sweep.bound sweep.states
whole_all task sweep w uncut = record {
  reached = w.reached;
  quiet = w.quiet;
  followed = λ s held to may. ⊎_map (λ there. there) (⊎_elim (λ (cut, past). absurd (let never : false ≡ true = sym uncut ∙ cut in cc)) (λ none. none)) (w.followed s held to may);
}

-- no state is below the f-value of the start
pub none_swept : (task : Task) (first : ℕ) → IsValue task (start_of task) first → AreSwept task first []
none_swept task first is = record {
  start = inr (first, is, omega arith);
  below = λ s held. absurd (Contains-none s held);
  entered = λ s held. absurd (Contains-none s held);
  followed = λ s held. absurd (Contains-none s held);
  quiet = λ tick held. absurd (Contains-none (state_at task.goal tick) held);
  rising = λ i j d less inside. absurd (omega arith);
}

-- a walk that ends at the cost, where the agent arrives at none of the states below it
module _ (task : Task) (cost : ℕ) (states : List State) (cells : List ℕ) (swept : AreSwept task cost states) (w : IsWholeWalk task cost cells) where
  pub walk_arrived : MayRestFrom task cost → HasArrived task cost states
  walk_arrived rest =
      let some = w.way.some in
      let start : state_of cells 0 ≡ start_of task = ap (λ c. state_at c 0) w.way.start in
      record {
        swept = swept;
        leads = walk_leads task cost cells w;
        within = subst (IsWithin task cost) start (w.way.within 0 (omega arith));
        rest = rest;
      }

  first_on : (k : ℕ) → k ≤ cost → IsFrom task cost (state_of cells k) → (t : State) × IsStartOrEntered task states t × IsFrom task cost t
  first_on zero le from = (state_of cells 0, inl (ap (λ c. state_at c 0) w.way.start), from)
  first_on (suc k) le from =
      let count = w.count in
      let next : k + 1 ≡ suc k = omega arith in
      let goes = subst (λ n. Goes task (state_of cells k) (state_of cells n)) next (w.way.goes k (omega arith)) in
      ⊎_elim
      (λ (value, is, less). (state_of cells (suc k), inr (state_of cells k, low_walk task cost states cells swept w k (omega arith) value is less, goes), from))
      (λ far. first_on k (omega arith) far)
      (below_or_from task cost cost (state_of cells k) (w.way.within k (omega arith)))

  last_from : IsFrom task cost (state_of cells cost)
  last_from = let count = w.count in let (value, is, le) = w.way.within cost (omega arith) in let sum = is.sum in (value, is, omega arith)

  pub walk_limit : IsBelowLimit task cost
  walk_limit last above = let (t, entered, from) = first_on cost (omega arith) last_from in (cost_bounded task cost states swept last above t entered from).0
