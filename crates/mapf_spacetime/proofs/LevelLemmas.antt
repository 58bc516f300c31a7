-- How a search by rising f-values begins with a sweep, and what it has shown at its end.
use Rattle.std.proofs.Common.{◌≡◌, ◌⊎◌, inl, inr, ⊎_elim, ℕ, zero, ◌+◌, ◌^◌, ◌<◌, ◌≤◌, List, [], ◌∷◌, ◌++◌, AllPairs, Contains, drop, take-append-drop, length, length-append, refl, sym, subst, arith}
use Rattle.std.proofs.Math.Logic.{⊎_map}
use Rattle.std.proofs.lemmas.List.{take_all}
use Rattle.std.proofs.lemmas.List.Elements.{Contains-append_left}
use Rattle.mapf_model.specs.Labels.{MayGo}
use Rattle.mapf_model.proofs.ContainsLemmas.{Contains-none}
use Rattle.mapf_model.specs.declared.state.State.{State}
use Rattle.mapf_spacetime.specs.Frontiers.{States, first_states, low_states, with_open, AreLowReached, IsAtGoal, IsClosed, IsFrontier, IsKnown, IsWaiting, IsExhausted, takes_left}
use Rattle.mapf_spacetime.specs.Levels.{IsWalkTo}
use Rattle.mapf_spacetime.specs.PathSearch.{CanArrive, IsWholeWalk}
use Rattle.mapf_model.specs.States.{IsEarlier}
use Rattle.mapf_spacetime.specs.Sweeps.{Sweeping, IsFrom, IsWhole, HasArrived, AreAll}
use Rattle.mapf_spacetime.specs.Task.{Task, IsValue, MayRestFrom, state_at, start_of}
use Rattle.mapf_spacetime.proofs.FrontierLemmas.{reached_within, at_goal_open, rest_at_cost}
use Rattle.mapf_spacetime.proofs.PathLemmas.{walk_leads}
use Rattle.mapf_spacetime.proofs.SweptLemmas.{leads_back}
use Rattle.mapf_spacetime.proofs.ValueLemmas.{level_within, no_lower, not_higher, value_unique}

-- the states of a whole sweep were reached, and the steps from them are still to be taken
module _ (task : Task) (sweep : Sweeping) (w : IsWhole task sweep) where
  pub first_frontier : IsFrontier task sweep.states (first_states sweep.states (sweep.bound + 1))
  first_frontier =
      let whole = take_all (length sweep.states) sweep.states (omega arith) in
      record {
        start = inl w.reached.start;
        low = λ s h. (let (value, is, le) = w.reached.within s (subst (λ l. Contains l s) whole h) in (value, is, omega arith));
        top = λ s h. inl (subst (λ l. Contains l s) (sym whole) h);
        bound = omega arith;
        level = λ s h. absurd (Contains-none s h);
        next = λ s h. absurd (Contains-none s h);
        later = λ s h. absurd (Contains-none s h);
        entered = λ s k. ⊎_elim
            (λ r. w.reached.entered s r)
            (λ other. ⊎_elim (λ o. absurd (Contains-none s o)) (λ waits. ⊎_elim (λ n. absurd (Contains-none s n)) (λ l. absurd (Contains-none s l)) waits) other)
            k;
        closed = λ s h. inl h;
        quiet = w.quiet;
      }

  pub low_steps : (from : State) → Contains sweep.states from → (to : ℕ) → MayGo task.grid task.bars from.cell to from.tick →
      (value : ℕ) → IsValue task (state_at to (from.tick + 1)) value → value < sweep.bound + 1 → Contains sweep.states (state_at to (from.tick + 1))
  low_steps from held to may value is less = ⊎_elim
      (λ there. there)
      (λ other. ⊎_elim
      (λ (cut, (past, past_is, more)). absurd (let same = value_unique task (state_at to (from.tick + 1)) value past is past_is in omega arith))
      (λ none. absurd (none is.distance is.is.walk))
      other)
      (w.followed from held to may)

  -- from a state further below than a step can raise the f-value, each step leads to a state of the sweep
  pub inner_closed : (states : States) → states.reached ≡ sweep.states → (from : State) → Contains sweep.states from → (value : ℕ) → IsValue task from value → value + 2 ≤ sweep.bound → IsClosed task states from
  inner_closed states same from held value is low to may = ⊎_elim
      (λ there. inl (inl (subst (λ l. Contains l (state_at to (from.tick + 1))) (sym same) there)))
      (λ other. ⊎_elim
      (λ (cut, (past, past_is, more)). absurd (let high = not_higher task from (state_at to (from.tick + 1)) value past is past_is (record { may = may; tick = refl }) in omega arith))
      (λ none. inr none)
      other)
      (w.followed from held to may)

-- no step leads from a state at the cost to one below it
pub level_steps : (task : Task) (states : States) (from : State) → IsValue task from states.cost → AreLowReached task from states
level_steps task states from level to may (value, is, less) = absurd (
    let low = no_lower task from (state_at to (from.tick + 1)) states.cost value level is (record { may = may; tick = refl }) in omega arith)

from_level : (task : Task) (cost value : ℕ) (s : State) → IsValue task s value → cost ≤ value → IsFrom task cost s
from_level task cost value s is le = (value, is, le)

-- an agent that can arrive from an open state can arrive from the start
pub goal_leads : (task : Task) (states : States) → IsFrontier task [] states → Contains states.open_states (state_at task.goal states.cost) → CanArrive task states.cost (start_of task)
goal_leads task states f held = leads_back task states.cost (IsKnown states) (λ s known. ⊎_map (λ is. is) (λ (from, there, goes). (from, inl there, goes)) (f.entered s known))
    states.cost (state_at task.goal states.cost) refl (inr (inl held)) (zero, refl)

-- a state that was taken and had been reached before leaves fewer to take
pub takes_old : (states : States) (state : State) → length (states.open_states ++ state ∷ []) < 2 ^ 64 → takes_left states + 1 ≤ takes_left (with_open states state)
takes_old states state small = omega (arith, length-append states.open_states (state ∷ []))

-- and so does one that is new, whatever it opens
pub takes_new : (old new : States) → length new.reached ≡ length old.reached + 1 → length new.reached < 2 ^ 64 → takes_left new + 1 ≤ takes_left old
takes_new old new one small = omega arith

-- the state that was taken last is the arrival
pub open_arrived : (task : Task) (states : States) (state : State) → IsFrontier task [] (with_open states state) → state.cell ≡ task.goal → MayRestFrom task state.tick → IsAtGoal task states
open_arrived task states state f is rest = record {
  all = states.open_states ++ state ∷ [];
  frontier = f;
  leads = goal_leads task (with_open states state) f (at_goal_open task states state f is);
  rest = rest_at_cost task states state f is rest;
}

-- a walk of the cost ends at the goal
pub walk_at_goal : (task : Task) (states : States) (cells : List ℕ) → IsFrontier task [] states → IsWholeWalk task states.cost cells → MayRestFrom task states.cost → IsWalkTo task states cells
walk_at_goal task states cells f walk rest = record {
  at_goal = record { all = states.open_states; frontier = f; leads = walk_leads task states.cost cells walk; rest = rest };
  walk = walk;
}

-- the agent arrives at the cost: these are the states below it
module _ (task : Task) (states : States) (f : IsFrontier task [] states) (can : CanArrive task states.cost (start_of task)) (rest : MayRestFrom task states.cost) (low : List State) (to : (s : State) → Contains low s → Contains (low_states states) s)
    (of : (s : State) → Contains (low_states states) s → Contains low s) (rising : AllPairs IsEarlier low) where
  reached : (s : State) → Contains (low_states states) s → Contains states.reached s
  reached s held = subst (λ l. Contains l s) (take-append-drop states.below states.reached) (Contains-append_left (low_states states) (drop states.below states.reached) s held)

  held_or_from : (s : State) → Contains states.reached s → Contains low s ⊎ IsFrom task states.cost s
  held_or_from s there = ⊎_elim (λ l. inl (of s l)) (λ level. inr (from_level task states.cost states.cost s level (omega arith))) (f.top s there)

  known_from : (s : State) → IsKnown states s → Contains low s ⊎ IsFrom task states.cost s
  known_from s known = ⊎_elim
      (λ r. held_or_from s r)
      (λ other. ⊎_elim
      (λ o. inr (from_level task states.cost states.cost s (f.level s o) (omega arith)))
      (λ waits. ⊎_elim
      (λ n. inr (from_level task states.cost (states.cost + 1) s (f.next s n) (omega arith)))
      (λ l. inr (from_level task states.cost (states.cost + 2) s (f.later s l) (omega arith)))
      waits)
      other)
      known

  pub low_arrived : HasArrived task states.cost low
  low_arrived =
      record {
        swept = record {
          start = ⊎_elim (λ r. held_or_from (start_of task) r) (λ o. inr (from_level task states.cost states.cost (start_of task) (f.level (start_of task) o) (omega arith))) f.start;
          below = λ s held. f.low s (to s held);
          entered = λ s held. ⊎_elim
              (λ is. inl is)
              (λ (from, there, goes).
              let (value, is, less) = f.low s (to s held) in
              let (before, before_is, le) = reached_within task [] states f from there in
              let lower = no_lower task from s before value before_is is goes in
              ⊎_elim
              (λ l. inr (from, of from l, goes))
              (λ level. absurd (let same = value_unique task from before states.cost before_is level in omega arith))
              (f.top from there))
              (f.entered s (inl (reached s (to s held))));
          followed = λ s held next may. ⊎_elim
              (λ busy. absurd (Contains-none s busy))
              (λ closed. ⊎_elim
              (λ known. ⊎_elim (λ l. inl l) (λ far. inr (inl far)) (known_from (state_at next (s.tick + 1)) known))
              (λ none. inr (inr none))
              (closed next may))
              (f.closed s (reached s (to s held)));
          quiet = λ tick held. f.quiet tick (reached (state_at task.goal tick) (to (state_at task.goal tick) held));
          rising = rising;
        };
        leads = can;
        within = ⊎_elim (λ r. reached_within task [] states f (start_of task) r) (λ o. level_within task (start_of task) states.cost (f.level (start_of task) o)) f.start;
        rest = rest;
      }

-- no state is left to reach
module _ (task : Task) (states : States) (x : IsExhausted task states) (kept : List State) (to : (s : State) → Contains kept s → Contains states.reached s)
    (of : (s : State) → Contains states.reached s → Contains kept s) (rising : AllPairs IsEarlier kept) where
  none_open : (s : State) → Contains states.open_states s → ⊥
  none_open s o = Contains-none s (subst (λ l. Contains l s) x.done.none_open o)

  none_waits : (s : State) → IsWaiting states s → ⊥
  none_waits s = ⊎_elim (λ n. Contains-none s (subst (λ l. Contains l s) x.none_waits.0 n)) (λ l. Contains-none s (subst (λ l. Contains l s) x.none_waits.1 l))

  pub exhausted_all : AreAll task states.cost kept
  exhausted_all =
      let f = x.done.frontier in
      record {
        reached = record {
          start = ⊎_elim (λ r. of (start_of task) r) (λ o. absurd (none_open (start_of task) o)) f.start;
          within = λ s held. reached_within task [] states f s (to s held);
          entered = λ s held. ⊎_elim (λ is. inl is) (λ (from, there, goes). inr (from, of from there, goes)) (f.entered s (inl (to s held)));
          rising = rising;
        };
        quiet = λ tick held. f.quiet tick (to (state_at task.goal tick) held);
        followed = λ s held next may. ⊎_elim
            (λ busy. absurd (Contains-none s busy))
            (λ closed. ⊎_map
            (⊎_elim (of (state_at next (s.tick + 1))) (λ other. absurd (⊎_elim (none_open (state_at next (s.tick + 1))) (none_waits (state_at next (s.tick + 1))) other)))
            (λ none. none)
            (closed next may))
            (f.closed s (to s held));
      }
