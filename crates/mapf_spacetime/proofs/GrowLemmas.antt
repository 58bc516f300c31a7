-- A frontier at the next cost, and a bound on the costs.
use Rattle.std.proofs.Common.{Option, Some, None, IfNone, ◌≡◌, ◌⊎◌, inl, inr, ⊎_elim, ℕ, ◌+◌, ◌<◌, List, [], ◌∷◌, length, Contains, refl, sym, subst, arith}
use Rattle.std.proofs.Math.Logic.{⊎_map}
use Rattle.std.proofs.lemmas.List.{take_all}
use Rattle.mapf_model.specs.Distance.{IsUnreachable}
use Rattle.mapf_model.specs.Grid.{free_cell_count}
use Rattle.mapf_model.specs.Labels.{MayGo}
use Rattle.mapf_constraints.specs.BarSets.{AreBefore}
use Rattle.mapf_model.specs.declared.state.State.{State}
use Rattle.mapf_spacetime.specs.Task.{Task, IsValue, state_at, start_of}
use Rattle.mapf_spacetime.specs.States.{IsBelowLimit}
use Rattle.mapf_spacetime.specs.Sweeps.{IsFrom}
use Rattle.mapf_spacetime.specs.Frontiers.{States, raised, IsWaiting, NoneWait, IsKnown, IsFrontier, IsLevelDone}
use Rattle.mapf_spacetime.proofs.SweptLemmas.{bounded}
use Rattle.mapf_spacetime.proofs.FrontierLemmas.{IsClosed-known, reached_within, waiting_past}
use Rattle.mapf_model.proofs.ContainsLemmas.{Contains-none}
use Rattle.mapf_model.specs.Limits.{most_cells}

-- a state that is known at one cost is known at the next
module _ (task : Task) (states : States) (w : IsLevelDone task states) where
  known_raised : (s : State) → IsKnown states s → IsKnown (raised states) s
  known_raised s k = ⊎_map (λ r. r) (⊎_elim (λ o. absurd (Contains-none s (subst (λ l. Contains l s) w.none_open o))) (⊎_map (λ n. n) (λ l. inl l))) k

  known_before : (s : State) → IsKnown (raised states) s → IsKnown states s
  known_before s k = ⊎_map (λ r. r) (λ other. inr (⊎_map (λ o. o) (⊎_elim (λ n. n) (λ l. absurd (Contains-none s l))) other)) k

  pub raised_frontier : IsFrontier task [] (raised states)
  raised_frontier =
      let f = w.frontier in
      let whole = take_all (length states.reached) states.reached (omega arith) in
      record {
        start = ⊎_elim (λ r. inl r) (λ o. absurd (Contains-none (start_of task) (subst (λ l. Contains l (start_of task)) w.none_open o))) f.start;
        low = λ s h. (let (value, is, le) = reached_within task [] states f s (subst (λ l. Contains l s) whole h) in (value, is, omega arith));
        top = λ s h. inl (subst (λ l. Contains l s) (sym whole) h);
        bound = omega arith;
        level = f.next;
        next = λ s h. (let two : states.cost + 2 ≡ states.cost + 1 + 1 = omega arith in subst (IsValue task s) two (f.later s h));
        later = λ s h. absurd (Contains-none s h);
        entered = λ s k. f.entered s (known_before s k);
        closed = λ s h. ⊎_elim (λ b. inl b) (λ c. inr (IsClosed-known task states (raised states) known_raised s c)) (f.closed s h);
        quiet = f.quiet;
      }

-- a state that waits bounds the next cost
module _ (task : Task) (states : States) (w : IsLevelDone task states) (last : ℕ) (above : AreBefore last task.bars) where
  from_next : (s : State) → IsWaiting states s → IsFrom task (states.cost + 1) s
  from_next s waits = (let (value, is, more) = waiting_past task [] states w.frontier s waits in (value, is, omega arith))

  followed : (s : State) → Contains states.reached s → (to : ℕ) → MayGo task.grid task.bars s.cell to s.tick →
      Contains states.reached (state_at to (s.tick + 1)) ⊎ (IsFrom task (states.cost + 1) (state_at to (s.tick + 1)) ⊎ IsUnreachable task.grid task.goal to)
  followed s held to may = ⊎_elim
      (λ b. absurd (Contains-none s b))
      (λ closed. ⊎_elim
      (⊎_map (λ r. r) (λ other. inl (⊎_elim (λ o. absurd (Contains-none (state_at to (s.tick + 1)) (subst (λ l. Contains l (state_at to (s.tick + 1))) w.none_open o))) (from_next (state_at to (s.tick + 1))) other)))
      (λ none. inr (inr none))
      (closed to may))
      (w.frontier.closed s held)

  pub next_cost : (s : State) → IsWaiting states s → (states.cost + 1 < last + free_cell_count task.grid) × (states.cost + 1 < last + most_cells)
  next_cost s waits = bounded task (states.cost + 1) states.reached
      (λ r held. let (value, is, le) = reached_within task [] states w.frontier r held in (value, is, omega arith))
      followed w.frontier.quiet last above s (w.frontier.entered s (inr (inr waits))) (from_next s waits)

some_waits : (states : States) → (NoneWait states → ⊥) → (s : State) × IsWaiting states s
some_waits states some = by states.next_states states.later_states refl refl
  where
    by : (next later : List State) → states.next_states ≡ next → states.later_states ≡ later → (s : State) × IsWaiting states s
    by [] [] next_is later_is = absurd (some (next_is, later_is))
    by (s ∷ next) later next_is later_is = (s, inl (subst (λ l. Contains l s) (sym next_is) (0, omega arith, refl)))
    by [] (s ∷ later) next_is later_is = (s, inr (subst (λ l. Contains l s) (sym later_is) (0, omega arith, refl)))

-- the next cost is still below the limit
pub limit_next : (task : Task) (states : States) → IsLevelDone task states → (NoneWait states → ⊥) → IsBelowLimit task (states.cost + 1)
limit_next task states w some last above = let (s, waits) = some_waits states some in (next_cost task states w last above s waits).0

pub number_next : (task : Task) (states : States) → IsLevelDone task states → (NoneWait states → ⊥) → (last : ℕ) → AreBefore last task.bars → states.cost + 1 < last + most_cells
number_next task states w some last above = let (s, waits) = some_waits states some in (next_cost task states w last above s waits).1

-- what holds of None holds of a value that is no Some
pub from_none : {X P : Type 0} (o : Option X) → ((x : X) → o ≡ Some x → ⊥) → IfNone o P → P
from_none None not p = p
from_none (Some x) not p = absurd (not x refl)
