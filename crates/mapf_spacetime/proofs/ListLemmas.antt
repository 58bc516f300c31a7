-- The labels are those of the states that can be reached.
use Rattle.std.proofs.Common.{◌≡◌, ⊎_elim, ℕ, zero, suc, ◌+◌, Option, Some, None, List, [], ◌∷◌, Contains, ap, refl, sym, subst, arith}
use Rattle.std.proofs.lemmas.List.Elements.{Contains-push}
use Rattle.mapf_model.specs.declared.bar.Bar.TheVariants.{Cell}
use Rattle.mapf_model.specs.declared.label.Entry.{Entry}
use Rattle.mapf_model.specs.Distance.{IsUnreachable}
use Rattle.mapf_model.proofs.ContainsLemmas.{Contains-none}
use Rattle.mapf_model.specs.declared.state.State.{State}
use Rattle.mapf_spacetime.specs.Listed.{AreEntriesOf}
use Rattle.mapf_spacetime.specs.Listing.{AreReachedEntries, HasValue, IsReached, IsReachedIn}
use Rattle.mapf_spacetime.specs.Sweeps.{AreAll, AreSwept, IsFrom, IsStartOrEntered}
use Rattle.mapf_spacetime.specs.Task.{Task, Goes, IsBelow, IsOpen, IsValue, state_at, start_of}
use Rattle.mapf_spacetime.proofs.SweptLemmas.{not_both, one_held}
use Rattle.mapf_spacetime.proofs.ValueLemmas.{value_none, value_unique}

-- an agent is in no forbidden state after a step
open_after : (task : Task) (from to : State) → Goes task from to → IsOpen task to
open_after task from to goes barred = goes.may.arrival (subst (λ n. Contains task.bars (Cell to.cell n)) goes.tick barred)

-- entries of states, each of which was entered from another one
pub entered_listed : (task : Task) (Kind : State → Type 0) (cost : Option ℕ) (states : List State) (entries : List Entry) → AreEntriesOf states cost entries → IsOpen task (start_of task) →
    ((s : State) → Contains states s → IsStartOrEntered task states s) → ((s : State) → Contains states s → Kind s) → ((s : State) → IsReached task Kind s → Contains states s) → AreReachedEntries task Kind cost entries
entered_listed task Kind cost states entries a is_open entered kind all = record {
  each = λ e held. (let (listed, label) = a.each e held in ((e.tick, (reach e.tick (state_at e.cell e.tick) refl listed).0), label));
  all = λ s reached. a.all s (all s reached);
}
  where
    reach : (n : ℕ) (s : State) → s.tick ≡ n → Contains states s → IsReachedIn task Kind n s × IsOpen task s
    reach zero s tick held = ⊎_elim
        (λ is. ((is, kind s held), subst (IsOpen task) (sym is) is_open))
        (λ (from, there, goes). absurd (let one = goes.tick in omega arith))
        (entered s held)
    reach (suc n) s tick held = ⊎_elim
        (λ is. absurd (let none = ap (λ (t : State). t.tick) is in omega arith))
        (λ (from, there, goes). let before = reach n from (let one = goes.tick in omega arith) there in
        (((from, before.0, before.1, goes), kind s held), open_after task from s goes))
        (entered s held)

-- a list has all states that can be reached if it has the start and, with each of its states, those to which the agent can go
reached_held : (task : Task) (Kind : State → Type 0) (states : List State) → (Kind (start_of task) → Contains states (start_of task)) →
    ((from s : State) → Contains states from → IsOpen task from → Goes task from s → Kind s → Contains states s) → (n : ℕ) (s : State) → IsReachedIn task Kind n s → Contains states s
reached_held task Kind states first next zero s (is, kind) = subst (Contains states) (sym is) (first (subst Kind is kind))
reached_held task Kind states first next (suc n) s ((from, reached, from_open, goes), kind) = next from s (reached_held task Kind states first next n from reached) from_open goes kind

-- the states below the cost
pub swept_listed : (task : Task) (cost : ℕ) (states : List State) (entries : List Entry) → AreSwept task cost states → AreEntriesOf states (Some cost) entries → IsOpen task (start_of task) → AreReachedEntries task (IsBelow task cost) (Some cost) entries
swept_listed task cost states entries w a is_open =
    entered_listed task (IsBelow task cost) (Some cost) states entries a is_open w.entered w.below (λ s (n, reached). reached_held task (IsBelow task cost) states first next n s reached)
  where
    first : IsBelow task cost (start_of task) → Contains states (start_of task)
    first below = ⊎_elim (λ there. there) (λ far. absurd (not_both task cost (start_of task) below far)) w.start

    next : (from s : State) → Contains states from → IsOpen task from → Goes task from s → IsBelow task cost s → Contains states s
    next from s held from_open goes below =
        let same : state_at s.cell (from.tick + 1) ≡ s = λ i. record { tick = sym goes.tick i; cell = s.cell } in
        let (value, is, less) = below in
        ⊎_elim
        (subst (Contains states) same)
        (⊎_elim (λ far. absurd (not_both task cost s below (subst (IsFrom task cost) same far))) (λ none. absurd (value_none task s value none is)))
        (w.followed from held s.cell goes.may)

-- all states
pub all_listed : (task : Task) (bound : ℕ) (states : List State) (entries : List Entry) → AreAll task bound states → AreEntriesOf states None entries → IsOpen task (start_of task) → AreReachedEntries task (HasValue task) None entries
all_listed task bound states entries w a is_open = entered_listed task (HasValue task) None states entries a is_open w.reached.entered
    (λ s there. let (value, is, le) = w.reached.within s there in (value, is)) (λ s (n, reached). reached_held task (HasValue task) states (λ some. w.reached.start) next n s reached)
  where
    next : (from s : State) → Contains states from → IsOpen task from → Goes task from s → HasValue task s → Contains states s
    next from s held from_open goes (value, is) =
        let same : state_at s.cell (from.tick + 1) ≡ s = λ i. record { tick = sym goes.tick i; cell = s.cell } in
        ⊎_elim (subst (Contains states) same) (λ none. absurd (value_none task s value none is)) (w.followed from held s.cell goes.may)

-- no state is reached if the start is none that counts
none_reached : (task : Task) (Kind : State → Type 0) → (Kind (start_of task) → ⊥) → (s : State) → IsReached task Kind s → ⊥
none_reached task Kind none s (n, reached) = Contains-none s (reached_held task Kind [] (λ kind. absurd (none kind)) (λ from s held. absurd (Contains-none from held)) n s reached)

-- the goal can't be reached from the start
pub unreachable_listed : (task : Task) (entries : List Entry) → IsUnreachable task.grid task.goal task.start → AreEntriesOf [] None entries → AreReachedEntries task (HasValue task) None entries
unreachable_listed task entries none a = record {
  each = λ e held. absurd (Contains-none (state_at e.cell e.tick) (a.each e held).0);
  all = λ s reached. absurd (none_reached task (HasValue task) (λ (value, is). value_none task (start_of task) value none is) s reached);
}

-- the start is forbidden at tick 0
pub barred_listed : (task : Task) (first : ℕ) (entries : List Entry) → IsValue task (start_of task) first → Contains task.bars (Cell task.start 0) → AreEntriesOf (start_of task ∷ []) None entries → AreReachedEntries task (HasValue task) None entries
barred_listed task first entries value barred a = record {
  each = λ e held. (let (listed, label) = a.each e held in let same = one_held (start_of task) (state_at e.cell e.tick) listed in
      ((0, (sym same, subst (HasValue task) same (first, value))), label));
  all = λ s (n, reached). a.all s (reached_held task (HasValue task) (start_of task ∷ []) (λ some. Contains-push [] (start_of task))
      (λ from s held from_open goes some. absurd (let same = one_held (start_of task) from held in from_open (subst (λ (t : State). Contains task.bars (Cell t.cell t.tick)) same barred)))
      n s reached);
}

-- no state is below the distance
pub none_listed : (task : Task) (first : ℕ) → IsValue task (start_of task) first → AreReachedEntries task (IsBelow task first) (Some first) []
none_listed task first value = record {
  each = λ e held. absurd (Contains-none e held);
  all = λ s reached. absurd (none_reached task (IsBelow task first) (λ (low, is, less). let same = value_unique task (start_of task) first low value is in omega arith) s reached);
}
