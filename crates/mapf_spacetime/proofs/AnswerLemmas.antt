-- How a search starts and ends.
use Rattle.std.proofs.Common.{◌≡◌, ⊎_elim, ℕ, zero, suc, ◌-◌, ◌<◌, ◌≤◌, Some, None, List, [], ◌∷◌, All, Contains, length, slice_index_or, refl, sym, subst, arith}
use Rattle.std.proofs.lemmas.List.Elements.{Contains-push, Contains-get_or}
use Rattle.mapf_distance.specs.Distances.{IsLeastDescent}
use Rattle.mapf_model.specs.declared.bar.Bar.TheVariants.{Cell}
use Rattle.mapf_model.specs.declared.label.Entry.{Entry}
use Rattle.mapf_model.specs.declared.label.Label.TheVariants.{Never}
use Rattle.mapf_model.specs.Bars.{Satisfies}
use Rattle.mapf_model.specs.Distance.{IsDistance, IsUnreachable}
use Rattle.mapf_model.specs.Grid.{IsGridMap}
use Rattle.mapf_model.specs.Labels.{entries_of, IsSoundEntry}
use Rattle.mapf_model.specs.Path.{at, IsPath, IsCost, IsTight}
use Rattle.mapf_model.specs.Printed.{IsLabelInRange, IsEntryInRange}
use Rattle.mapf_model.specs.declared.state.State.{State}
use Rattle.mapf_spacetime.specs.Task.{Task, IsValue, IsWithin, IsBelow, state_at, start_of, cost_bound}
use Rattle.mapf_spacetime.specs.States.{IsBelowLimit}
use Rattle.mapf_spacetime.specs.Sweeps.{AreSwept, AreAll}
use Rattle.mapf_spacetime.specs.Listed.{AreEntriesOf}
use Rattle.mapf_spacetime.specs.Answer.{AreGoodLabels, IsStartNearer, IsArrival, ShowNone}
use Rattle.mapf_spacetime.proofs.ValueLemmas.{value_free, no_lower}
use Rattle.mapf_spacetime.proofs.SweptLemmas.{one_held}
use Rattle.mapf_model.proofs.ContainsLemmas.{Contains-none}
use Rattle.mapf_spacetime.proofs.LabelLemmas.{entry_is, entry_none, entry_there, listed_label, never_label, sound_all, start_all}
use Rattle.mapf_spacetime.proofs.WayLemmas.{descent_first}
use Rattle.mapf_model.proofs.StepLemmas.{free_on_grid}

pub first_limit : (task : Task) (first : ℕ) → IsValue task (start_of task) first → IsBelowLimit task first
first_limit task first is bound above = let sum = is.sum in let few = is.few in omega arith

pub all_show : (task : Task) (bound : ℕ) (states : List State) → AreAll task bound states → (entries : List Entry) → AreEntriesOf states None entries → ShowNone task entries
all_show task bound states all entries a = record { sound = sound_all task bound states all entries a; start = start_all task bound states all entries a }

pub all_few : (task : Task) (bound : ℕ) (states : List State) → AreAll task bound states → bound < cost_bound → (s : State) → Contains states s → IsWithin task 9999999 s
all_few task bound states all small s h = let (value, is, le) = all.reached.within s h in (value, is, omega arith)

-- the start is forbidden at tick 0
pub barred_shows : (task : Task) (first : ℕ) → IsValue task (start_of task) first → Contains task.bars (Cell task.start 0) → (entries : List Entry) → AreEntriesOf (start_of task ∷ []) None entries → ShowNone task entries
barred_shows task first is barred entries a = record {
  sound = λ cell tick label e.
      let (listed, label_is) = entry_is (start_of task ∷ []) None entries a cell tick label e in
      let same = one_held (start_of task) (state_at cell tick) listed in
      let here : Contains task.bars (Cell cell tick) = subst (λ s. Contains task.bars (Cell s.cell s.tick)) same barred in
      let value = subst (λ s. IsValue task s first) same is in
      subst (IsSoundEntry task.grid task.goal task.bars (entries_of entries) cell tick) (sym label_is) (record {
        raised = (value.distance, value.is, tt);
        at_goal = λ open_cell at. absurd (open_cell here);
        onward = λ open_cell next may. absurd (open_cell here);
      });
  start = listed_label task.grid task.goal entries task.start 0 Never (entry_there (start_of task ∷ []) None entries a task.start 0 (Contains-push [] (start_of task)));
}

-- no steps lead from the start to the goal
pub unreachable_shows : (task : Task) → IsUnreachable task.grid task.goal task.start → (entries : List Entry) → AreEntriesOf [] None entries → ShowNone task entries
unreachable_shows task none entries a = record {
  sound = λ cell tick label e. absurd (Contains-none (state_at cell tick) (entry_is [] None entries a cell tick label e).0);
  start = never_label task.grid task.goal entries task.start 0 (entry_none [] None entries a task.start 0 (λ h. Contains-none (start_of task) h)) none;
}

module _ (task : Task) (shape : IsGridMap task.grid) (states : List State) (entries : List Entry) where
  pub ranges_some : (cost : ℕ) → cost < cost_bound → ((s : State) → Contains states s → IsBelow task cost s) → AreEntriesOf states (Some cost) entries → All (IsEntryInRange task.grid) entries
  ranges_some cost small low a k d lt =
      let e = slice_index_or entries k d in
      let (listed, label_is) = a.each e (Contains-get_or entries k d lt) in
      let (value, is, less) = low (state_at e.cell e.tick) listed in
      let sum = is.sum in
      (free_on_grid task.grid e.cell shape (value_free task (state_at e.cell e.tick) value is), omega arith, subst IsLabelInRange (sym label_is) (omega arith, omega arith))

  pub ranges_none : ((s : State) → Contains states s → IsWithin task 9999999 s) → AreEntriesOf states None entries → All (IsEntryInRange task.grid) entries
  ranges_none few a k d lt =
      let e = slice_index_or entries k d in
      let (listed, label_is) = a.each e (Contains-get_or entries k d lt) in
      let (value, is, le) = few (state_at e.cell e.tick) listed in
      let sum = is.sum in
      (free_on_grid task.grid e.cell shape (value_free task (state_at e.cell e.tick) value is), omega arith, subst IsLabelInRange (sym label_is) tt)

-- no entries at all
pub no_labels : (task : Task) → AreGoodLabels task []
no_labels task = record {
  sound = λ cell tick label e. cc;
  rising = λ i j d less within. absurd (omega arith);
  ranges = λ k d lt. absurd (omega arith);
}

-- a shortest path that satisfies the constraints is a cheapest one, and needs no labels
pub shortest_arrives : (task : Task) (first : ℕ) (path : List ℕ) → IsValue task (start_of task) first → IsPath task.grid path → at path 0 ≡ task.start → at path (length path - 1) ≡ task.goal →
    IsDistance task.grid task.goal task.start (length path - 1) → IsCost task.goal path (length path - 1) → IsTight path → IsLeastDescent task.grid task.goal path → Satisfies task.bars path → IsArrival task path []
shortest_arrives task first path value is_path starts ends shortest is_cost tight least satisfies =
    let short = value.is.least (length path - 1) shortest.walk in
    let long = shortest.least value.distance value.is.walk in
    let sum = value.sum in
    let same : first ≡ length path - 1 = omega arith in
    record {
      cost = length path - 1;
      lawful = record { is_path = is_path; start = starts; goal = ends };
      satisfies = satisfies;
      is_cost = is_cost;
      tight = tight;
      limit = subst (IsBelowLimit task) same (first_limit task first value);
      first = descent_first task path starts shortest is_cost least;
      labels = no_labels task;
      start = shortest;
      needed = λ some. absurd (omega arith);
    }

-- no state that was reached has a smaller f-value than the start
start_least : (task : Task) (cost : ℕ) (states : List State) → AreSwept task cost states → (n : ℕ) (s : State) → s.tick ≡ n → Contains states s → (value : ℕ) → IsValue task s value → (first : ℕ) × IsValue task (start_of task) first × (first ≤ value)
start_least task cost states f zero s tick held value is = ⊎_elim
    (λ (same : s ≡ start_of task). (value, subst (λ t. IsValue task t value) same is, omega arith))
    (λ (from, reached, goes). absurd (let one = goes.tick in omega arith))
    (f.entered s held)
start_least task cost states f (suc n) s tick held value is = ⊎_elim
    (λ (same : s ≡ start_of task). (value, subst (λ t. IsValue task t value) same is, omega arith))
    (λ (from, reached, goes).
    let (before, before_is, within) = f.below from reached in
    let low = no_lower task from s before value before_is is goes in
    let (first, first_is, less) = start_least task cost states f n from (let one = goes.tick in omega arith) reached before before_is in
    (first, first_is, omega arith))
    (f.entered s held)

-- if there are labels of states below the cost, one is that of the start
pub start_nearer : (task : Task) (cost : ℕ) (states : List State) → AreSwept task cost states → (entries : List Entry) → AreEntriesOf states (Some cost) entries → 1 ≤ length entries → IsStartNearer task cost
start_nearer task cost states h (e ∷ entries) a some =
    let (listed, label_is) = a.each e (0, omega arith, refl) in
    let (value, is, less) = h.below (state_at e.cell e.tick) listed in
    let (first, first_is, within) = start_least task cost states h e.tick (state_at e.cell e.tick) refl listed value is in
    let sum = first_is.sum in
    (first_is.distance, first_is.is, omega arith)
start_nearer task cost states h [] a some = absurd (omega arith)
