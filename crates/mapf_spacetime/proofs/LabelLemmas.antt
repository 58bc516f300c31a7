-- The labels of a search are sound.
use Rattle.std.proofs.Common.{◌≡◌, ⊎_elim, ℕ, ◌+◌, ◌-◌, ◌<◌, ◌≤◌, Option, Some, None, List, Contains, refl, sym, ap, subst, ◌∙◌, arith}
use Rattle.mapf_model.specs.declared.label.Entry.{Entry}
use Rattle.mapf_model.specs.declared.label.Label.{Label}
use Rattle.mapf_model.specs.declared.label.Label.TheVariants.{Ticks, Never}
use Rattle.mapf_model.specs.Distance.{IsDistance, IsUnreachable}
use Rattle.mapf_model.specs.Grid.{GridMap}
use Rattle.mapf_model.specs.Labels.{entries_of, AreSound, IsSoundEntry, IsLabel, IsEntryOrDistance, IsWithinOne, MayGo}
use Rattle.mapf_model.proofs.ListedLemmas.{listed_is_contained, contained_is_listed}
use Rattle.mapf_model.specs.declared.state.State.{State}
use Rattle.mapf_spacetime.specs.Task.{Task, IsValue, IsWithin, state_at, start_of}
use Rattle.mapf_spacetime.specs.Sweeps.{AreSwept, AreAll}
use Rattle.mapf_spacetime.specs.Listed.{label_of, AreEntriesOf}
use Rattle.mapf_spacetime.proofs.ValueLemmas.{value_unique, value_none}

module _ (states : List State) (cost : Option ℕ) (entries : List Entry) (a : AreEntriesOf states cost entries) where
  pub entry_there : (cell tick : ℕ) → Contains states (state_at cell tick) → entries_of entries cell tick ≡ Some (label_of cost tick)
  entry_there cell tick listed = contained_is_listed entries a.rising cell tick (label_of cost tick) (a.all (state_at cell tick) listed)

  pub entry_is : (cell tick : ℕ) (label : Label) → entries_of entries cell tick ≡ Some label → Contains states (state_at cell tick) × (label ≡ label_of cost tick)
  entry_is cell tick label e = a.each (record { cell = cell; tick = tick; label = label }) (listed_is_contained entries cell tick label e)

  pub entry_none : (cell tick : ℕ) → (Contains states (state_at cell tick) → ⊥) → entries_of entries cell tick ≡ None
  entry_none cell tick unlisted = by (entries_of entries cell tick) refl
    where
      by : (r : Option Label) → entries_of entries cell tick ≡ r → entries_of entries cell tick ≡ None
      by None e = e
      by (Some label) e = absurd (unlisted (entry_is cell tick label e).0)

pub listed_label : (grid : GridMap) (goal : ℕ) (entries : List Entry) (cell tick : ℕ) (label : Label) → entries_of entries cell tick ≡ Some label → IsLabel grid goal (entries_of entries) cell tick label
listed_label grid goal entries cell tick label e = subst (λ entry. IsEntryOrDistance grid goal cell entry label) (sym e) refl

pub distance_label : (grid : GridMap) (goal : ℕ) (entries : List Entry) (cell tick d : ℕ) → entries_of entries cell tick ≡ None → IsDistance grid goal cell d → IsLabel grid goal (entries_of entries) cell tick (Ticks d)
distance_label grid goal entries cell tick d e is = subst (λ entry. IsEntryOrDistance grid goal cell entry (Ticks d)) (sym e) is

pub never_label : (grid : GridMap) (goal : ℕ) (entries : List Entry) (cell tick : ℕ) → entries_of entries cell tick ≡ None → IsUnreachable grid goal cell → IsLabel grid goal (entries_of entries) cell tick Never
never_label grid goal entries cell tick e is = subst (λ entry. IsEntryOrDistance grid goal cell entry Never) (sym e) is

-- the labels below a cost
module _ (task : Task) (cost : ℕ) (states : List State) (h : AreSwept task cost states) (entries : List Entry) (a : AreEntriesOf states (Some cost) entries) where
  -- a state whose f-value is at least the cost has no entry
  unlisted : (cell tick value : ℕ) → IsValue task (state_at cell tick) value → cost ≤ value → entries_of entries cell tick ≡ None
  unlisted cell tick value is least = entry_none states (Some cost) entries a cell tick
      (λ listed. let (low, low_is, less) = h.below (state_at cell tick) listed in let same = value_unique task (state_at cell tick) value low is low_is in absurd (omega arith))

  at_distance : (cell tick value : ℕ) (v : IsValue task (state_at cell tick) value) → cost ≤ value → IsLabel task.grid task.goal (entries_of entries) cell tick (Ticks v.distance)
  at_distance cell tick value v least = distance_label task.grid task.goal entries cell tick v.distance (unlisted cell tick value v least) v.is

  onward : (cell tick next : ℕ) → Contains states (state_at cell tick) → tick < cost → MayGo task.grid task.bars cell next tick → IsWithinOne task.grid task.goal (entries_of entries) (Ticks (cost - tick)) next (tick + 1)
  onward cell tick next held less may = ⊎_elim
      (λ there. (Ticks (cost - (tick + 1)), listed_label task.grid task.goal entries next (tick + 1) (Ticks (cost - (tick + 1))) (entry_there states (Some cost) entries a next (tick + 1) there), omega arith))
      (λ other. ⊎_elim
      (λ (value, is, more). let sum = is.sum in (Ticks is.distance, at_distance next (tick + 1) value is more, omega arith))
      (λ none. (
        Never,
        never_label task.grid task.goal entries next (tick + 1)
            (entry_none states (Some cost) entries a next (tick + 1) (λ listed. let (value, is, below) = h.below (state_at next (tick + 1)) listed in value_none task (state_at next (tick + 1)) value none is)) none,
        tt,
      ))
      other)
      (h.followed (state_at cell tick) held next may)

  pub sound_arrives : AreSound task.grid task.goal task.bars (entries_of entries)
  sound_arrives cell tick label e =
      let (listed, label_is) = entry_is states (Some cost) entries a cell tick label e in
      let (value, is, less) = h.below (state_at cell tick) listed in
      let sum = is.sum in
      subst (IsSoundEntry task.grid task.goal task.bars (entries_of entries) cell tick) (sym label_is)
      (record {
        raised = (is.distance, is.is, omega arith);
        at_goal = λ open_cell at_goal. h.quiet tick (subst (λ v. Contains states (state_at v tick)) at_goal listed);
        onward = λ open_cell next may. onward cell tick next listed (omega arith) may;
      })

  -- the label of a start that has an f-value of at most the cost
  pub start_arrives : IsWithin task cost (start_of task) → IsLabel task.grid task.goal (entries_of entries) task.start 0 (Ticks cost)
  start_arrives (most, most_is, le) = ⊎_elim
      (λ listed. listed_label task.grid task.goal entries task.start 0 (Ticks cost) (entry_there states (Some cost) entries a task.start 0 listed ∙ ap (λ n. Some (Ticks n)) (omega arith)))
      (λ (value, is, more).
      let same = value_unique task (start_of task) most value most_is is in
      let sum = is.sum in
      let all : is.distance ≡ cost = omega arith in
      subst (λ n. IsLabel task.grid task.goal (entries_of entries) task.start 0 (Ticks n)) all (at_distance task.start 0 value is more))
      h.start

-- the labels where no state is left to reach
module _ (task : Task) (bound : ℕ) (states : List State) (h : AreAll task bound states) (entries : List Entry) (a : AreEntriesOf states None entries) where
  never_there : (cell tick : ℕ) → Contains states (state_at cell tick) → IsLabel task.grid task.goal (entries_of entries) cell tick Never
  never_there cell tick held = listed_label task.grid task.goal entries cell tick Never (entry_there states None entries a cell tick held)

  onward_all : (cell tick next : ℕ) → Contains states (state_at cell tick) → MayGo task.grid task.bars cell next tick → IsWithinOne task.grid task.goal (entries_of entries) Never next (tick + 1)
  onward_all cell tick next held may = ⊎_elim
      (λ there. (Never, never_there next (tick + 1) there, tt))
      (λ none. (
        Never,
        never_label task.grid task.goal entries next (tick + 1)
            (entry_none states None entries a next (tick + 1) (λ there. let (value, is, le) = h.reached.within (state_at next (tick + 1)) there in value_none task (state_at next (tick + 1)) value none is)) none,
        tt,
      ))
      (h.followed (state_at cell tick) held next may)

  pub sound_all : AreSound task.grid task.goal task.bars (entries_of entries)
  sound_all cell tick label e =
      let (held, label_is) = entry_is states None entries a cell tick label e in
      let (value, is, le) = h.reached.within (state_at cell tick) held in
      subst (IsSoundEntry task.grid task.goal task.bars (entries_of entries) cell tick) (sym label_is)
      (record {
        raised = (is.distance, is.is, tt);
        at_goal = λ open_cell at_goal. h.quiet tick (subst (λ v. Contains states (state_at v tick)) at_goal held);
        onward = λ open_cell next may. onward_all cell tick next held may;
      })

  pub start_all : IsLabel task.grid task.goal (entries_of entries) task.start 0 Never
  start_all = never_there task.start 0 h.reached.start
