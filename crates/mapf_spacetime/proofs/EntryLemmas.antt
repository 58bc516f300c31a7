-- Entries for rising states.
use Rattle.std.proofs.Common.{◌≡◌, ℕ, ◌<◌, Option, AllPairs, Contains, List, map, length, ap, refl, ◌∙◌, arith}
use Rattle.std.proofs.lemmas.List.{get_or-map, length-map}
use Rattle.std.proofs.lemmas.List.Elements.{All-map, All-contains, Contains-get_or}
use Rattle.mapf_model.specs.declared.label.Entry.{Entry}
use Rattle.mapf_model.specs.Printed.{IsBefore}
use Rattle.mapf_model.specs.declared.state.State.{State}
use Rattle.mapf_spacetime.specs.Task.{state_at}
use Rattle.mapf_spacetime.specs.Listed.{label_of, entry_for, AreEntriesOf}
use Rattle.mapf_model.specs.States.{IsEarlier}

module _ (cost : Option ℕ) (states : List State) (rising : AllPairs IsEarlier states) where
  rise : AllPairs IsBefore (map (entry_for cost) states)
  rise i j d less within =
      let n = length-map states (entry_for cost) in
      let s : State = state_at d.cell d.tick in
      let inside : j < length states = omega arith in
      rw (get_or-map (entry_for cost) states i s d (omega arith), get_or-map (entry_for cost) states j s d inside) (rising i j s less inside)

  -- the entries of rising states
  pub listed_entries : AreEntriesOf states cost (map (entry_for cost) states)
  listed_entries =
      let Is = λ (e : Entry). Contains states (state_at e.cell e.tick) × (e.label ≡ label_of cost e.tick) in
      record {
        each = λ e. All-contains Is (map (entry_for cost) states) e (All-map Is (entry_for cost) states (λ k d lt. (Contains-get_or states k d lt, refl)));
        all = λ s (k, lt, at). (k, omega (arith, lt, length-map states (entry_for cost)), get_or-map (entry_for cost) states k s (entry_for cost s) lt ∙ ap (entry_for cost) at);
        rising = rise;
      }
