-- The entry of a state, in a list that rises.
use Rattle.std.proofs.Common.{◌≡◌, ℕ, ◌<◌, ◌≤◌, List, Option, Some, None, Err, All, AllPairs, slice_get, slice_index_or, length, Ordering, Less, Equal, Greater, refl, ◌∙◌, ap, subst, inl, inr, arith}
use Rattle.std.proofs.lemmas.Bool.{cases_lt}
use Rattle.std.proofs.lemmas.Bool.Decides.{nat_tests}
use Rattle.std.specs.List.Sorted.{IsBinarySearchResult, IsNonDecreasingBy}
use Rattle.std.specs.Ordering.{nat_cmp, ordering_index, ordering_then}
use Rattle.mapf_model.specs.declared.label.Entry.{Entry}
use Rattle.mapf_model.specs.declared.label.Label.{Label}
use Rattle.mapf_model.specs.Labels.{entries_of}
use Rattle.mapf_lemmas.specs.SingleLabels.{Task, AreSound}
use Rattle.mapf_model.specs.Printed.{IsBefore}
use Rattle.mapf_model.proofs.ListedLemmas.{listed_is_contained, contained_is_listed}
use Rattle.mapf_single_labels.specs.Marks.{IsOf}
use Rattle.mapf_single_labels.specs.Tasks.{IsSoundAmong}
use Rattle.std.proofs.lemmas.Option.{slice_get_within, get_or_from_slice_get}
use Rattle.std.proofs.lemmas.List.Elements.{All-contains}

abbrev entry_with : ℕ → ℕ → Label → Entry
entry_with cell tick label = record { cell = cell; tick = tick; label = label }

-- no entry of the state
pub entries_of-none : (entries : List Entry) (cell tick : ℕ) → ((k : ℕ) (d : Entry) → k < length entries → IsOf cell tick (slice_index_or entries k d) → ⊥) → entries_of entries cell tick ≡ None
entries_of-none entries cell tick misses = by (entries_of entries cell tick) refl
  where
    by : (found : Option Label) → entries_of entries cell tick ≡ found → entries_of entries cell tick ≡ None
    by None none = none
    by (Some label) some =
        let (k, within, is) = listed_is_contained entries cell tick label some in
        absurd (misses k (entry_with cell tick label) within (ap (λ (e : Entry). e.cell) is, ap (λ (e : Entry). e.tick) is))

-- the one entry of the state
pub entries_of-some : (entries : List Entry) (cell tick k : ℕ) (entry : Entry) → AllPairs IsBefore entries → k < length entries → ((d : Entry) → slice_index_or entries k d ≡ entry) → IsOf cell tick entry →
    entries_of entries cell tick ≡ Some entry.label
entries_of-some entries cell tick k entry rising within at is =
    contained_is_listed entries rising cell tick entry.label (k, within, at (entry_with cell tick entry.label) ∙ (λ i. entry_with (is.0 i) (is.1 i) entry.label))

-- what a bisection finds
module _ (entries : List Entry) (rising : AllPairs IsBefore entries) (cell tick : ℕ) where
  -- how an entry compares with the state
  abbrev pub compared : Entry → Ordering
  compared e = ordering_then (nat_cmp e.tick tick) (nat_cmp e.cell cell)

  compared_rise : IsNonDecreasingBy (λ e. ordering_index (compared e)) entries
  compared_rise i j d le within = elim (cases_lt i j) [
    | inl less ↦ rises (slice_index_or entries i d) (slice_index_or entries j d) (rising i j d less within)
    | inr past ↦ let same : i ≡ j = omega (arith, le, past) in subst (λ n. ordering_index (compared (slice_index_or entries i d)) ≤ ordering_index (compared (slice_index_or entries n d))) same (omega arith)
  ]
    where
      rises : (a b : Entry) → IsBefore a b → ordering_index (compared a) ≤ ordering_index (compared b)
      rises a b (inl earlier) = grind (arith, nat_tests)
      rises a b (inr (tied, less)) = grind (arith, nat_tests)

  pub found_by : (k : ℕ) (entry : Entry) → k < length entries → ((d : Entry) → slice_index_or entries k d ≡ entry) → compared entry ≡ Equal → entries_of entries cell tick ≡ Some entry.label
  found_by k entry within at equal = entries_of-some entries cell tick k entry rising within at (of_state entry equal)
    where
      of_state : (e : Entry) → compared e ≡ Equal → IsOf cell tick e
      of_state e equal = grind (arith, nat_tests)

  pub none_by : (place : ℕ) → IsBinarySearchResult compared entries (Err place) → entries_of entries cell tick ≡ None
  none_by place parted = entries_of-none entries cell tick (λ k d within is. elim (cases_lt k place) [
    | inl below ↦ less (slice_index_or entries k d) ((parted compared_rise).0 k d (omega arith) below) is
    | inr past ↦ more (slice_index_or entries k d) ((parted compared_rise).1 k d past within) is
  ])
    where
      less : (e : Entry) → compared e ≡ Less → IsOf cell tick e → ⊥
      less e before (same, tied) = grind (arith, nat_tests)

      more : (e : Entry) → compared e ≡ Greater → IsOf cell tick e → ⊥
      more e after (same, tied) = grind (arith, nat_tests)

module _ (task : Task) (entries : List Entry) (rising : AllPairs IsBefore entries) where
  -- entries that are sound one by one are sound
  pub AreSound-each : ((k : ℕ) (d : Entry) → k < length entries → IsSoundAmong task entries (slice_index_or entries k d)) → AreSound task (entries_of entries)
  AreSound-each each cell tick label e =
      let (k, within, is) = listed_is_contained entries cell tick label e in
      subst (λ (x : Entry). IsSoundAmong task entries x) is (each k (entry_with cell tick label) within)

  pub IsSoundAmong-at : (k : ℕ) (entry : Entry) → slice_get entries k ≡ Some entry → AreSound task (entries_of entries) → IsSoundAmong task entries entry
  IsSoundAmong-at k entry is sound = sound entry.cell entry.tick entry.label (entries_of-some entries entry.cell entry.tick k entry rising (slice_get_within entries k entry is) (λ d. get_or_from_slice_get entries k entry d is) (refl, refl))

-- the label of a listed state is that of some entry
pub listed_all : (P : Entry → Type 0) (entries : List Entry) (cell tick : ℕ) (label : Label) → All P entries → entries_of entries cell tick ≡ Some label → P (entry_with cell tick label)
listed_all P entries cell tick label all found = All-contains P entries (entry_with cell tick label) all (listed_is_contained entries cell tick label found)
