-- Entries are found by their marks.
use Rattle.std.proofs.Common.{◌≡◌, ℕ, ◌+◌, ◌-◌, ◌<◌, ◌≤◌, List, None, All, AllPairs, length, slice_index, slice_index_or, sym, ◌∙◌, ap, subst, inl, inr, ⊎_elim, arith}
use Rattle.std.proofs.Math.ListN.{set}
use Rattle.std.proofs.lemmas.Bool.{cases_lt}
use Rattle.std.proofs.lemmas.List.{get_or-set_same, get_or-set_other}
use Rattle.mapf_model.specs.declared.label.Entry.{Entry}
use Rattle.mapf_model.specs.Labels.{entries_of}
use Rattle.mapf_model.specs.Printed.{IsBefore}
use Rattle.mapf_single_labels.specs.Marks.{AreMarked, AreNotEarlier}
use Rattle.mapf_single_labels.specs.Marks.{IsOf}
use Rattle.mapf_single_labels.proofs.EntryLemmas.{entries_of-none}

-- if an entry isn't of an earlier tick, those after it aren't either
pub not_earlier_from : (entries : List Entry) → AllPairs IsBefore entries → (place tick : ℕ) (entry : Entry) → place < length entries → ((d : Entry) → slice_index_or entries place d ≡ entry) → tick ≤ entry.tick → AreNotEarlier entries place tick
not_earlier_from entries rising place tick entry within at late k d from inside = ⊎_elim
    (λ (past : place < k). later (slice_index_or entries k d) (subst (λ (e : Entry). IsBefore e (slice_index_or entries k d)) (at d) (rising place k d past inside)))
    (λ (here : k ≤ place).
    let same : k ≡ place = omega (arith, from, here) in
    subst (λ n. tick ≤ (slice_index_or entries n d).tick) (sym same) (subst (λ (e : Entry). tick ≤ e.tick) (sym (at d)) late))
    (cases_lt place k)
  where
    later : (b : Entry) → IsBefore entry b → tick ≤ b.tick
    later b (inl p) = omega (arith, p, late)
    later b (inr p) = omega (arith, p.0, late)

-- a state has no entry if none is where the mark of its cell leads
pub none_by_mark : (offsets : List ℕ) (entries : List Entry) (first cell tick : ℕ) → AreMarked offsets entries first tick → All (λ entry. entry.cell < length offsets) entries
    → ((k : ℕ) (d : Entry) → cell < length offsets → k ≡ first + slice_index offsets cell → k < length entries → IsOf cell tick (slice_index_or entries k d) → ⊥)
    → entries_of entries cell tick ≡ None
none_by_mark offsets entries first cell tick marked cells none = entries_of-none entries cell tick (λ k d within is.
    none k d
    (subst (λ n. n < length offsets) is.0 (cells k d within))
    (subst (λ n. k ≡ first + slice_index offsets n) is.0 (marked k d within is.1))
    within is)

-- the next entry of the same tick has a cell of a greater number
pub near_next : (entries : List Entry) → AllPairs IsBefore entries → (place first tick : ℕ) (d : Entry) → place + 1 < length entries → (slice_index_or entries place d).tick ≡ tick → (slice_index_or entries (place + 1) d).tick ≡ tick
    → place ≤ first + (slice_index_or entries place d).cell → place + 1 ≤ first + (slice_index_or entries (place + 1) d).cell
near_next entries rising place first tick d within same next near = by (rising place (place + 1) d (omega arith) within)
  where
    by : IsBefore (slice_index_or entries place d) (slice_index_or entries (place + 1) d) → place + 1 ≤ first + (slice_index_or entries (place + 1) d).cell
    by (inl earlier) = omega (arith, same, next, earlier)
    by (inr (t, less)) = omega (arith, near, less)

-- entries of one tick have different cells
pub other_cell : (entries : List Entry) → AllPairs IsBefore entries → (k place : ℕ) (d : Entry) → k < place → place < length entries → (slice_index_or entries k d).tick ≡ (slice_index_or entries place d).tick
    → (slice_index_or entries k d).cell < (slice_index_or entries place d).cell
other_cell entries rising k place d before within same = by (rising k place d before within)
  where
    by : IsBefore (slice_index_or entries k d) (slice_index_or entries place d) → (slice_index_or entries k d).cell < (slice_index_or entries place d).cell
    by (inl earlier) = omega (arith, same, earlier)
    by (inr (t, less)) = less

-- an entry of the tick that is not before a place stands at it only if the entry there is of the tick
pub at_place : (entries : List Entry) → AllPairs IsBefore entries → (place k tick : ℕ) (d : Entry) → place ≤ k → k < length entries → tick ≤ (slice_index_or entries place d).tick → (slice_index_or entries k d).tick ≡ tick → (slice_index_or entries place d).tick ≡ tick
at_place entries rising place k tick d from within late is = ⊎_elim
    (λ (past : place < k). by (rising place k d past within))
    (λ (here : k ≤ place). let same : place ≡ k = omega (arith, from, here) in subst (λ n. (slice_index_or entries n d).tick ≡ tick) (sym same) is)
    (cases_lt place k)
  where
    by : IsBefore (slice_index_or entries place d) (slice_index_or entries k d) → (slice_index_or entries place d).tick ≡ tick
    by (inl earlier) = omega (arith, earlier, is, late)
    by (inr (t, less)) = t ∙ is

-- one more entry of the tick is marked
pub marked_more : (offsets : List ℕ) (entries : List Entry) → AllPairs IsBefore entries → (first place tick number : ℕ) → first ≤ place → place < length entries
    → ((k : ℕ) (d : Entry) → first ≤ k → k < place + 1 → (slice_index_or entries k d).tick ≡ tick) → ((d : Entry) → number ≡ (slice_index_or entries place d).cell) → number < length offsets
    → ((k : ℕ) (d : Entry) → first ≤ k → k < place → k ≡ first + slice_index offsets (slice_index_or entries k d).cell)
    → (k : ℕ) (d : Entry) → first ≤ k → k < place + 1 → k ≡ first + slice_index (set offsets number (place - first)) (slice_index_or entries k d).cell
marked_more offsets entries rising first place tick number low within same is inside marked k d from below = ⊎_elim
    (λ (before : k < place).
    let less = other_cell entries rising k place d before within (same k d from below ∙ sym (same place d low (omega arith))) in
    let number_is = is d in
    let kept = get_or-set_other offsets number (slice_index_or entries k d).cell (place - first) 0 (λ e. omega (arith, less, number_is, e)) in
    marked k d from before ∙ ap (λ n. first + n) (sym kept))
    (λ (past : place ≤ k).
    let here : k ≡ place = omega (arith, past, below) in
    let cell : number ≡ (slice_index_or entries k d).cell = is d ∙ ap (λ n. (slice_index_or entries n d).cell) (sym here) in
    let new = get_or-set_same offsets number (place - first) 0 inside in
    let sum : k ≡ first + (place - first) = omega (arith, here, low) in
    sum ∙ ap (λ n. first + n) (sym new) ∙ ap (λ n. first + slice_index (set offsets number (place - first)) n) cell)
    (cases_lt k place)
