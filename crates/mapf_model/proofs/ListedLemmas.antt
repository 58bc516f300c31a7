-- The labels that a rising list gives states.
use Rattle.std.proofs.Common.{◌≡◌, ◌⊎◌, ℕ, zero, suc, ◌<◌, true, false, ◌&&◌, ◌==◌, List, [], ◌∷◌, Some, Contains, AllPairs, slice_index_or, refl, ap, inl, inr, ⊎_elim, arith}
use Rattle.std.proofs.lemmas.Bool.{cases_eq, eq-eqb, ne_eqb}
use Rattle.std.proofs.lemmas.Option.{same_Some}
use Rattle.mapf_model.specs.declared.label.Entry.{Entry}
use Rattle.mapf_model.specs.declared.label.Label.{Label}
use Rattle.mapf_model.specs.Labels.{entries_of}
use Rattle.mapf_model.specs.Printed.{IsBefore}
use Rattle.mapf_model.proofs.ContainsLemmas.{Contains-cons_new, Contains-cons_old}

-- an entry is of the state, or the test of both numbers fails
of_state : (a b c d : ℕ) → ((a ≡ b) × (c ≡ d) × (((a == b) && (c == d)) ≡ true)) ⊎ (((a == b) && (c == d)) ≡ false)
of_state a b c d = ⊎_elim
    (λ (same : a ≡ b). ⊎_elim
    (λ (also : c ≡ d). inl (same, also, rw (eq-eqb a b same, eq-eqb c d also) refl))
    (λ (other : c ≡ d → ⊥). inr (rw (eq-eqb a b same, ne_eqb c d other) refl))
    (cases_eq c d))
    (λ (other : a ≡ b → ⊥). inr (rw (ne_eqb a b other) refl))
    (cases_eq a b)

-- the state of the entry
at_state : (entry : Entry) (cell tick : ℕ) (label : Label) → entry.cell ≡ cell → entry.tick ≡ tick → entry.label ≡ label → entry ≡ record { cell = cell; tick = tick; label = label }
at_state entry cell tick label a b c = rw (← a, ← b, ← c) refl

pub listed_is_contained : (entries : List Entry) (cell tick : ℕ) (label : Label) → entries_of entries cell tick ≡ Some label → Contains entries (record { cell = cell; tick = tick; label = label })
listed_is_contained [] cell tick label found = absurd cc
listed_is_contained (entry ∷ entries) cell tick label found = ⊎_elim
    (λ (here : (entry.cell ≡ cell) × (entry.tick ≡ tick) × (((entry.cell == cell) && (entry.tick == tick)) ≡ true)).
    let first : Some entry.label ≡ Some label = rw here.2 at found in
    rw (← at_state entry cell tick label here.0 here.1 (same_Some entry.label label first)) (Contains-cons_new entry entries))
    (λ (other : ((entry.cell == cell) && (entry.tick == tick)) ≡ false).
    let later : entries_of entries cell tick ≡ Some label = rw other at found in
    Contains-cons_old entry (record { cell = cell; tick = tick; label = label }) entries (listed_is_contained entries cell tick label later))
    (of_state entry.cell cell entry.tick tick)

not_before : (a b : Entry) → IsBefore a b → a.cell ≡ b.cell → a.tick ≡ b.tick → ⊥
not_before a b before cells ticks = ⊎_elim
    (λ (early : a.tick < b.tick). omega arith)
    (λ (same : (a.tick ≡ b.tick) × (a.cell < b.cell)). let low = same.1 in omega arith)
    before

pub contained_is_listed : (entries : List Entry) → AllPairs IsBefore entries → (cell tick : ℕ) (label : Label) → Contains entries (record { cell = cell; tick = tick; label = label }) → entries_of entries cell tick ≡ Some label
contained_is_listed [] rising cell tick label (k, within, is) = absurd (omega arith)
contained_is_listed (entry ∷ entries) rising cell tick label (zero, within, is) =
    let cells : entry.cell ≡ cell = ap (λ e. e.cell) is in
    let ticks : entry.tick ≡ tick = ap (λ e. e.tick) is in
    let labels : entry.label ≡ label = ap (λ e. e.label) is in
    rw (eq-eqb entry.cell cell cells, eq-eqb entry.tick tick ticks) (ap Some labels)
contained_is_listed (entry ∷ entries) rising cell tick label (suc k, within, is) =
    let later : Entry = record { cell = cell; tick = tick; label = label } in
    let before : IsBefore entry (slice_index_or entries k later) = rising 0 (suc k) later (omega arith) within in
    let apart : IsBefore entry later = rw is at before in
    ⊎_elim
    (λ (here : (entry.cell ≡ cell) × (entry.tick ≡ tick) × (((entry.cell == cell) && (entry.tick == tick)) ≡ true)). absurd (not_before entry later apart here.0 here.1))
    (λ (other : ((entry.cell == cell) && (entry.tick == tick)) ≡ false).
    rw other (contained_is_listed entries (λ i j d lt inside. rising (suc i) (suc j) d (omega arith) (omega arith)) cell tick label (k, omega arith, is)))
    (of_state entry.cell cell entry.tick tick)
