-- The order of states: by tick, and then by cell.
use Rattle.std.proofs.Common.{◌≡◌, inl, inr, ◌<◌, Ordering, Less, Equal, Greater, nat_cmp, AllPairs, List, [], ◌∷◌, refl, arith}
use Rattle.std.specs.Cmp.{IsEquivalence, IsTotalOrder, ranks, nat_cmp_total, nat_eq_equiv, on_total, then_total, on_equiv, and_equiv, unsigned_ties}
use Rattle.std.specs.Cmp.Derive.{tie, on_tied, then_tied, alike_tied}
use Rattle.std.specs.List.Sorted.{IsStrictlySortedBy}
use Rattle.std.specs.Ordering.{MatchOrdering, ordering_then, eq_by_cmp}
use Rattle.std.proofs.lemmas.List.Elements.{All-weaker, All-from_recursion}
use Rattle.std.proofs.lemmas.List.Kept.{AllPairs-cons}
use Rattle.mapf_model.specs.declared.state.State.{State}
use Rattle.mapf_spacetime.specs.States.{same_state}
use Rattle.mapf_model.specs.States.{IsEarlier}

abbrev pub state_cmp : State → State → Ordering
state_cmp a b = ordering_then (nat_cmp a.tick b.tick) (nat_cmp a.cell b.cell)

pub states_ordered : IsTotalOrder state_cmp
states_ordered = then_total (on_total (λ s. s.tick) nat_cmp_total) (on_total (λ s. s.cell) nat_cmp_total)

pub states_told_apart : IsEquivalence same_state
states_told_apart = and_equiv (on_equiv (λ s. s.tick) nat_eq_equiv) (on_equiv (λ s. s.cell) nat_eq_equiv)

pub states_tied : (a b : State) → same_state a b ≡ eq_by_cmp state_cmp a b
states_tied = alike_tied (then_tied (on_tied (λ (s : State). s.tick) (tie nat_cmp unsigned_ties)) (on_tied (λ (s : State). s.cell) (tie nat_cmp unsigned_ties))) (λ a b. refl)

earlier : (a b : State) → state_cmp a b ≡ Less → IsEarlier a b
earlier a b e = by_tick (nat_cmp a.tick b.tick) (ranks a.tick b.tick) e
  where
    by_cell : (o : Ordering) → MatchOrdering o (a.cell < b.cell) (a.cell ≡ b.cell) (b.cell < a.cell) → o ≡ Less → a.cell < b.cell
    by_cell Less less f = less
    by_cell Equal same f = cc
    by_cell Greater more f = cc

    by_tick : (o : Ordering) → MatchOrdering o (a.tick < b.tick) (a.tick ≡ b.tick) (b.tick < a.tick) → ordering_then o (nat_cmp a.cell b.cell) ≡ Less → IsEarlier a b
    by_tick Less less f = inl less
    by_tick Equal same f = inr (same, by_cell (nat_cmp a.cell b.cell) (ranks a.cell b.cell) f)
    by_tick Greater more f = cc

pub sorted_rising : (states : List State) → IsStrictlySortedBy state_cmp states → AllPairs IsEarlier states
unfolding IsStrictlySortedBy
sorted_rising [] sorted = λ i j d less within. absurd (omega arith)
sorted_rising (s ∷ states) sorted = AllPairs-cons IsEarlier s states
    (All-weaker (λ t. state_cmp s t ≡ Less) (IsEarlier s) (earlier s) states (All-from_recursion (λ t. state_cmp s t ≡ Less) states sorted.0))
    (sorted_rising states sorted.1)
