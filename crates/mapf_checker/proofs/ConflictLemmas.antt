-- Conflicts of the agents of a plan.
use Rattle.std.proofs.Common.{◌≡◌, ℕ, ◌+◌, List, Option, None, Some, IfNone, length, sym, ◌∙◌, inl, inr, ⊎_elim}
use Rattle.std.proofs.lemmas.Bool.{cases_eq}
use Rattle.std.proofs.lemmas.Option.{slice_get_within}
use Rattle.mapf_model.specs.Pairs.{EachPair, HoldsOfNoPair}
use Rattle.mapf_model.specs.Path.{at}
use Rattle.mapf_checker.specs.Conflicts.{AreInOneCell, ExchangeCells, AreApartAt}

-- a fact that holds of no pair of which another holds holds of none where that holds of all
pub none_of : {X : Type 0} (found : Option X) (count : ℕ) (Other Fact : ℕ → ℕ → Type 0) → ((i j : ℕ) → Other i j → Fact i j → ⊥) → IfNone found (EachPair Other count) → IfNone found (HoldsOfNoPair Fact count)
none_of (Some x) count Other Fact apart each = tt
none_of None count Other Fact apart each = λ i j order within. apart i j (each i j order within)

pub apart_at : (paths : List (List ℕ)) (tick : ℕ) → HoldsOfNoPair (AreInOneCell paths tick) (length paths) → HoldsOfNoPair (ExchangeCells paths tick) (length paths) → AreApartAt paths tick
apart_at paths tick share exchange i j p q order is_p is_q (inl same) = share i j order (slice_get_within paths j q is_q) (record { first = p; second = q; is_first = is_p; is_second = is_q; same = same })
apart_at paths tick share exchange i j p q order is_p is_q (inr (there, back)) = ⊎_elim
    (λ (stays : at p tick ≡ at p (tick + 1)). share i j order (slice_get_within paths j q is_q) (record { first = p; second = q; is_first = is_p; is_second = is_q; same = stays ∙ back }))
    (λ moves. exchange i j order (slice_get_within paths j q is_q) (record { first = p; second = q; is_first = is_p; is_second = is_q; moves = moves; there = sym back; back = sym there }))
    (cases_eq (at p tick) (at p (tick + 1)))
