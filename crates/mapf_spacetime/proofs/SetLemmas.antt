-- A set of states as a list.
use Rattle.std.proofs.Common.{◌≡◌, ℕ, zero, suc, ◌+◌, ◌<◌, Bool, true, false, cond, ◌==◌, List, [], ◌∷◌, ◌++◌, length, slice_index_or, slice_set, take, Contains, refl, sym, ◌∙◌, ap, arith}
use Rattle.std.proofs.lemmas.Grind.{take-set_at}
use Rattle.std.proofs.lemmas.List.{append-nil, append_assoc}
use Rattle.std.proofs.lemmas.List.Elements.{Contains-append_right}
use Rattle.std.proofs.lemmas.Bool.{and_parts, eqb-true, eq-eqb, or_left, or_right}
use Rattle.std.specs.List.{list_any}
use Rattle.indexmap.specs.IndexSet.{insert_key}
use Rattle.indexmap.proofs.CallerLemmas.{Contains-list_any}
use Rattle.mapf_model.specs.declared.state.State.{State}
use Rattle.mapf_spacetime.specs.States.{same_state}

pub same_state-exact : (x y : State) → same_state x y ≡ true → x ≡ y
same_state-exact x y e =
    let (t, c) = and_parts (x.tick == y.tick) (x.cell == y.cell) e in
    let ticks = eqb-true x.tick y.tick t in
    let cells = eqb-true x.cell y.cell c in
    λ i. record { tick = ticks i; cell = cells i }

same_state-refl : (s : State) → same_state s s ≡ true
same_state-refl s = rw (eq-eqb s.tick s.tick refl) (eq-eqb s.cell s.cell refl)

pub Contains-any : (xs : List State) (s : State) → Contains xs s → list_any (same_state s) xs ≡ true
Contains-any xs s (k, lt, is) = by xs k lt is
  where
    by : (ys : List State) (j : ℕ) → j < length ys → slice_index_or ys j s ≡ s → list_any (same_state s) ys ≡ true
    by [] j l e = absurd (omega arith)
    by (y ∷ ys) zero l e = or_left (same_state s y) (list_any (same_state s) ys) (rw e (same_state-refl s))
    by (y ∷ ys) (suc j) l e = or_right (same_state s y) (list_any (same_state s) ys) (by ys j (omega arith) e)

-- a state that isn't an element is added as the last one
pub insert_new : (xs : List State) (s : State) → (Contains xs s → ⊥) → insert_key same_state xs s ≡ xs ++ s ∷ []
insert_new xs s new = by (list_any (same_state s) xs) refl
  where
    by : (b : Bool) → list_any (same_state s) xs ≡ b → cond (list_any (same_state s) xs) xs (xs ++ s ∷ []) ≡ xs ++ s ∷ []
    by true e = absurd (new (Contains-list_any same_state same_state-exact xs s e))
    by false e = rw e refl

-- the last of a set, in the array
pub added_few : (few more : List State) (n : ℕ) (s : State) → n < length few → more ≡ [] → take (n + 1) (slice_set few n s) ++ more ≡ (take n few ++ more) ++ s ∷ []
added_few few more n s within none =
    ap (λ rest. take (n + 1) (slice_set few n s) ++ rest) none ∙ append-nil (take (n + 1) (slice_set few n s)) ∙ take-set_at few n (n + 1) s (omega arith) within
    ∙ ap (λ front. front ++ s ∷ []) (sym (ap (λ rest. take n few ++ rest) none ∙ append-nil (take n few)))

-- and behind the array
pub added_more : (few more new : List State) (s : State) → (Contains (few ++ more) s → ⊥) → new ≡ insert_key same_state more s → few ++ new ≡ (few ++ more) ++ s ∷ []
added_more few more new s fresh is =
    ap (λ rest. few ++ rest) (is ∙ insert_new more s (λ held. fresh (Contains-append_right few more s held))) ∙ sym (append_assoc few more (s ∷ []))
