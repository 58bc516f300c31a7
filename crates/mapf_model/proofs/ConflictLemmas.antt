-- Conflicts of paths, tick after tick.
use Rattle.std.proofs.Common.{◌≡◌, ℕ, ◌+◌, ◌-◌, ◌<◌, ◌≤◌, min, List, [], Some, All, length, slice_get, slice_index, sym, ◌∙◌, ap, subst, inl, inr, ⊎_elim, arith}
use Rattle.std.proofs.lemmas.Bool.{cases_lt}
use Rattle.std.proofs.lemmas.Option.{slice_get_within, get_or_from_slice_get}
use Rattle.mapf_model.specs.Conflicts.{AreConflictFreeBefore, HaveSomeConflict}
use Rattle.mapf_model.specs.Path.{at}
use Rattle.mapf_model.specs.Plan.{ConflictAt}

ConflictAt-sym : (p q : List ℕ) (tick : ℕ) → ConflictAt p q tick → ConflictAt q p tick
ConflictAt-sym p q tick (inl same) = inl (sym same)
ConflictAt-sym p q tick (inr (there, back)) = inr (sym back, sym there)

-- one tick more without a conflict
pub free_one_more : (paths : List (List ℕ)) (now : ℕ) → AreConflictFreeBefore paths now
    → ((i j : ℕ) (p q : List ℕ) → i < j → slice_get paths i ≡ Some p → slice_get paths j ≡ Some q → ConflictAt p q now → ⊥)
    → AreConflictFreeBefore paths (now + 1)
free_one_more paths now before apart i j tick p q below differ is_p is_q conflict = ⊎_elim
    (λ (earlier : tick < now). before i j tick p q earlier differ is_p is_q conflict)
    (λ (past : now ≤ tick).
    let same : tick ≡ now = omega arith in
    let at_now : ConflictAt p q now = subst (ConflictAt p q) same conflict in
    ⊎_elim
    (λ (less : i < j). apart i j p q less is_p is_q at_now)
    (λ (past : j ≤ i). apart j i q p (omega (arith, past, differ)) is_q is_p (ConflictAt-sym p q now at_now))
    (cases_lt i j))
    (cases_lt tick now)

-- after its last cell an agent stays there
at_rest : (p : List ℕ) (tick end : ℕ) → length p ≤ end → end ≤ tick + 1 → at p tick ≡ at p (end - 1)
at_rest p tick end past late =
    let same : min tick (length p - 1) ≡ min (end - 1) (length p - 1) = omega arith in
    ap (slice_index p) same

-- paths without a conflict up to the end of the longest have none
pub none_after : (paths : List (List ℕ)) (end : ℕ) → 1 ≤ end → All (λ path. length path ≤ end) paths → AreConflictFreeBefore paths end → HaveSomeConflict paths → ⊥
none_after paths end positive all before (i, j, tick, p, q, differ, is_p, is_q, conflict) = ⊎_elim
    (λ (early : tick < end). before i j tick p q early differ is_p is_q conflict)
    (λ (late : end ≤ tick). before i j (end - 1) p q (omega arith) differ is_p is_q (inl (rest late conflict)))
    (cases_lt tick end)
  where
    short : (k : ℕ) (path : List ℕ) → slice_get paths k ≡ Some path → length path ≤ end
    short k path is = subst (λ l. length l ≤ end) (get_or_from_slice_get paths k path [] is) (all k [] (slice_get_within paths k path is))

    rest : end ≤ tick → ConflictAt p q tick → at p (end - 1) ≡ at q (end - 1)
    rest late (inl same) = sym (at_rest p tick end (short i p is_p) (omega arith)) ∙ same ∙ at_rest q tick end (short j q is_q) (omega arith)
    rest late (inr swap) = sym (at_rest p tick end (short i p is_p) (omega arith)) ∙ swap.0 ∙ at_rest q (tick + 1) end (short j q is_q) (omega arith)
