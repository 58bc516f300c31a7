-- Joint entries in a list that rises.
use Rattle.std.proofs.Common.{◌≡◌, ◌⊎◌, ℕ, zero, suc, ◌<◌, ◌≤◌, true, false, ◌&&◌, ◌==◌, List, [], ◌∷◌, None, Some, AllPairs, Contains, length, slice_index_or, refl, sym, ◌∙◌, ap, subst, inl, inr, ⊎_elim, arith}
use Rattle.std.proofs.lemmas.Bool.{cases_lt, cases_eq, eq-eqb, ne_eqb}
use Rattle.mapf_lemmas.specs.declared.joint.JointEntry.{JointEntry}
use Rattle.mapf_lemmas.specs.declared.joint.JointState.{JointState}
use Rattle.mapf_lemmas.specs.declared.joint.JointState.TheVariants.{Both, FirstAlone, SecondAlone}
use Rattle.mapf_lemmas.specs.JointLabels.{is_same_state, joint_entries_of}
use Rattle.mapf_model.specs.declared.label.Label.{Label}
use Rattle.mapf_model.proofs.ContainsLemmas.{Contains-cons_old}
use Rattle.std.proofs.lemmas.Option.{same_Some}
use Rattle.mapf_joint_labels.specs.declared.runs.Run.{Run}
use Rattle.mapf_joint_labels.specs.JointOrder.{IsStateBefore, IsEarlierState, IsJointBefore, IsJointOf, IsPlaceOf}

state_asym : (a b : JointState) → IsStateBefore a b → IsStateBefore b a → ⊥
state_asym (Both u v) (Both w x) (inl p) (inl q) = omega arith
state_asym (Both u v) (Both w x) (inl p) (inr (e, q)) = omega arith
state_asym (Both u v) (Both w x) (inr (e, p)) (inl q) = omega arith
state_asym (Both u v) (Both w x) (inr (e, p)) (inr (f, q)) = omega (arith, p, q)
state_asym (Both u v) (SecondAlone x) p q = q
state_asym (Both u v) (FirstAlone w) p q = q
state_asym (SecondAlone v) (Both w x) p q = p
state_asym (SecondAlone v) (SecondAlone x) p q = omega arith
state_asym (SecondAlone v) (FirstAlone w) p q = q
state_asym (FirstAlone u) (Both w x) p q = p
state_asym (FirstAlone u) (SecondAlone x) p q = p
state_asym (FirstAlone u) (FirstAlone w) p q = omega arith

pub earlier_asym : (a : JointState) (s : ℕ) (b : JointState) (t : ℕ) → IsEarlierState a s b t → IsEarlierState b t a s → ⊥
earlier_asym a s b t (inl p) (inl q) = omega arith
earlier_asym a s b t (inl p) (inr (e, q)) = omega (arith, p, e)
earlier_asym a s b t (inr (e, p)) (inl q) = omega (arith, e, q)
earlier_asym a s b t (inr (e, p)) (inr (f, q)) = state_asym a b p q

pub tick_no_later : (a : JointState) (s : ℕ) (b : JointState) (t : ℕ) → IsEarlierState a s b t → s ≤ t
tick_no_later a s b t (inl p) = omega (arith, p)
tick_no_later a s b t (inr (e, p)) = omega (arith, e)

-- two joint states are the same, or the test says that they aren't
one_or_two : (a b c d : ℕ) → ((a ≡ b) × (c ≡ d) × (((a == b) && (c == d)) ≡ true)) ⊎ (((a == b) && (c == d)) ≡ false)
one_or_two a b c d = ⊎_elim
    (λ (same : a ≡ b). ⊎_elim
    (λ (also : c ≡ d). inl (same, also, rw (eq-eqb a b same, eq-eqb c d also) refl))
    (λ (other : c ≡ d → ⊥). inr (rw (eq-eqb a b same, ne_eqb c d other) refl))
    (cases_eq c d))
    (λ (other : a ≡ b → ⊥). inr (rw (ne_eqb a b other) refl))
    (cases_eq a b)

two_cells : (u v w x : ℕ) → u ≡ w → v ≡ x → Both u v ≡ Both w x
two_cells u v w x a b = rw (a, b) refl

same_or_not : (a b : JointState) → ((a ≡ b) × (is_same_state a b ≡ true)) ⊎ (is_same_state a b ≡ false)
same_or_not (Both u v) (Both w x) = ⊎_elim (λ same. inl (two_cells u v w x same.0 same.1, same.2)) (λ other. inr other) (one_or_two u w v x)
same_or_not (Both u v) (SecondAlone x) = inr refl
same_or_not (Both u v) (FirstAlone w) = inr refl
same_or_not (SecondAlone v) (Both w x) = inr refl
same_or_not (SecondAlone v) (SecondAlone x) = ⊎_elim (λ (same : v ≡ x). inl (ap SecondAlone same, eq-eqb v x same)) (λ (other : v ≡ x → ⊥). inr (ne_eqb v x other)) (cases_eq v x)
same_or_not (SecondAlone v) (FirstAlone w) = inr refl
same_or_not (FirstAlone u) (Both w x) = inr refl
same_or_not (FirstAlone u) (SecondAlone x) = inr refl
same_or_not (FirstAlone u) (FirstAlone w) = ⊎_elim (λ (same : u ≡ w). inl (ap FirstAlone same, eq-eqb u w same)) (λ (other : u ≡ w → ⊥). inr (ne_eqb u w other)) (cases_eq u w)

same_is_true : (a : JointState) → is_same_state a a ≡ true
same_is_true (Both u v) = rw (eq-eqb u u refl, eq-eqb v v refl) refl
same_is_true (SecondAlone v) = eq-eqb v v refl
same_is_true (FirstAlone u) = eq-eqb u u refl

-- an entry is of the joint state and the tick, or the test fails
of_joint : (state : JointState) (tick : ℕ) (entry : JointEntry) → (IsJointOf state tick entry × ((is_same_state entry.state state && (entry.tick == tick)) ≡ true)) ⊎ ((is_same_state entry.state state && (entry.tick == tick)) ≡ false)
of_joint state tick entry = ⊎_elim
    (λ (same : (entry.state ≡ state) × (is_same_state entry.state state ≡ true)). ⊎_elim
    (λ (now : entry.tick ≡ tick). inl ((same.0, now), rw (same.1, eq-eqb entry.tick tick now) refl))
    (λ (other : entry.tick ≡ tick → ⊥). inr (rw (same.1, ne_eqb entry.tick tick other) refl))
    (cases_eq entry.tick tick))
    (λ (other : is_same_state entry.state state ≡ false). inr (rw other refl))
    (same_or_not entry.state state)

is_of_true : (state : JointState) (tick : ℕ) (entry : JointEntry) → IsJointOf state tick entry → (is_same_state entry.state state && (entry.tick == tick)) ≡ true
is_of_true state tick entry (same, now) = rw (same, same_is_true state, eq-eqb entry.tick tick now) refl

-- no entry of the joint state at the tick
pub joint_none : (entries : List JointEntry) (state : JointState) (tick : ℕ) → ((k : ℕ) (d : JointEntry) → k < length entries → IsJointOf state tick (slice_index_or entries k d) → ⊥) → joint_entries_of entries state tick ≡ None
joint_none [] state tick misses = refl
joint_none (entry ∷ entries) state tick misses = ⊎_elim
    (λ (here : IsJointOf state tick entry × ((is_same_state entry.state state && (entry.tick == tick)) ≡ true)). absurd (misses 0 entry (omega arith) here.0))
    (λ (other : (is_same_state entry.state state && (entry.tick == tick)) ≡ false). rw other (joint_none entries state tick (λ k d within is. misses (suc k) d (omega (arith, within)) is)))
    (of_joint state tick entry)

-- the one entry of the joint state at the tick
pub joint_some : (entries : List JointEntry) (state : JointState) (tick k : ℕ) (entry : JointEntry) → AllPairs IsJointBefore entries → k < length entries → ((d : JointEntry) → slice_index_or entries k d ≡ entry) → IsJointOf state tick entry →
    joint_entries_of entries state tick ≡ Some entry.label
joint_some [] state tick k entry rising within at is = absurd (omega (arith, within))
joint_some (first ∷ entries) state tick zero entry rising within at is =
    let here : first ≡ entry = at first in
    rw (is_of_true state tick first (subst (IsJointOf state tick) (sym here) is)) (ap (λ (e : JointEntry). Some e.label) here)
joint_some (first ∷ entries) state tick (suc k) entry rising within at is =
    let before : IsJointBefore first entry = subst (λ (e : JointEntry). IsJointBefore first e) (at entry) (rising 0 (suc k) entry (omega arith) within) in
    ⊎_elim
    (λ (here : IsJointOf state tick first × ((is_same_state first.state state && (first.tick == tick)) ≡ true)). absurd (same_not_before first entry before (here.0.0 ∙ sym is.0) (here.0.1 ∙ sym is.1)))
    (λ (other : (is_same_state first.state state && (first.tick == tick)) ≡ false).
    rw other (joint_some entries state tick k entry (λ i j d less inside. rising (suc i) (suc j) d (omega (arith, less)) (omega (arith, inside))) (omega (arith, within)) at is))
    (of_joint state tick first)
  where
    same_not_before : (a b : JointEntry) → IsJointBefore a b → a.state ≡ b.state → a.tick ≡ b.tick → ⊥
    same_not_before a b before states ticks =
        let self : IsEarlierState b.state b.tick b.state b.tick = subst (λ t. IsEarlierState b.state t b.state b.tick) ticks (subst (λ s. IsEarlierState s a.tick b.state b.tick) states before) in
        earlier_asym b.state b.tick b.state b.tick self self

-- where a bisection goes on
module _ (entries : List JointEntry) (run : Run) (state : JointState) (tick k middle : ℕ) (is : IsPlaceOf entries run state tick k) (high : middle < run.end) (d : JointEntry) where
  abbrev here : JointEntry
  here = slice_index_or entries middle d

  pub from_middle : (IsEarlierState state tick here.state here.tick → ⊥) → middle ≤ k
  from_middle late = ⊎_elim
      (λ (before : k < middle).
      let order : IsJointBefore (slice_index_or entries k d) here = is.rising k middle d before (let e = is.inside.within in omega (arith, e, high)) in
      absurd (late (subst (λ t. IsEarlierState state t here.state here.tick) (is.is d).1 (subst (λ s. IsEarlierState s (slice_index_or entries k d).tick here.state here.tick) (is.is d).0 order))))
      (λ (past : middle ≤ k). past)
      (cases_lt k middle)

  pub before_middle : IsEarlierState state tick here.state here.tick → k < middle
  before_middle sooner = ⊎_elim
      (λ (before : k < middle). before)
      (λ (past : middle ≤ k). absurd (⊎_elim
      (λ (after : middle < k).
      let order : IsJointBefore here (slice_index_or entries k d) = is.rising middle k d after (let e = is.inside.within in let b = is.inside.below in omega (arith, e, b)) in
      earlier_asym here.state here.tick state tick (subst (λ t. IsEarlierState here.state here.tick state t) (is.is d).1 (subst (λ s. IsEarlierState here.state here.tick s (slice_index_or entries k d).tick) (is.is d).0 order)) sooner)
      (λ (not_after : k ≤ middle).
      let same : k ≡ middle = omega (arith, not_after, past) in
      let of : IsJointOf state tick here = subst (λ n. IsJointOf state tick (slice_index_or entries n d)) same (is.is d) in
      let self : IsEarlierState state tick state tick = subst (λ t. IsEarlierState state tick state t) of.1 (subst (λ s. IsEarlierState state tick s here.tick) of.0 sooner) in
      earlier_asym state tick state tick self self)
      (cases_lt middle k)))
      (cases_lt k middle)

-- ticks don't fall
pub ticks_rise : (entries : List JointEntry) → AllPairs IsJointBefore entries → (j k : ℕ) (d : JointEntry) → j ≤ k → k < length entries → (slice_index_or entries j d).tick ≤ (slice_index_or entries k d).tick
ticks_rise entries rising j k d order within = ⊎_elim
    (λ (less : j < k). tick_no_later _ _ _ _ (rising j k d less within))
    (λ (past : k ≤ j). let same : j ≡ k = omega (arith, past, order) in subst (λ n. (slice_index_or entries j d).tick ≤ (slice_index_or entries n d).tick) same (omega arith))
    (cases_lt j k)

-- a label that is listed is that of an entry of the list
pub joint_listed : (entries : List JointEntry) (state : JointState) (tick : ℕ) (label : Label) → joint_entries_of entries state tick ≡ Some label → Contains entries (record { state = state; tick = tick; label = label })
joint_listed [] state tick label found = absurd cc
joint_listed (entry ∷ entries) state tick label found = ⊎_elim
    (λ (here : IsJointOf state tick entry × ((is_same_state entry.state state && (entry.tick == tick)) ≡ true)).
    let first : Some entry.label ≡ Some label = rw here.1 at found in
    (0, omega arith, entry_is entry state tick label here.0.0 here.0.1 (same_Some entry.label label first)))
    (λ (other : (is_same_state entry.state state && (entry.tick == tick)) ≡ false).
    let later : joint_entries_of entries state tick ≡ Some label = rw other at found in
    Contains-cons_old entry (record { state = state; tick = tick; label = label }) entries (joint_listed entries state tick label later))
    (of_joint state tick entry)
  where
    entry_is : (e : JointEntry) (s : JointState) (t : ℕ) (l : Label) → e.state ≡ s → e.tick ≡ t → e.label ≡ l → e ≡ record { state = s; tick = t; label = l }
    entry_is e s t l a b c = rw (← a, ← b, ← c) refl
