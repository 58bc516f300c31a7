-- Sound labels of two agents bound what is left of the sum of their priced costs.
use Rattle.std.proofs.Common.{◌≡◌, ◌≢◌, ℕ, zero, suc, ◌+◌, ◌≤◌, List, Option, Some, None, Contains, length, refl, sym, ◌∙◌, ap, inl, inr, arith}
use Rattle.mapf_lemmas.specs.Constraints.{SatisfiesAll}
use Rattle.mapf_lemmas.specs.Laws.{DoNotConflict}
use Rattle.mapf_lemmas.specs.Prices.{rest_price, cell_price, priced_cost}
use Rattle.mapf_lemmas.specs.SingleLabels.{Task, IsBarred, IsListedOr, IsSingleLabel, AreSound, step_price}
use Rattle.mapf_lemmas.specs.declared.joint.JointState.TheVariants.{Both, FirstAlone, SecondAlone}
use Rattle.mapf_lemmas.specs.JointLabels.{PairTask, PairEntries, first_task, second_task, IsJointDefault, IsJointLabel, AreApart, IsSoundTogether, IsSoundAlone, AreSoundTogether}
use Rattle.mapf_lemmas.specs.declared.joint.JointCell.{JointCell}
use Rattle.mapf_lemmas.specs.JointCells.{IsClosed}
use Rattle.mapf_lemmas.proofs.PriceLemmas.{left, left_after_step, rest_is_left, paid_at_start}
use Rattle.mapf_lemmas.proofs.SingleLemmas.{within_bound, at_most_later, plus_bound, free, may_rest, may_step, label_left}
use Rattle.mapf_model.specs.declared.label.Label.{Label}
use Rattle.mapf_model.specs.declared.label.Label.TheVariants.{Ticks, Never}
use Rattle.mapf_model.specs.declared.problem.Agent.{Agent}
use Rattle.mapf_model.specs.Grid.{GridMap, Step}
use Rattle.mapf_model.specs.Path.{at, RestsFrom, IsLawful}
use Rattle.mapf_model.specs.Labels.{Entries, IsAtMost, label_plus}
use Rattle.mapf_model.proofs.LabelLemmas.{lawful_rests}

sum_bound : (a b : Label) (m n : ℕ) → IsAtMost a (Ticks m) → IsAtMost b (Ticks n) → IsAtMost (label_plus a b) (Ticks (m + n))
sum_bound (Ticks a) (Ticks b) m n p q = omega arith
sum_bound (Ticks a) Never m n p q = q
sum_bound Never b m n p q = p

-- one agent on its way while the other rests
module _
    (task : Task) (entries : Entries) (path : List ℕ) (cost : ℕ)
    (sound : AreSound task entries)
    (steps : (tick : ℕ) → Step task.grid (at path tick) (at path (tick + 1)))
    (obeys : SatisfiesAll path cost task.constraints)
    (rests : RestsFrom task.agent.goal path cost)
    (other_goal arrived : ℕ)
    (apart : (tick : ℕ) → arrived ≤ tick → at path tick ≢ other_goal)
    (listed : ℕ → ℕ → Option Label)
  where
    abbrev IsAlone : ℕ → ℕ → Label → Type 0
    IsAlone cell tick label = IsListedOr (listed cell tick) (IsSingleLabel task entries cell tick) label

    abbrev IsWithinAlone : Label → ℕ → ℕ → ℕ → Type 0
    IsWithinAlone label price next later = (after : Label) × IsAlone next later after × IsAtMost label (label_plus (Ticks price) after)

    module _
        (sound_alone : (cell tick : ℕ) (label : Label) → listed cell tick ≡ Some label → cell ≢ other_goal → (IsBarred task cell tick → ⊥) → IsSoundAlone task other_goal (IsWithinAlone label) cell tick label)
      where
        single : (k tick : ℕ) → tick + k ≡ cost → (label : Label) → IsSingleLabel task entries (at path tick) tick label → IsAtMost label (Ticks (left task.list path k tick))
        single k tick e label is = label_left task entries path cost sound steps obeys rests k tick e (entries (at path tick) tick) refl label is

        pub alone_left : (k tick : ℕ) → tick + k ≡ cost → arrived ≤ tick → (entry : Option Label) → listed (at path tick) tick ≡ entry → (label : Label) →
            IsListedOr entry (IsSingleLabel task entries (at path tick) tick) label → IsAtMost label (Ticks (left task.list path k tick))
        alone_left k tick e past None is label default = single k tick e label default
        alone_left zero tick e past (Some entry) is label same =
            let still = rest_is_left task.list.prices path tick (λ later after. rests later (omega arith) ∙ sym (rests tick (omega arith))) in
            let entry_sound = sound_alone (at path tick) tick entry is (apart tick past) (free task entries path cost sound steps obeys rests tick (omega arith)) in
            rw same (at_most_later entry (rest_price task.list.prices (at path tick) tick) _ (entry_sound.at_rest (may_rest task entries path cost sound steps obeys rests tick (omega arith))) (omega (arith, still)))
        alone_left (suc k) tick e past (Some entry) is label same =
            let entry_sound = sound_alone (at path tick) tick entry is (apart tick past) (free task entries path cost sound steps obeys rests tick (omega arith)) in
            let next = entry_sound.onward (at path (tick + 1)) (may_step task entries path cost sound steps obeys rests tick (omega arith)) (apart (tick + 1) (omega arith)) in
            let after = alone_left k (tick + 1) (omega arith) (omega arith) (listed (at path (tick + 1)) (tick + 1)) refl next.0 next.1 in
            let pays = left_after_step task.list.prices path tick in
            rw same (within_bound entry next.0 (step_price task.list (at path tick) (at path (tick + 1)) tick) _ _ next.2 after (omega (arith, pays)))

module _
    (pair : PairTask) (entries : PairEntries) (p q : List ℕ) (c d : ℕ)
    (sound : AreSoundTogether pair entries)
    (p_steps : (tick : ℕ) → Step pair.grid (at p tick) (at p (tick + 1)))
    (q_steps : (tick : ℕ) → Step pair.grid (at q tick) (at q (tick + 1)))
    (p_obeys : SatisfiesAll p c pair.first_constraints)
    (q_obeys : SatisfiesAll q d pair.second_constraints)
    (p_rests : RestsFrom pair.first.goal p c)
    (q_rests : RestsFrom pair.second.goal q d)
    (apart : DoNotConflict p q)
  where
    first_alone : (k tick : ℕ) → tick + k ≡ c → d ≤ tick → (label : Label) → IsJointLabel pair entries (FirstAlone (at p tick)) tick label → IsAtMost label (Ticks (left pair.list p k tick))
    first_alone k tick e past label is =
        alone_left (first_task pair) entries.first p c sound.first p_steps p_obeys p_rests pair.second.goal d
        (λ later after same. apart later (inl (same ∙ sym (q_rests later after))))
        (λ cell now. entries.joint (FirstAlone cell) now) (λ cell now listed found. sound.joint (FirstAlone cell) now listed found)
        k tick e past (entries.joint (FirstAlone (at p tick)) tick) refl label is

    second_alone : (k tick : ℕ) → tick + k ≡ d → c ≤ tick → (label : Label) → IsJointLabel pair entries (SecondAlone (at q tick)) tick label → IsAtMost label (Ticks (left pair.list q k tick))
    second_alone k tick e past label is =
        alone_left (second_task pair) entries.second q d sound.second q_steps q_obeys q_rests pair.first.goal c
        (λ later after same. apart later (inl (p_rests later after ∙ sym same)))
        (λ cell now. entries.joint (SecondAlone cell) now) (λ cell now listed found. sound.joint (SecondAlone cell) now listed found)
        k tick e past (entries.joint (SecondAlone (at q tick)) tick) refl label is

    moves_apart : (tick : ℕ) → AreApart (at p tick) (at q tick) (at p (tick + 1)) (at q (tick + 1))
    moves_apart tick = (λ same. apart (tick + 1) (inl same), λ back. apart tick (inr (sym back.1, back.0)))

    together : (tick : ℕ) → tick ≤ c → tick ≤ d → (entry : Label) → entries.joint (Both (at p tick) (at q tick)) tick ≡ Some entry → IsSoundTogether pair entries (at p tick) (at q tick) tick entry
    together tick before_c before_d entry is =
        sound.joint (Both (at p tick) (at q tick)) tick entry is (λ same. apart tick (inl same))
        (free (first_task pair) entries.first p c sound.first p_steps p_obeys p_rests tick before_c)
        (free (second_task pair) entries.second q d sound.second q_steps q_obeys q_rests tick before_d)

    still_at : (path : List ℕ) (goal cost : ℕ) → RestsFrom goal path cost → (tick : ℕ) → cost ≤ tick → rest_price pair.list.prices (at path tick) tick ≤ left pair.list path 0 tick
    still_at path goal cost rests tick past =
        let still = rest_is_left pair.list.prices path tick (λ later after. rests later (omega arith) ∙ sym (rests tick past)) in
        omega (arith, still)

    -- backwards from the earlier last arrival
    pub both_left : (k l tick : ℕ) → tick + k ≡ c → tick + l ≡ d → (entry : Option Label) → entries.joint (Both (at p tick) (at q tick)) tick ≡ entry → (label : Label) →
        IsListedOr entry (IsJointDefault pair entries (Both (at p tick) (at q tick)) tick) label → IsAtMost label (Ticks (left pair.list p k tick + left pair.list q l tick))
    both_left k l tick e f None is label (a, b, is_a, is_b, same) =
        rw same (sum_bound a b (left pair.list p k tick) (left pair.list q l tick)
        (label_left (first_task pair) entries.first p c sound.first p_steps p_obeys p_rests k tick e (entries.first (at p tick) tick) refl a is_a)
        (label_left (second_task pair) entries.second q d sound.second q_steps q_obeys q_rests l tick f (entries.second (at q tick) tick) refl b is_b))
    both_left zero l tick e f (Some entry) is label same =
        let next = (together tick (omega arith) (omega arith) entry is).first_rests (may_rest (first_task pair) entries.first p c sound.first p_steps p_obeys p_rests tick (omega arith)) in
        let after = second_alone l tick f (omega arith) next.0 next.1 in
        let still = still_at p pair.first.goal c p_rests tick (omega arith) in
        rw same (within_bound entry next.0 (rest_price pair.list.prices (at p tick) tick) _ _ next.2 after (omega (arith, still)))
    both_left (suc k) zero tick e f (Some entry) is label same =
        let next = (together tick (omega arith) (omega arith) entry is).second_rests (may_rest (second_task pair) entries.second q d sound.second q_steps q_obeys q_rests tick (omega arith)) in
        let after = first_alone (suc k) tick e (omega arith) next.0 next.1 in
        let still = still_at q pair.second.goal d q_rests tick (omega arith) in
        rw same (within_bound entry next.0 (rest_price pair.list.prices (at q tick) tick) _ _ next.2 after (omega (arith, still)))
    both_left (suc k) (suc l) tick e f (Some entry) is label same =
        let next = (together tick (omega arith) (omega arith) entry is).onward (at p (tick + 1)) (at q (tick + 1))
        (may_step (first_task pair) entries.first p c sound.first p_steps p_obeys p_rests tick (omega arith))
        (may_step (second_task pair) entries.second q d sound.second q_steps q_obeys q_rests tick (omega arith)) (moves_apart tick) in
        let after = both_left k l (tick + 1) (omega arith) (omega arith) (entries.joint (Both (at p (tick + 1)) (at q (tick + 1))) (tick + 1)) refl next.0 next.1 in
        let p_pays = left_after_step pair.list.prices p tick in
        let q_pays = left_after_step pair.list.prices q tick in
        rw same (within_bound entry next.0 (step_price pair.list (at p tick) (at p (tick + 1)) tick + step_price pair.list (at q tick) (at q (tick + 1)) tick) _ _ next.2 after (omega (arith, p_pays, q_pays)))

    pub both_start : at p 0 ≡ pair.first.start → at q 0 ≡ pair.second.start → (label : Label) → IsJointLabel pair entries (Both pair.first.start pair.second.start) 0 label →
        IsAtMost (label_plus (Ticks (cell_price pair.list.prices pair.first.start 0 + cell_price pair.list.prices pair.second.start 0)) label) (Ticks (priced_cost pair.list p c + priced_cost pair.list q d))
    both_start p_here q_here label is =
        let bound = both_left c d 0 (omega arith) (omega arith) (entries.joint (Both (at p 0) (at q 0)) 0) refl label (rw (p_here, q_here) is) in
        let p_pays = paid_at_start pair.list.prices p in
        let q_pays = paid_at_start pair.list.prices q in
        let p_same = ap (λ cell. cell_price pair.list.prices cell 0) p_here in
        let q_same = ap (λ cell. cell_price pair.list.prices cell 0) q_here in
        plus_bound label _ (left pair.list p c 0 + left pair.list q d 0) _ bound (omega (arith, p_pays, q_pays, p_same, q_same))

-- two paths without a conflict stay in a closed set of joint cells
module _ (grid : GridMap) (first second : Agent) (cells : List JointCell) (p q : List ℕ) (closed : IsClosed grid first second cells) (p_lawful : IsLawful grid first p) (q_lawful : IsLawful grid second q) (apart : DoNotConflict p q) where
  stays : (tick : ℕ) → Contains cells (record { first = at p tick; second = at q tick })
  stays zero = rw (p_lawful.start, q_lawful.start) closed.start
  stays (suc tick) =
      let next : suc tick ≡ tick + 1 = omega arith in
      rw next (closed.onward (at p tick) (at q tick) (at p (tick + 1)) (at q (tick + 1)) (stays tick) (p_lawful.is_path.steps tick) (q_lawful.is_path.steps tick)
      (λ same. apart (tick + 1) (inl same), λ back. apart tick (inr (sym back.1, back.0))))

  pub closed_refuted : ⊥
  closed_refuted =
      let tick : ℕ = length p + length q in
      closed.goal (rw (lawful_rests grid first p p_lawful tick (omega arith), lawful_rests grid second q q_lawful tick (omega arith)) at (stays tick))
