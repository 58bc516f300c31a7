-- The crossing of two agents on a square: the cells after a step, and labels of the starts.
use Rattle.std.proofs.Common.{◌≡◌, ◌≢◌, ◌⊎◌, ℕ, zero, suc, ◌+◌, ◌≤◌, Bool, true, false, cond, [], ◌∷◌, Some, None, Contains, refl, sym, ◌∙◌, subst, inl, inr, arith}
use Rattle.std.specs.Prelude.{◌==◌, ◌&&◌, option_map}
use Rattle.std.proofs.lemmas.Bool.{and_parts, eqb-true}
use Rattle.std.proofs.lemmas.Option.{same_Some}
use Rattle.std.proofs.Math.Bool.{and-false}
use Rattle.mapf_lemmas.specs.declared.joint.JointEntry.{JointEntry}
use Rattle.mapf_lemmas.specs.declared.joint.JointState.{JointState}
use Rattle.mapf_lemmas.specs.declared.joint.JointState.TheVariants.{Both, FirstAlone, SecondAlone}
use Rattle.mapf_lemmas.specs.declared.constraint.PathConstraint.TheVariants.{NotAt}
use Rattle.mapf_lemmas.specs.Constraints.{demanded_cost}
use Rattle.mapf_lemmas.specs.Examples.{at_starts, middle_list, NoGreaterLabelIsSound}
use Rattle.mapf_lemmas.specs.JointLabels.{PairTask, PairEntries, first_task, second_task, joint_entries_of, IsJointLabel, IsSoundTogether, IsSoundJointEntry, AreSoundTogether}
use Rattle.mapf_lemmas.specs.Lemmas.{pair_of}
use Rattle.mapf_lemmas.specs.Prices.{no_list}
use Rattle.mapf_lemmas.specs.SingleLabels.{Task, IsBarred, IsDefault, IsSingleLabel, step_price, IsSoundEntry, AreSound}
use Rattle.mapf_lemmas.proofs.DecidedLemmas.{joint_unique}
use Rattle.mapf_lemmas.proofs.DistanceLemmas.{step_apart, distance_by_walk}
use Rattle.mapf_model.specs.declared.label.Label.{Label}
use Rattle.mapf_model.specs.declared.label.Label.TheVariants.{Ticks}
use Rattle.mapf_model.specs.declared.problem.Agent.{Agent}
use Rattle.mapf_model.specs.Distance.{Walk, IsDistance}
use Rattle.mapf_model.specs.Examples.{open_square, crossing, agent, entry}
use Rattle.mapf_model.specs.Grid.{Step, IsFree}
use Rattle.mapf_model.specs.Labels.{Entries, IsAtMost, label_plus, entries_of}
use Rattle.mapf_model.proofs.ContainsLemmas.{Contains-none, Contains-cons_new}
use Rattle.mapf_model.proofs.ListedLemmas.{listed_is_contained}
use Rattle.mapf_model.proofs.StepLemmas.{step_end}

pub only_member : {X : Type 0} (x y : X) → Contains (x ∷ []) y → x ≡ y
only_member x y (zero, within, is) = is
only_member x y (suc k, within, is) = absurd (omega arith)

-- steps to the right, to the left, down and up
right_of_4 : Step open_square 4 5
right_of_4 = inr (record { from_free = refl; to_free = refl; apart = inl (refl, inr refl) })

pub right_of_3 : Step open_square 3 4
right_of_3 = inr (record { from_free = refl; to_free = refl; apart = inl (refl, inr refl) })

right_of_0 : Step open_square 0 1
right_of_0 = inr (record { from_free = refl; to_free = refl; apart = inl (refl, inr refl) })

left_of_2 : Step open_square 2 1
left_of_2 = inr (record { from_free = refl; to_free = refl; apart = inl (refl, inl refl) })

below_0 : Step open_square 0 3
below_0 = inr (record { from_free = refl; to_free = refl; apart = inr (refl, inr refl) })

above_6 : Step open_square 6 3
above_6 = inr (record { from_free = refl; to_free = refl; apart = inr (refl, inl refl) })

below_1 : Step open_square 1 4
below_1 = inr (record { from_free = refl; to_free = refl; apart = inr (refl, inr refl) })

below_4 : Step open_square 4 7
below_4 = inr (record { from_free = refl; to_free = refl; apart = inr (refl, inr refl) })

walk_4_5 : Walk open_square 4 5 1
walk_4_5 = (5, right_of_4, (refl, refl))

pub walk_3_5 : Walk open_square 3 5 2
walk_3_5 = (4, right_of_3, walk_4_5)

walk_4_7 : Walk open_square 4 7 1
walk_4_7 = (7, below_4, (refl, refl))

walk_1_7 : Walk open_square 1 7 2
walk_1_7 = (4, below_1, walk_4_7)

pub distance_3_5 : IsDistance open_square 5 3 2
distance_3_5 = distance_by_walk open_square 3 5 2 walk_3_5 refl

pub distance_1_7 : IsDistance open_square 7 1 2
distance_1_7 = distance_by_walk open_square 1 7 2 walk_1_7 refl

distance_4_5 : IsDistance open_square 5 4 1
distance_4_5 = distance_by_walk open_square 4 5 1 walk_4_5 refl

distance_4_7 : IsDistance open_square 7 4 1
distance_4_7 = distance_by_walk open_square 4 7 1 walk_4_7 refl

-- the cell has a distance: it is the middle, one step from the goal, or not nearer to the goal than the start is
abbrev IsAfterStep : ℕ → ℕ → Type 0
IsAfterStep goal cell = (d : ℕ) × IsDistance open_square goal cell d × (((cell ≡ 4) × (d ≡ 1)) ⊎ (2 ≤ d))

no_ninth_cell : (k : ℕ) → IsFree open_square (suc (suc (suc (suc (suc (suc (suc (suc (suc k))))))))) → ⊥
no_ninth_cell k free = let none : false ≡ true = free in cc

pub after_step_of_3 : (w : ℕ) → Step open_square 3 w → IsAfterStep 5 w
after_step_of_3 zero step = (3, distance_by_walk open_square 0 5 3 (3, below_0, walk_3_5) refl, inr (omega arith))
after_step_of_3 (suc zero) step = absurd (omega (arith, step_apart open_square 3 1 1 step))
after_step_of_3 (suc (suc zero)) step = absurd (omega (arith, step_apart open_square 3 2 2 step))
after_step_of_3 (suc (suc (suc zero))) step = (2, distance_3_5, inr (omega arith))
after_step_of_3 (suc (suc (suc (suc zero)))) step = (1, distance_4_5, inl (refl, refl))
after_step_of_3 (suc (suc (suc (suc (suc zero))))) step = absurd (omega (arith, step_apart open_square 3 5 5 step))
after_step_of_3 (suc (suc (suc (suc (suc (suc zero)))))) step =
    (3, distance_by_walk open_square 6 5 3 (3, above_6, walk_3_5) refl, inr (omega arith))
after_step_of_3 (suc (suc (suc (suc (suc (suc (suc zero))))))) step = absurd (omega (arith, step_apart open_square 3 7 7 step))
after_step_of_3 (suc (suc (suc (suc (suc (suc (suc (suc zero)))))))) step = absurd (omega (arith, step_apart open_square 3 8 8 step))
after_step_of_3 (suc (suc (suc (suc (suc (suc (suc (suc (suc k))))))))) step =
    absurd (no_ninth_cell k (step_end open_square 3 (suc (suc (suc (suc (suc (suc (suc (suc (suc k))))))))) step))

pub after_step_of_1 : (x : ℕ) → Step open_square 1 x → IsAfterStep 7 x
after_step_of_1 zero step = (3, distance_by_walk open_square 0 7 3 (1, right_of_0, walk_1_7) refl, inr (omega arith))
after_step_of_1 (suc zero) step = (2, distance_1_7, inr (omega arith))
after_step_of_1 (suc (suc zero)) step = (3, distance_by_walk open_square 2 7 3 (1, left_of_2, walk_1_7) refl, inr (omega arith))
after_step_of_1 (suc (suc (suc zero))) step = absurd (omega (arith, step_apart open_square 1 3 3 step))
after_step_of_1 (suc (suc (suc (suc zero)))) step = (1, distance_4_7, inl (refl, refl))
after_step_of_1 (suc (suc (suc (suc (suc zero))))) step = absurd (omega (arith, step_apart open_square 1 5 5 step))
after_step_of_1 (suc (suc (suc (suc (suc (suc zero)))))) step = absurd (omega (arith, step_apart open_square 1 6 6 step))
after_step_of_1 (suc (suc (suc (suc (suc (suc (suc zero))))))) step = absurd (omega (arith, step_apart open_square 1 7 7 step))
after_step_of_1 (suc (suc (suc (suc (suc (suc (suc (suc zero)))))))) step = absurd (omega (arith, step_apart open_square 1 8 8 step))
after_step_of_1 (suc (suc (suc (suc (suc (suc (suc (suc (suc k))))))))) step =
    absurd (no_ninth_cell k (step_end open_square 1 (suc (suc (suc (suc (suc (suc (suc (suc (suc k))))))))) step))

-- without a demand on the cost and with units of a tick, the default of a cell is its distance
default_is : (task : Task) (cell tick d : ℕ) → task.list.unit ≡ 1 → demanded_cost task.constraints ≡ 0 → IsDistance task.grid task.agent.goal cell d → IsDefault task cell tick (Ticks d)
default_is task cell tick d one none is = (d, is, rw (one, none) (omega arith))

-- one agent that may not be in the middle at tick 1
abbrev pub away_task : Agent → Task
away_task a = record { grid = open_square; list = no_list; agent = a; constraints = NotAt 4 1 ∷ [] }

not_near : (next d : ℕ) → next ≢ 4 → ((next ≡ 4) × (d ≡ 1)) ⊎ (2 ≤ d) → 3 ≤ 1 + d
not_near next d elsewhere (inl (middle, one)) = absurd (elsewhere middle)
not_near next d elsewhere (inr far) = omega arith

-- one agent, with the price of the middle
abbrev pub priced_task : Agent → Task
priced_task a = record { grid = open_square; list = middle_list; agent = a; constraints = [] }

price_after : (from next d : ℕ) → ((next ≡ 4) × (d ≡ 1)) ⊎ (2 ≤ d) → 3 ≤ step_price middle_list from next 0 + d
price_after from next d (inl (middle, one)) = rw (middle, one) (omega arith)
price_after from next d (inr far) = omega arith

module _ (a : Agent) (away : a.start ≢ a.goal) (start : IsDistance open_square a.goal a.start 2) (after_step : (next : ℕ) → Step open_square a.start next → IsAfterStep a.goal next) where
  abbrev start_entries : Entries
  start_entries = entries_of (entry a.start 0 (Ticks 3) ∷ [])

  later_default : (task : Task) (next : ℕ) (label : Label) → IsDefault task next 1 label → IsSingleLabel task start_entries next 1 label
  later_default task next label is = rw (and-false (a.start == next)) is

  all_sound : (task : Task) → IsSoundEntry task start_entries a.start 0 (Ticks 3) → AreSound task start_entries
  all_sound task at_start cell tick label found =
      let same = only_member _ _ (listed_is_contained (entry a.start 0 (Ticks 3) ∷ []) cell tick label found) in
      subst (λ one. IsSoundEntry task start_entries one.cell one.tick one.label) same at_start

  pub away_sound : AreSound (away_task a) start_entries
  away_sound = all_sound (away_task a) (record {
    raised = (2, default_is (away_task a) a.start 0 2 refl refl start, omega arith);
    at_rest = λ free rest. absurd (away rest.at_goal);
    onward = λ free next may.
        let found = after_step next may.step in
        let elsewhere = λ (middle : next ≡ 4). may.arrival (NotAt 4 1, Contains-cons_new (NotAt 4 1) [], (sym middle, refl)) in
        (Ticks found.0, later_default (away_task a) next (Ticks found.0) (default_is (away_task a) next 1 found.0 refl refl found.1), not_near next found.0 elsewhere found.2);
  })

  pub priced_sound : AreSound (priced_task a) start_entries
  priced_sound = all_sound (priced_task a) (record {
    raised = (2, default_is (priced_task a) a.start 0 2 refl refl start, omega arith);
    at_rest = λ free rest. absurd (away rest.at_goal);
    onward = λ free next may.
        let found = after_step next may.step in
        (Ticks found.0, later_default (priced_task a) next (Ticks found.0) (default_is (priced_task a) next 1 found.0 refl refl found.1), price_after a.start next found.0 found.2);
  })

-- both agents together
abbrev pub crossing_pair : PairTask
crossing_pair = pair_of crossing no_list 0 1 (agent 3 5) (agent 1 7) []

abbrev pub crossing_entries : ℕ → PairEntries
crossing_entries bound = record { first = entries_of []; second = entries_of []; joint = joint_entries_of (at_starts bound ∷ []) }

joint_after_step : (bound w x d e : ℕ) → IsDistance open_square 5 w d → IsDistance open_square 7 x e → IsJointLabel crossing_pair (crossing_entries bound) (Both w x) 1 (Ticks (d + e))
joint_after_step bound w x d e is_d is_e =
    rw (and-false ((3 == w) && (1 == x)))
    (Ticks d, Ticks e, default_is (first_task crossing_pair) w 1 d refl refl is_d, default_is (second_task crossing_pair) x 1 e refl refl is_e, refl)

not_both : (w x d e : ℕ) → w ≢ x → ((w ≡ 4) × (d ≡ 1)) ⊎ (2 ≤ d) → ((x ≡ 4) × (e ≡ 1)) ⊎ (2 ≤ e) → 3 ≤ d + e
not_both w x d e differ (inl one) (inl other) = absurd (differ (one.0 ∙ sym other.0))
not_both w x d e differ (inl one) (inr far) = let near = one.1 in omega arith
not_both w x d e differ (inr far) (inl other) = let near = other.1 in omega arith
not_both w x d e differ (inr far) (inr further) = omega arith

sound_together : IsSoundTogether crossing_pair (crossing_entries 5) 3 1 0 (Ticks 5)
sound_together = record {
  first_rests = λ rest. let there : 3 ≡ 5 = rest.at_goal in absurd (omega arith);
  second_rests = λ rest. let there : 1 ≡ 7 = rest.at_goal in absurd (omega arith);
  onward = λ w x may_first may_second apart.
      let first = after_step_of_3 w may_first.step in
      let second = after_step_of_1 x may_second.step in
      let sum = not_both w x first.0 second.0 apart.0 first.2 second.2 in
      (Ticks (first.0 + second.0), joint_after_step 5 w x first.0 second.0 first.1 second.1, omega arith);
}

listed_at_starts : (u v tick : ℕ) (label : Label) → joint_entries_of (at_starts 5 ∷ []) (Both u v) tick ≡ Some label → (3 ≡ u) × (1 ≡ v) × (0 ≡ tick) × (Ticks 5 ≡ label)
listed_at_starts u v tick label found = by (((3 == u) && (1 == v)) && (0 == tick)) refl found
  where
    by : (b : Bool) → (((3 == u) && (1 == v)) && (0 == tick)) ≡ b → option_map (λ (one : JointEntry). one.label) (cond b (Some (at_starts 5)) None) ≡ Some label →
        (3 ≡ u) × (1 ≡ v) × (0 ≡ tick) × (Ticks 5 ≡ label)
    by true is listed =
        let both = and_parts _ _ is in
        let cells = and_parts _ _ both.0 in
        (eqb-true 3 u cells.0, eqb-true 1 v cells.1, eqb-true 0 tick both.1, same_Some (Ticks 5) label listed)
    by false is listed = absurd cc

joint_sound : (state : JointState) (tick : ℕ) (label : Label) → (crossing_entries 5).joint state tick ≡ Some label → IsSoundJointEntry crossing_pair (crossing_entries 5) state tick label
joint_sound (Both u v) tick label found =
    let same = listed_at_starts u v tick label found in
    rw (sym same.0, sym same.1, sym same.2, sym same.3) (λ differ free_u free_v. sound_together)
joint_sound (FirstAlone u) tick label found = absurd cc
joint_sound (SecondAlone v) tick label found = absurd cc

pub crossing_sound : AreSoundTogether crossing_pair (crossing_entries 5)
crossing_sound = record {
  first = λ cell tick label found. absurd cc;
  second = λ cell tick label found. absurd cc;
  joint = joint_sound;
}

none_barred : (task : Task) → task.constraints ≡ [] → (cell tick : ℕ) → IsBarred task cell tick → ⊥
none_barred task none cell tick (constraint, held, excludes) = Contains-none constraint (rw none at held)

pub no_greater_label_is_sound : NoGreaterLabelIsSound
no_greater_label_is_sound sound =
    let first = none_barred (first_task crossing_pair) refl in
    let second = none_barred (second_task crossing_pair) refl in
    let together = sound.joint (Both 3 1) 0 (Ticks 6) refl (λ same. absurd (omega arith)) (first 3 0) (second 1 0) in
    let next = together.onward 4 1
    (record { step = right_of_3; arrival = first 4 1; move = Contains-none _ })
    (record { step = inl (refl, refl); arrival = second 1 1; move = Contains-none _ })
    (λ same. absurd (omega arith), λ both. let same : 4 ≡ 1 = both.0 in absurd (omega arith)) in
    let label : next.0 ≡ Ticks 3 = joint_unique crossing_pair (crossing_entries 6) (Both 4 1) 1 next.0 (Ticks 3) next.1 (joint_after_step 6 4 1 1 2 distance_4_5 distance_1_7) in
    let small : 6 ≤ 5 = subst (λ after. IsAtMost (Ticks 6) (label_plus (Ticks 2) after)) label next.2 in
    absurd (omega arith)
