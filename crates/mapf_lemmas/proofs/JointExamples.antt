-- An agent that waits in a row of three cells while the other rests in the middle.
use Rattle.std.proofs.Common.{◌≡◌, ◌≢◌, ℕ, zero, suc, Bool, true, false, cond, [], ◌∷◌, Some, None, refl, sym, inl, inr}
use Rattle.std.proofs.Common.{arith}
use Rattle.std.specs.Prelude.{◌==◌, ◌&&◌, option_map}
use Rattle.std.proofs.lemmas.Bool.{and_parts, eqb-true}
use Rattle.std.proofs.lemmas.Option.{same_Some}
use Rattle.mapf_lemmas.specs.declared.joint.JointEntry.{JointEntry}
use Rattle.mapf_lemmas.specs.declared.joint.JointState.{JointState}
use Rattle.mapf_lemmas.specs.declared.joint.JointState.TheVariants.{Both, FirstAlone, SecondAlone}
use Rattle.mapf_lemmas.specs.Examples.{row_pair, alone_at_start, alone_entries, AloneAvoidsTheOthersGoal}
use Rattle.mapf_lemmas.specs.Examples.{AloneIsNeverInTheOthersGoal}
use Rattle.mapf_lemmas.specs.JointLabels.{joint_entries_of, IsJointWithin, IsSoundJointEntry}
use Rattle.mapf_lemmas.specs.Prices.{no_list}
use Rattle.mapf_lemmas.specs.SingleLabels.{step_price}
use Rattle.mapf_lemmas.proofs.DistanceLemmas.{step_apart, distance_by_walk}
use Rattle.mapf_model.specs.declared.label.Label.{Label}
use Rattle.mapf_model.specs.declared.label.Label.TheVariants.{Ticks}
use Rattle.mapf_model.specs.Distance.{IsDistance}
use Rattle.mapf_model.specs.Examples.{three_cells}
use Rattle.mapf_model.specs.Grid.{IsFree, Step}
use Rattle.mapf_model.proofs.StepLemmas.{step_end}

right_of_0 : Step three_cells 0 1
right_of_0 = inr (record { from_free = refl; to_free = refl; apart = inl (refl, inr refl) })

right_of_1 : Step three_cells 1 2
right_of_1 = inr (record { from_free = refl; to_free = refl; apart = inl (refl, inr refl) })

distance_0_2 : IsDistance three_cells 2 0 2
distance_0_2 = distance_by_walk three_cells 0 2 2 (1, right_of_0, (2, right_of_1, (refl, refl))) refl

no_fourth_cell : (k : ℕ) → IsFree three_cells (suc (suc (suc k))) → ⊥
no_fourth_cell k free = let none : false ≡ true = free in cc

-- it can only wait
waits : (next : ℕ) → Step three_cells 0 next → next ≢ 1 →
    IsJointWithin row_pair alone_entries (Ticks 3) (step_price no_list 0 next 0) (SecondAlone next) 1
waits zero step away = (Ticks 2, (2, distance_0_2, refl), omega arith)
waits (suc zero) step away = absurd (away refl)
waits (suc (suc zero)) step away = absurd (omega (arith, step_apart three_cells 0 2 2 step))
waits (suc (suc (suc k))) step away = absurd (no_fourth_cell k (step_end three_cells 0 (suc (suc (suc k))) step))

start_sound : IsSoundJointEntry row_pair alone_entries (SecondAlone 0) 0 (Ticks 3)
start_sound differ free = record {
  at_rest = λ rest. let there : 0 ≡ 2 = rest.at_goal in absurd (omega arith);
  onward = λ next may away. waits next may.step away;
}

listed_alone : (v tick : ℕ) (label : Label) → joint_entries_of (alone_at_start ∷ []) (SecondAlone v) tick ≡ Some label →
    (0 ≡ v) × (0 ≡ tick) × (Ticks 3 ≡ label)
listed_alone v tick label found = by ((0 == v) && (0 == tick)) refl found
  where
    by : (b : Bool) → ((0 == v) && (0 == tick)) ≡ b →
        option_map (λ (one : JointEntry). one.label) (cond b (Some alone_at_start) None) ≡ Some label →
        (0 ≡ v) × (0 ≡ tick) × (Ticks 3 ≡ label)
    by true is listed =
        let both = and_parts _ _ is in
        (eqb-true 0 v both.0, eqb-true 0 tick both.1, same_Some (Ticks 3) label listed)
    by false is listed = absurd cc

each_sound : (state : JointState) (tick : ℕ) (label : Label) → alone_entries.joint state tick ≡ Some label →
    IsSoundJointEntry row_pair alone_entries state tick label
each_sound (Both u v) tick label found = absurd cc
each_sound (FirstAlone u) tick label found = absurd cc
each_sound (SecondAlone v) tick label found =
    let same = listed_alone v tick label found in
    rw (sym same.0, sym same.1, sym same.2) start_sound

pub alone_avoids_the_others_goal : AloneAvoidsTheOthersGoal
alone_avoids_the_others_goal = record {
  first = λ cell tick label found. absurd cc;
  second = λ cell tick label found. absurd cc;
  joint = each_sound;
}

pub alone_is_never_in_the_others_goal : AloneIsNeverInTheOthersGoal
alone_is_never_in_the_others_goal differ = absurd (differ refl)
