-- The order of joint entries, and which of them a run has.
use Rattle.std.specs.Prelude.{◌≡◌, ◌⊎◌, ℕ, ◌<◌, ◌≤◌, ⊤, List, AllPairs, length, slice_index_or}
use Rattle.mapf_lemmas.specs.declared.joint.JointEntry.{JointEntry}
use Rattle.mapf_lemmas.specs.declared.joint.JointState.{JointState}
use Rattle.mapf_lemmas.specs.declared.joint.JointState.TheVariants.{Both, FirstAlone, SecondAlone}
use Rattle.mapf_joint_labels.specs.declared.runs.Run.{Run}

-- those of two agents on their way come first, then those of the second alone, then those of the first alone; within
-- each they rise by the number of the first cell, and then by that of the second
abbrev pub IsStateBefore : JointState → JointState → Type 0
IsStateBefore (Both u v) (Both w x) = (u < w) ⊎ ((u ≡ w) × (v < x))
IsStateBefore (Both u v) (SecondAlone x) = ⊤
IsStateBefore (Both u v) (FirstAlone w) = ⊤
IsStateBefore (SecondAlone v) (Both w x) = ⊥
IsStateBefore (SecondAlone v) (SecondAlone x) = v < x
IsStateBefore (SecondAlone v) (FirstAlone w) = ⊤
IsStateBefore (FirstAlone u) (Both w x) = ⊥
IsStateBefore (FirstAlone u) (SecondAlone x) = ⊥
IsStateBefore (FirstAlone u) (FirstAlone w) = u < w

-- by tick, and at one tick by state
abbrev pub IsEarlierState : JointState → ℕ → JointState → ℕ → Type 0
IsEarlierState one now other then = (now < then) ⊎ ((now ≡ then) × IsStateBefore one other)

-- the order of joint entries
abbrev pub IsJointBefore : JointEntry → JointEntry → Type 0
IsJointBefore a b = IsEarlierState a.state a.tick b.state b.tick

-- the entry is that of the joint state at the tick
abbrev pub IsJointOf : JointState → ℕ → JointEntry → Type 0
IsJointOf state tick entry = (entry.state ≡ state) × (entry.tick ≡ tick)

-- the index is in the run, which is within so many
pub record IsIn (run : Run) (count k : ℕ) : Type 0 where
  pub from : run.begin ≤ k
  pub below : k < run.end
  pub within : run.end ≤ count

-- the joint state's entry at the tick, if there is one, is in the run
abbrev pub Encloses : List JointEntry → Run → JointState → ℕ → Type 0
Encloses entries run state tick =
    (k : ℕ) (d : JointEntry) → k < length entries → IsJointOf state tick (slice_index_or entries k d) →
    IsIn run (length entries) k

-- the entry at this index of a rising list, which is in the run, is that of the joint state at the tick
pub record IsPlaceOf (entries : List JointEntry) (run : Run) (state : JointState) (tick k : ℕ) : Type 0 where
  pub rising : AllPairs IsJointBefore entries
  pub inside : IsIn run (length entries) k
  pub is : (d : JointEntry) → IsJointOf state tick (slice_index_or entries k d)
