-- Marks by which the joint entries of one tick are found.
use Rattle.std.specs.Prelude.{◌≡◌, ℕ, ◌<◌, ◌≤◌, List, length, slice_index_or}
use Rattle.mapf_lemmas.specs.declared.joint.JointEntry.{JointEntry}
use Rattle.mapf_lemmas.specs.declared.joint.JointState.TheVariants.{Both}
use Rattle.mapf_joint_labels.specs.declared.runs.Run.{Run}
use Rattle.mapf_joint_labels.specs.JointOrder.{IsIn}
use Rattle.mapf_joint_labels.specs.Runs.{run_of}

-- a run for each cell, and the tick whose entries are marked
pub record Marks : Type 0 where
  pub runs : List Run
  pub tick : ℕ

-- before this index the entries are of earlier ticks, and from it on of this tick or of later ones
pub record PartsAt (entries : List JointEntry) (place tick : ℕ) : Type 0 where
  pub within : place ≤ length entries
  pub before : (k : ℕ) (d : JointEntry) → k < place → (slice_index_or entries k d).tick < tick
  pub others : (k : ℕ) (d : JointEntry) → place ≤ k → k < length entries → tick ≤ (slice_index_or entries k d).tick

-- of the entries of both agents from the one index on, below the other, the run of the first cell ends after each
abbrev pub AreEnded : List JointEntry → List Run → ℕ → ℕ → Type 0
AreEnded entries runs from to =
    (k u v : ℕ) → from ≤ k → k < to → ((d : JointEntry) → (slice_index_or entries k d).state ≡ Both u v) →
    u < length runs → (k < (run_of runs u).end) × ((run_of runs u).end ≤ length entries)

-- and begins no later than it
abbrev pub AreBegun : List JointEntry → List Run → ℕ → ℕ → Type 0
AreBegun entries runs from to =
    (k u v : ℕ) → from ≤ k → k < to → ((d : JointEntry) → (slice_index_or entries k d).state ≡ Both u v) →
    u < length runs → (run_of runs u).begin ≤ k

-- each entry of both agents at the marks' tick whose first cell has a run is in it
abbrev pub IsMarking : List JointEntry → Marks → Type 0
IsMarking entries marks =
    (k u v : ℕ) → k < length entries → ((d : JointEntry) → (slice_index_or entries k d).state ≡ Both u v) →
    ((d : JointEntry) → (slice_index_or entries k d).tick ≡ marks.tick) → u < length marks.runs →
    IsIn (run_of marks.runs u) (length entries) k
