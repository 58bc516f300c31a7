-- The labels of joint states by the tasks and the entries of two agents.
use Rattle.std.proofs.Common.{◌≡◌, ◌≢◌, ℕ, ◌-◌, ◌≤◌, Some, None, refl, sym, subst, arith}
use Rattle.mapf_lemmas.specs.declared.joint.JointState.{JointState}
use Rattle.mapf_lemmas.specs.declared.joint.JointState.TheVariants.{Both}
use Rattle.mapf_lemmas.specs.JointLabels.{PairTask, PairEntries, first_task, second_task, IsJointDefault, IsJointLabel, IsJointWithin, IsSoundAlone}
use Rattle.mapf_lemmas.specs.SingleLabels.{Task, IsBarred, IsSingleLabel}
use Rattle.mapf_model.specs.declared.label.Label.{Label}
use Rattle.mapf_lemmas.specs.Amounts.{units_in}
use Rattle.mapf_model.specs.declared.label.Label.TheVariants.{Ticks, Never}
use Rattle.mapf_model.specs.Labels.{IsAtMost, label_plus}
use Rattle.std.proofs.lemmas.Option.{same_Some}
use Rattle.mapf_joint_labels.specs.declared.pair.Pair.{Pair}
use Rattle.mapf_joint_labels.specs.Pairs.{IsPair, IsSoundIn, alone, entry_of_one, lists_of, other_goal, own_task, task_of}
use Rattle.mapf_joint_labels.specs.declared.alone.OnItsWay.{OnItsWay}
use Rattle.mapf_model.specs.Grid.{IsFree}
use Rattle.mapf_joint_labels.specs.declared.pair.Side.{Side}
use Rattle.mapf_joint_labels.specs.declared.pair.Side.TheVariants.{First, Second}

pub first_is : (pair : Pair) → first_task (task_of pair) ≡ pair.first_task.now
first_is pair = refl

pub second_is : (pair : Pair) → IsPair pair → second_task (task_of pair) ≡ pair.second_task.now
second_is pair own =
    let second = pair.second_task.now in
    λ i. record { grid = (sym own.grid) i; list = (sym own.list) i; agent = second.agent; constraints = second.constraints }

-- the label of an entry
pub listed_label : (task : PairTask) (lists : PairEntries) (state : JointState) (tick : ℕ) (label : Label) → lists.joint state tick ≡ Some label → IsJointLabel task lists state tick label
listed_label task lists state tick label is = rw is refl

-- the default
pub default_label : (task : PairTask) (lists : PairEntries) (state : JointState) (tick : ℕ) (label : Label) → lists.joint state tick ≡ None → IsJointDefault task lists state tick label → IsJointLabel task lists state tick label
default_label task lists state tick label is default = rw is default

-- a label that is compared with a sum, by the units of both
pub within_infinite : (label after : Label) (price : ℕ) → units_in after ≡ None → IsAtMost label (label_plus (Ticks price) after)
within_infinite (Ticks m) (Ticks n) price e = absurd cc
within_infinite Never (Ticks n) price e = absurd cc
within_infinite (Ticks m) Never price e = tt
within_infinite Never Never price e = tt

pub infinite_within : (label after : Label) (price n : ℕ) → units_in label ≡ None → units_in after ≡ Some n → IsAtMost label (label_plus (Ticks price) after) → ⊥
infinite_within (Ticks m) (Ticks k) price n e f h = absurd cc
infinite_within (Ticks m) Never price n e f h = absurd cc
infinite_within Never (Ticks k) price n e f h = h
infinite_within Never Never price n e f h = absurd cc

pub within_units : (label after : Label) (price m n : ℕ) → units_in label ≡ Some m → units_in after ≡ Some n → (m - n ≤ price → IsAtMost label (label_plus (Ticks price) after)) × (IsAtMost label (label_plus (Ticks price) after) → m - n ≤ price)
within_units (Ticks a) (Ticks b) price m n e f = let p = same_Some a m e in let q = same_Some b n f in (λ low. omega arith, λ low. omega arith)
within_units (Ticks a) Never price m n e f = absurd cc
within_units Never (Ticks b) price m n e f = absurd cc
within_units Never Never price m n e f = absurd cc

-- both tasks have the list of prices of the pair
pub own_list : (pair : PairTask) (side : Side) → (own_task pair side).list ≡ pair.list
own_list pair First = refl
own_list pair Second = refl

pub own_grid : (pair : PairTask) (side : Side) → (own_task pair side).grid ≡ pair.grid
own_grid pair First = refl
own_grid pair Second = refl

-- what is asked of an entry of one agent on its way
abbrev pub AloneSound : Pair → Side → OnItsWay → Type 0
AloneSound pair side entry =
    entry.cell ≢ other_goal (task_of pair) side → (IsBarred (own_task (task_of pair) side) entry.cell entry.tick → ⊥) →
    IsSoundAlone (own_task (task_of pair) side) (other_goal (task_of pair) side)
    (λ price next later. IsJointWithin (task_of pair) (lists_of pair) entry.label price (alone side next) later) entry.cell entry.tick entry.label

pub to_sound : (pair : Pair) (side : Side) (entry : OnItsWay) → IsFree pair.first_task.now.grid entry.cell → AloneSound pair side entry → IsSoundIn pair (entry_of_one side entry)
to_sound pair First entry free sound = (free, sound)
to_sound pair Second entry free sound = (free, sound)

pub from_sound : (pair : Pair) (side : Side) (entry : OnItsWay) → IsSoundIn pair (entry_of_one side entry) → AloneSound pair side entry
from_sound pair First entry sound = sound.1
from_sound pair Second entry sound = sound.1
