-- What the joint entries of two agents are judged by.
use Rattle.std.specs.Prelude.{◌≡◌, ◌≢◌, ℕ, ◌+◌, ◌<◌, ◌≤◌, All, AllPairs, length, slice_get, slice_index_or, Some}
use Rattle.mapf_lemmas.specs.declared.joint.JointEntry.{JointEntry}
use Rattle.mapf_lemmas.specs.declared.joint.JointState.{JointState}
use Rattle.mapf_lemmas.specs.declared.joint.JointState.TheVariants.{Both, FirstAlone, SecondAlone}
use Rattle.mapf_lemmas.specs.JointLabels.{PairTask, PairEntries, first_task, second_task, joint_entries_of}
use Rattle.mapf_lemmas.specs.JointLabels.{AreFreeCells}
use Rattle.mapf_lemmas.specs.JointLabels.{IsJointWithin, IsSoundJointEntry, AreApart}
use Rattle.mapf_lemmas.specs.Prices.{rest_price}
use Rattle.mapf_lemmas.specs.SingleLabels.{Task, MayStep, MayRest, step_price}
use Rattle.mapf_model.specs.declared.label.Label.TheVariants.{Ticks}
use Rattle.mapf_model.specs.Labels.{entries_of, IsAtMost}
use Rattle.mapf_model.specs.Limits.{greatest_cost}
use Rattle.mapf_model.specs.Printed.{IsBefore}
use Rattle.mapf_single_labels.specs.Marks.{IsMarking as IsSingleMarking}
use Rattle.mapf_single_labels.specs.Ranges.{IsLabelUpTo, IsPricedEntryInRange, greatest_entry_label}
use Rattle.mapf_joint_labels.specs.declared.pair.Pair.{Pair}
use Rattle.mapf_joint_labels.specs.declared.pair.PairMarks.{PairMarks}
use Rattle.mapf_joint_labels.specs.declared.pair.Side.{Side}
use Rattle.mapf_joint_labels.specs.declared.pair.Side.TheVariants.{First, Second}
use Rattle.mapf_joint_labels.specs.declared.alone.OnItsWay.{OnItsWay}
use Rattle.mapf_joint_labels.specs.declared.together.OnTheWay.{OnTheWay}
use Rattle.mapf_joint_labels.specs.JointMarks.{IsMarking}
use Rattle.mapf_joint_labels.specs.JointOrder.{IsJointBefore}

-- the task of both agents
abbrev pub task_of : Pair → PairTask
task_of pair = record {
  grid = pair.first_task.now.grid;
  list = pair.first_task.now.list;
  first = pair.first_task.now.agent;
  second = pair.second_task.now.agent;
  first_constraints = pair.first_task.now.constraints;
  second_constraints = pair.second_task.now.constraints;
}

-- the entries of each agent and of both
abbrev pub lists_of : Pair → PairEntries
lists_of pair = record {
  first = entries_of pair.first.now;
  second = entries_of pair.second.now;
  joint = joint_entries_of pair.joint.now;
}

-- both tasks are on one grid with one list of prices, and the entries rise and are in range
pub record IsPair (pair : Pair) : Type 0 where
  pub grid : pair.second_task.now.grid ≡ pair.first_task.now.grid
  pub list : pair.second_task.now.list ≡ pair.first_task.now.list
  pub rising_first : AllPairs IsBefore pair.first.now
  pub rising_second : AllPairs IsBefore pair.second.now
  pub rising_joint : AllPairs IsJointBefore pair.joint.now
  pub range_first : All IsPricedEntryInRange pair.first.now
  pub range_second : All IsPricedEntryInRange pair.second.now
  pub ticks : All (λ entry. entry.tick ≤ greatest_cost) pair.joint.now
  pub labels : All (λ entry. IsLabelUpTo greatest_entry_label entry.label) pair.joint.now

-- the entries of this tick are marked
pub record AreMarks (pair : Pair) (marks : PairMarks) (tick : ℕ) : Type 0 where
  pub first : IsSingleMarking pair.first.now marks.first
  pub second : IsSingleMarking pair.second.now marks.second
  pub joint : IsMarking pair.joint.now marks.joint
  pub first_tick : marks.first.tick ≡ tick
  pub second_tick : marks.second.tick ≡ tick
  pub joint_tick : marks.joint.tick ≡ tick
  pub cover : length pair.first_task.now.grid.free ≤ length marks.joint.runs

-- if both agents may make these moves, and they are no conflict, the label is at most the sum of what the moves cost
-- and the label after them
abbrev pub HoldsFor : Pair → OnTheWay → ℕ → ℕ → Type 0
HoldsFor pair entry w x =
    MayStep pair.first_task.now entry.cells.first w entry.tick →
    MayStep pair.second_task.now entry.cells.second x entry.tick →
    AreApart entry.cells.first entry.cells.second w x →
    IsJointWithin (task_of pair) (lists_of pair) entry.label
    (step_price pair.first_task.now.list entry.cells.first w entry.tick
    + step_price pair.first_task.now.list entry.cells.second x entry.tick) (Both w x) (entry.tick + 1)

-- if the first agent may arrive for good, the label is at most the sum of what its rest costs and the label of the
-- second alone
abbrev pub RestsFirst : Pair → OnTheWay → Type 0
RestsFirst pair entry =
    MayRest pair.first_task.now entry.cells.first entry.tick →
    IsJointWithin (task_of pair) (lists_of pair) entry.label
    (rest_price pair.first_task.now.list.prices entry.cells.first entry.tick) (SecondAlone entry.cells.second)
    entry.tick

-- the same of the second agent
abbrev pub RestsSecond : Pair → OnTheWay → Type 0
RestsSecond pair entry =
    MayRest pair.second_task.now entry.cells.second entry.tick →
    IsJointWithin (task_of pair) (lists_of pair) entry.label
    (rest_price pair.first_task.now.list.prices entry.cells.second entry.tick) (FirstAlone entry.cells.first) entry.tick

-- the task of the agent on this side
abbrev pub own_task : PairTask → Side → Task
own_task pair First = first_task pair
own_task pair Second = second_task pair

-- the goal of the agent on the other side
abbrev pub other_goal : PairTask → Side → ℕ
other_goal pair First = pair.second.goal
other_goal pair Second = pair.first.goal

-- the joint state in which only the agent on this side is on its way
abbrev pub alone : Side → ℕ → JointState
alone First cell = FirstAlone cell
alone Second cell = SecondAlone cell

-- if the agent may make this step, but not into the other's goal, the label is at most the sum of what the step costs
-- and the label after it
abbrev pub HoldsAlone : Pair → Side → OnItsWay → ℕ → Type 0
HoldsAlone pair side entry next =
    MayStep (own_task (task_of pair) side) entry.cell next entry.tick → next ≢ other_goal (task_of pair) side →
    IsJointWithin (task_of pair) (lists_of pair) entry.label
    (step_price pair.first_task.now.list entry.cell next entry.tick) (alone side next) (entry.tick + 1)

-- if the agent may arrive for good, the label is at most what its rest costs
abbrev pub RestsAlone : Task → OnItsWay → Type 0
RestsAlone task entry =
    MayRest task entry.cell entry.tick →
    IsAtMost entry.label (Ticks (rest_price task.list.prices entry.cell entry.tick))

-- the cells of the entry are free, and it is sound
abbrev pub IsSoundIn : Pair → JointEntry → Type 0
IsSoundIn pair entry =
    AreFreeCells pair.first_task.now.grid entry.state
    × IsSoundJointEntry (task_of pair) (lists_of pair) entry.state entry.tick entry.label

-- the entry of both agents on their way, as a joint entry
abbrev pub entry_of_both : OnTheWay → JointEntry
entry_of_both entry =
    record { state = Both entry.cells.first entry.cells.second; tick = entry.tick; label = entry.label }

-- the entry of one agent on its way, as a joint entry
abbrev pub entry_of_one : Side → OnItsWay → JointEntry
entry_of_one side entry = record { state = alone side entry.cell; tick = entry.tick; label = entry.label }

-- the joint entry at this index isn't sound or names a blocked cell, and those before it are and don't
pub record IsUnsoundAt (pair : Pair) (place : ℕ) : Type 0 where
  pub entry : JointEntry
  pub is_entry : slice_get pair.joint.now place ≡ Some entry
  pub unsound : IsSoundIn pair entry → ⊥
  pub before : (k : ℕ) (d : JointEntry) → k < place → IsSoundIn pair (slice_index_or pair.joint.now k d)

-- the marks of both agents' entries and of the joint ones have room for these entries
pub record HaveRoom (pair : Pair) (marks : PairMarks) : Type 0 where
  pub first : All (λ entry. entry.cell < length marks.first.offsets) pair.first.now
  pub second : All (λ entry. entry.cell < length marks.second.offsets) pair.second.now
  pub joint : length pair.first_task.now.grid.free ≤ length marks.joint.runs
