-- Labels of two agents: lower bounds on what is left of the sum of their priced costs, if their paths don't conflict.
-- (Own)
use Rattle.std.specs.Prelude.{◌≡◌, ◌≢◌, ℕ, ◌+◌, ◌==◌, ◌&&◌, Bool, false, List, Option, Some, find, option_map}
use Rattle.mapf_lemmas.specs.declared.constraint.PathConstraint.{PathConstraint}
use Rattle.mapf_lemmas.specs.declared.joint.JointEntry.{JointEntry}
use Rattle.mapf_lemmas.specs.declared.joint.JointState.{JointState}
use Rattle.mapf_lemmas.specs.declared.joint.JointState.TheVariants.{Both, FirstAlone, SecondAlone}
use Rattle.mapf_lemmas.specs.Prices.{PriceList, rest_price}
use Rattle.mapf_lemmas.specs.SingleLabels.{Task, IsBarred, MayStep, MayRest, IsListedOr, IsSingleLabel, IsAtMostAfter}
use Rattle.mapf_lemmas.specs.SingleLabels.{AreSound, step_price}
use Rattle.mapf_model.specs.declared.label.Label.{Label}
use Rattle.mapf_model.specs.declared.label.Label.TheVariants.{Ticks}
use Rattle.mapf_model.specs.declared.problem.Agent.{Agent}
use Rattle.mapf_model.specs.Grid.{GridMap, IsFree}
use Rattle.mapf_model.specs.Labels.{Entries, IsAtMost, label_plus}

-- the tasks of two agents on one grid with one list of prices
pub record PairTask : Type 0 where
  pub grid : GridMap
  pub list : PriceList
  pub first : Agent
  pub second : Agent
  pub first_constraints : List PathConstraint
  pub second_constraints : List PathConstraint

-- the task of the first agent
abbrev pub first_task : PairTask → Task
first_task pair =
    record { grid = pair.grid; list = pair.list; agent = pair.first; constraints = pair.first_constraints }

-- the task of the second agent
abbrev pub second_task : PairTask → Task
second_task pair =
    record { grid = pair.grid; list = pair.list; agent = pair.second; constraints = pair.second_constraints }

-- both name the same cells in the same way
abbrev pub is_same_state : JointState → JointState → Bool
is_same_state (Both u v) (Both w x) = (u == w) && (v == x)
is_same_state (FirstAlone u) (FirstAlone w) = u == w
is_same_state (SecondAlone v) (SecondAlone x) = v == x
is_same_state one other = false

-- the entries of a list: the label that it first lists for the joint state
abbrev pub joint_entries_of : List JointEntry → JointState → ℕ → Option Label
joint_entries_of entries state tick =
    option_map (λ entry. entry.label) (find (λ entry. is_same_state entry.state state && (entry.tick == tick)) entries)

-- the cells of the joint state are free
abbrev pub AreFreeCells : GridMap → JointState → Type 0
AreFreeCells grid (Both u v) = IsFree grid u × IsFree grid v
AreFreeCells grid (FirstAlone u) = IsFree grid u
AreFreeCells grid (SecondAlone v) = IsFree grid v

-- labels for some of the states of each agent, and for some of their joint states at ticks
pub record PairEntries : Type 0 where
  pub first : Entries
  pub second : Entries
  pub joint : JointState → ℕ → Option Label

-- the label of a joint state without an entry: the sum of the labels of those that haven't arrived for good
abbrev pub IsJointDefault : PairTask → PairEntries → JointState → ℕ → Label → Type 0
IsJointDefault pair entries (Both u v) tick label =
    (a : Label) × (b : Label) × IsSingleLabel (first_task pair) entries.first u tick a
    × IsSingleLabel (second_task pair) entries.second v tick b × (label ≡ label_plus a b)
IsJointDefault pair entries (FirstAlone u) tick label = IsSingleLabel (first_task pair) entries.first u tick label
IsJointDefault pair entries (SecondAlone v) tick label = IsSingleLabel (second_task pair) entries.second v tick label

-- the label of a joint state
abbrev pub IsJointLabel : PairTask → PairEntries → JointState → ℕ → Label → Type 0
IsJointLabel pair entries state tick label =
    IsListedOr (entries.joint state tick) (IsJointDefault pair entries state tick) label

-- the label is at most the sum of this number and the label of the joint state
abbrev pub IsJointWithin : PairTask → PairEntries → Label → ℕ → JointState → ℕ → Type 0
IsJointWithin pair entries label price state tick = IsAtMostAfter (IsJointLabel pair entries state tick) label price

-- two moves from one tick to the next without a conflict
abbrev pub AreApart : (u v w x : ℕ) → Type 0
AreApart u v w x = (w ≢ x) × ((w ≡ v) × (x ≡ u) → ⊥)

-- a sound entry of two agents that are both on their way: if one may arrive for good, the label is at most the sum of
-- what its rest costs and the label of the other alone; and for all moves that they may make without a conflict it is
-- at most the sum of what the moves cost and the label after them
pub record IsSoundTogether (pair : PairTask) (entries : PairEntries) (u v tick : ℕ) (label : Label) : Type 0 where
  pub first_rests : MayRest (first_task pair) u tick →
      IsJointWithin pair entries label (rest_price pair.list.prices u tick) (SecondAlone v) tick
  pub second_rests : MayRest (second_task pair) v tick →
      IsJointWithin pair entries label (rest_price pair.list.prices v tick) (FirstAlone u) tick
  pub onward : (w x : ℕ) → MayStep (first_task pair) u w tick → MayStep (second_task pair) v x tick →
      AreApart u v w x →
      IsJointWithin pair entries label (step_price pair.list u w tick + step_price pair.list v x tick) (Both w x)
      (tick + 1)

-- a sound entry of one agent while the other rests at its goal: the label is at most what rest costs if the agent may
-- arrive for good; and for each step that it may make, but not into the other's goal, it is at most the sum of what the
-- step costs and the label after it
pub record IsSoundAlone (task : Task) (other_goal : ℕ) (IsWithinAfter : ℕ → ℕ → ℕ → Type 0) (cell tick : ℕ)
    (label : Label) : Type 0 where
  pub at_rest : MayRest task cell tick → IsAtMost label (Ticks (rest_price task.list.prices cell tick))
  pub onward : (next : ℕ) → MayStep task cell next tick → next ≢ other_goal →
      IsWithinAfter (step_price task.list cell next tick) next (tick + 1)

-- a sound entry of a joint state; nothing is asked if both agents are in one cell, if a constraint excludes the state
-- of one that is on its way, or if one is at the goal of the other, which has arrived
abbrev pub IsSoundJointEntry : PairTask → PairEntries → JointState → ℕ → Label → Type 0
IsSoundJointEntry pair entries (Both u v) tick label =
    u ≢ v → (IsBarred (first_task pair) u tick → ⊥) → (IsBarred (second_task pair) v tick → ⊥) →
    IsSoundTogether pair entries u v tick label
IsSoundJointEntry pair entries (FirstAlone u) tick label =
    u ≢ pair.second.goal → (IsBarred (first_task pair) u tick → ⊥) →
    IsSoundAlone (first_task pair) pair.second.goal
    (λ price next later. IsJointWithin pair entries label price (FirstAlone next) later) u tick label
IsSoundJointEntry pair entries (SecondAlone v) tick label =
    v ≢ pair.first.goal → (IsBarred (second_task pair) v tick → ⊥) →
    IsSoundAlone (second_task pair) pair.first.goal
    (λ price next later. IsJointWithin pair entries label price (SecondAlone next) later) v tick label

-- the entries of each agent and of both are sound
pub record AreSoundTogether (pair : PairTask) (entries : PairEntries) : Type 0 where
  pub first : AreSound (first_task pair) entries.first
  pub second : AreSound (second_task pair) entries.second
  pub joint : (state : JointState) (tick : ℕ) (label : Label) → entries.joint state tick ≡ Some label →
      IsSoundJointEntry pair entries state tick label
