-- The ranges of the numbers in the lines of version 3.
use Rattle.std.specs.Prelude.{ℕ, ◌<◌, ◌≤◌, ⊤, Option, Some, None}
use Rattle.mapf_model.specs.declared.label.Entry.{Entry}
use Rattle.mapf_model.specs.declared.label.Label.{Label}
use Rattle.mapf_model.specs.declared.label.Label.TheVariants as labels
use Rattle.mapf_model.specs.Limits.{greatest_cost, last_split_tick}
use Rattle.mapf_lemmas.specs.declared.constraint.PathConstraint.{PathConstraint}
use Rattle.mapf_lemmas.specs.declared.constraint.PathConstraint.TheVariants as constraints
use Rattle.mapf_lemmas.specs.declared.joint.JointEntry.{JointEntry}
use Rattle.mapf_lemmas.specs.declared.joint.JointState.{JointState}
use Rattle.mapf_lemmas.specs.declared.joint.JointState.TheVariants as states
use Rattle.mapf_lemmas.specs.declared.price.Price.{Price}
use Rattle.mapf_lemmas.specs.declared.price.Price.TheVariants as prices

-- price lists, lemmas, prices, entries and joint cells of a text or of one of its parts; and the number of a lemma
abbrev pub most_listed : ℕ
most_listed = 9999999999

-- constraints of a lemma
abbrev pub most_constraints : ℕ
most_constraints = 1000

-- uses of a group
abbrev pub most_uses : ℕ
most_uses = 200000

-- the unit of a price list, the divisor of a group, and the weight of a use
abbrev pub greatest_weight : ℕ
greatest_weight = 1000

-- a price, in units of its list
abbrev pub greatest_price : ℕ
greatest_price = 9999999

-- a label, in units of a price list
abbrev pub greatest_label : ℕ
greatest_label = 9999999999

-- the greatest cost of a split or of `most`, and the last tick of `clear`
abbrev pub last_cost_split : ℕ
last_cost_split = 9999998

-- 1 to this many
abbrev pub IsOneTo : ℕ → ℕ → Type 0
IsOneTo most n = (1 ≤ n) × (n ≤ most)

-- 1 to this many, or infinitely many
abbrev pub IsAmountTo : ℕ → Label → Type 0
IsAmountTo most (labels.Ticks n) = IsOneTo most n
IsAmountTo most labels.Never = ⊤

-- the number of a price list, if there is one
abbrev pub IsListNumber : ℕ → Option ℕ → Type 0
IsListNumber lists None = ⊤
IsListNumber lists (Some n) = n < lists

-- a price of a cell or an edge: ticks up to 999,999
abbrev pub IsPriceInRange : ℕ → Price → Type 0
IsPriceInRange cells (prices.Cell cell tick amount) =
    (cell < cells) × (tick ≤ last_split_tick) × IsOneTo greatest_price amount
IsPriceInRange cells (prices.Edge from to tick amount) =
    (from < cells) × (to < cells) × (tick ≤ last_split_tick) × IsOneTo greatest_price amount

-- a constraint: ticks up to 999,999 where it is of one tick
abbrev pub IsConstraintInRange : ℕ → PathConstraint → Type 0
IsConstraintInRange cells (constraints.NotAt cell tick) = (cell < cells) × (tick ≤ last_split_tick)
IsConstraintInRange cells (constraints.NotMove from to tick) =
    (from < cells) × (to < cells) × (tick ≤ last_split_tick)
IsConstraintInRange cells (constraints.Clear cell tick) = (cell < cells) × (tick ≤ last_cost_split)
IsConstraintInRange cells (constraints.Most ticks) = ticks ≤ last_cost_split
IsConstraintInRange cells (constraints.Least ticks) = ticks ≤ greatest_cost

-- a label of one agent
abbrev pub IsPricedEntryInRange : ℕ → Entry → Type 0
IsPricedEntryInRange cells entry =
    (entry.cell < cells) × (entry.tick ≤ greatest_cost) × IsAmountTo greatest_label entry.label

-- where two agents are
abbrev pub IsStateInRange : ℕ → JointState → Type 0
IsStateInRange cells (states.Both first second) = (first < cells) × (second < cells)
IsStateInRange cells (states.FirstAlone first) = first < cells
IsStateInRange cells (states.SecondAlone second) = second < cells

-- a label of two agents
abbrev pub IsJointEntryInRange : ℕ → JointEntry → Type 0
IsJointEntryInRange cells entry =
    IsStateInRange cells entry.state × (entry.tick ≤ greatest_cost) × IsAmountTo greatest_label entry.label
