-- The lines of a certificate of version 3: how they are spelled, and in which ranges.
use Rattle.std.specs.Prelude.{ℕ, ◌<◌, ◌≤◌, ◌*◌, ⊤, List, [], ◌∷◌, ◌++◌, codes, Option, Some, None}
use Rattle.mapf_model.specs.declared.item.Claim.TheVariants as claims
use Rattle.mapf_model.specs.declared.label.Label.{Label}
use Rattle.mapf_model.specs.declared.label.Label.TheVariants as labels
use Rattle.mapf_model.specs.Limits.{most_agents, greatest_cost, greatest_sum, last_split_tick}
use Rattle.mapf_model.specs.Printed.{IsClaimInRange}
use Rattle.mapf_lemmas.specs.declared.constraint.PathConstraint.{PathConstraint}
use Rattle.mapf_lemmas.specs.declared.constraint.PathConstraint.TheVariants as constraints
use Rattle.mapf_lemmas.specs.declared.joint.JointState.{JointState}
use Rattle.mapf_lemmas.specs.declared.joint.JointState.TheVariants as states
use Rattle.mapf_lemmas.specs.declared.price.Price.{Price}
use Rattle.mapf_lemmas.specs.declared.price.Price.TheVariants as prices
use Rattle.mapf_fields.specs.Numbers.{field, pair}
use Rattle.mapf_lemma_texts.specs.declared.line.LemmaLine.{LemmaLine}
use Rattle.mapf_lemma_texts.specs.declared.line.LemmaLine.TheVariants as lines
use Rattle.mapf_lemma_texts.specs.declared.sizes.LineSizes.{LineSizes}
use Rattle.mapf_lemma_texts.specs.declared.sizes.LinePlace.{LinePlace}
use Rattle.mapf_lemma_texts.specs.declared.sizes.LinePlace.TheVariants as places
use Rattle.mapf_lemma_texts.specs.Ranges.{most_listed, most_constraints, most_uses, greatest_weight, last_cost_split}
use Rattle.mapf_lemma_texts.specs.Ranges.{IsOneTo, IsAmountTo, IsListNumber, IsPriceInRange, IsConstraintInRange}
use Rattle.mapf_lemma_texts.specs.Ranges.{IsPricedEntryInRange, IsJointEntryInRange}

-- the greatest number of bytes of a line with its LF on a page: a word, and seven fields of any numbers
abbrev pub line_room : ℕ
line_room = 168

-- a blank and an amount
abbrev pub amount_words : Label → List ℕ
amount_words (labels.Ticks n) = field 32 n
amount_words labels.Never = codes " inf"

-- a blank and the number of a price list, or `-` without one
abbrev pub list_words : Option ℕ → List ℕ
list_words (Some n) = field 32 n
list_words None = codes " -"

-- the line of a price
abbrev pub price_words : ℕ → Price → List ℕ
price_words width (prices.Cell cell tick amount) =
    codes "price" ++ (pair width cell ++ (field 32 tick ++ field 32 amount))
price_words width (prices.Edge from to tick amount) =
    codes "price" ++ (pair width from ++ (pair width to ++ (field 32 tick ++ field 32 amount)))

-- the line of a constraint of this agent
abbrev pub constraint_words : ℕ → ℕ → PathConstraint → List ℕ
constraint_words width agent (constraints.NotAt cell tick) =
    codes "not" ++ (field 32 agent ++ (pair width cell ++ field 32 tick))
constraint_words width agent (constraints.NotMove from to tick) =
    codes "not" ++ (field 32 agent ++ (pair width from ++ (pair width to ++ field 32 tick)))
constraint_words width agent (constraints.Clear cell tick) =
    codes "clear" ++ (field 32 agent ++ (pair width cell ++ field 32 tick))
constraint_words width agent (constraints.Most ticks) = codes "most" ++ (field 32 agent ++ field 32 ticks)
constraint_words width agent (constraints.Least ticks) = codes "least" ++ (field 32 agent ++ field 32 ticks)

-- the line of a label of two agents
abbrev pub joint_words : ℕ → JointState → ℕ → Label → List ℕ
joint_words width (states.Both first second) tick label =
    codes "at" ++ (pair width first ++ (pair width second ++ (field 32 tick ++ amount_words label)))
joint_words width (states.FirstAlone first) tick label =
    codes "at" ++ (pair width first ++ (codes " *" ++ (field 32 tick ++ amount_words label)))
joint_words width (states.SecondAlone second) tick label =
    codes "at" ++ (codes " *" ++ (pair width second ++ (field 32 tick ++ amount_words label)))

-- a line without its LF, on a grid of this width
abbrev pub words : ℕ → LemmaLine → List ℕ
words width lines.Title = codes "mapf-cert 3"
words width (lines.Agents agents) = codes "agents" ++ field 32 agents
words width (lines.Claim (claims.Cost cost)) = codes "claim cost" ++ field 32 cost
words width (lines.Claim (claims.Bound bound)) = codes "claim bound" ++ field 32 bound
words width (lines.Claim claims.Impossible) = codes "claim impossible"
words width (lines.Prices lists) = codes "prices" ++ field 32 lists
words width (lines.List unit count) = codes "list" ++ (field 32 unit ++ field 32 count)
words width (lines.Price price) = price_words width price
words width (lines.Lemmas lemmas) = codes "lemmas" ++ field 32 lemmas
words width (lines.One agent count entries list_number) =
    codes "one" ++ (field 32 agent ++ (field 32 count ++ (field 32 entries ++ list_words list_number)))
words width (lines.Two first second count first_entries second_entries joint_entries list_number) =
    codes "two" ++ (field 32 first ++ (field 32 second ++ (field 32 count ++ (field 32 first_entries
    ++ (field 32 second_entries ++ (field 32 joint_entries ++ list_words list_number))))))
words width (lines.Never first second count) =
    codes "never" ++ (field 32 first ++ (field 32 second ++ field 32 count))
words width (lines.Cases agents count bound) =
    codes "cases" ++ (field 32 agents ++ (field 32 count ++ amount_words bound))
words width (lines.Agent agent) = codes "agent" ++ field 32 agent
words width (lines.Constraint constraint) = constraint_words width constraint.agent constraint.constraint
words width (lines.At entry) =
    codes "at" ++ (pair width entry.cell ++ (field 32 entry.tick ++ amount_words entry.label))
words width (lines.JointAt entry) = joint_words width entry.state entry.tick entry.label
words width (lines.Cells cells) = codes "cells" ++ (pair width cells.first ++ pair width cells.second)
words width (lines.Vertex i j cell tick) =
    codes "vertex" ++ (field 32 i ++ (field 32 j ++ (pair width cell ++ field 32 tick)))
words width (lines.Swap i j from to tick) =
    codes "swap" ++ (field 32 i ++ (field 32 j ++ (pair width from ++ (pair width to ++ field 32 tick))))
words width (lines.Cost i ticks) = codes "cost" ++ (field 32 i ++ field 32 ticks)
words width (lines.Costs i ticks j least lemma) =
    codes "costs" ++ (field 32 i ++ (field 32 ticks ++ (field 32 j ++ (field 32 least ++ field 32 lemma))))
words width (lines.Clash i j) = codes "clash" ++ (field 32 i ++ field 32 j)
words width (lines.Leaf count groups list_number) =
    codes "leaf" ++ (field 32 count ++ (field 32 groups ++ list_words list_number))
words width (lines.Use lemma) = codes "use" ++ field 32 lemma
words width (lines.Group count divisor) = codes "group" ++ (field 32 count ++ field 32 divisor)
words width (lines.WeightedUse used) = codes "use" ++ (field 32 used.lemma ++ field 32 used.weight)
words width lines.End = codes "end"

-- a line with its LF
abbrev pub line_text : ℕ → LemmaLine → List ℕ
line_text width line = words width line ++ (10 ∷ [])

-- how many cells the grid has
abbrev pub cells_of : LineSizes → ℕ
cells_of sizes = sizes.width * sizes.height

-- a line after the first three, with its numbers in their ranges
abbrev pub IsLaterLine : LineSizes → LemmaLine → Type 0
IsLaterLine sizes lines.Title = ⊥
IsLaterLine sizes (lines.Agents agents) = ⊥
IsLaterLine sizes (lines.Claim claim) = ⊥
IsLaterLine sizes (lines.Prices lists) = lists ≤ most_listed
IsLaterLine sizes (lines.List unit count) = IsOneTo greatest_weight unit × (count ≤ most_listed)
IsLaterLine sizes (lines.Price price) = IsPriceInRange (cells_of sizes) price
IsLaterLine sizes (lines.Lemmas lemmas) = lemmas ≤ most_listed
IsLaterLine sizes (lines.One agent count entries list_number) =
    (agent < sizes.agents) × (count ≤ most_constraints) × (entries ≤ most_listed) × IsListNumber sizes.lists list_number
IsLaterLine sizes (lines.Two first second count first_entries second_entries joint_entries list_number) =
    (first < sizes.agents) × (second < sizes.agents) × (count ≤ most_constraints) × (first_entries ≤ most_listed)
    × (second_entries ≤ most_listed) × (joint_entries ≤ most_listed) × IsListNumber sizes.lists list_number
IsLaterLine sizes (lines.Never first second count) =
    (first < sizes.agents) × (second < sizes.agents) × IsOneTo most_listed count
IsLaterLine sizes (lines.Cases agents count bound) =
    IsOneTo sizes.agents agents × (count ≤ most_constraints) × IsAmountTo greatest_sum bound
IsLaterLine sizes (lines.Agent agent) = agent < sizes.agents
IsLaterLine sizes (lines.Constraint constraint) =
    (constraint.agent < sizes.agents) × IsConstraintInRange (cells_of sizes) constraint.constraint
IsLaterLine sizes (lines.At entry) = IsPricedEntryInRange (cells_of sizes) entry
IsLaterLine sizes (lines.JointAt entry) = IsJointEntryInRange (cells_of sizes) entry
IsLaterLine sizes (lines.Cells cells) = (cells.first < cells_of sizes) × (cells.second < cells_of sizes)
IsLaterLine sizes (lines.Vertex i j cell tick) =
    (i < sizes.agents) × (j < sizes.agents) × (cell < cells_of sizes) × (tick ≤ last_split_tick)
IsLaterLine sizes (lines.Swap i j from to tick) =
    (i < sizes.agents) × (j < sizes.agents) × (from < cells_of sizes) × (to < cells_of sizes)
    × (tick ≤ last_split_tick)
IsLaterLine sizes (lines.Cost i ticks) = (i < sizes.agents) × (ticks ≤ last_cost_split)
IsLaterLine sizes (lines.Costs i ticks j least lemma) =
    (i < sizes.agents) × (ticks ≤ last_cost_split) × (j < sizes.agents) × (least ≤ greatest_cost)
    × (lemma ≤ most_listed)
IsLaterLine sizes (lines.Clash i j) = (i < sizes.agents) × (j < sizes.agents)
IsLaterLine sizes (lines.Leaf count groups list_number) =
    (count ≤ sizes.agents) × (groups ≤ sizes.agents) × IsListNumber sizes.lists list_number
IsLaterLine sizes (lines.Use lemma) = lemma ≤ most_listed
IsLaterLine sizes (lines.Group count divisor) = IsOneTo most_uses count × IsOneTo greatest_weight divisor
IsLaterLine sizes (lines.WeightedUse used) = (used.lemma ≤ most_listed) × IsOneTo greatest_weight used.weight
IsLaterLine sizes lines.End = ⊤

-- the first line
abbrev pub IsTitleLine : LemmaLine → Type 0
IsTitleLine lines.Title = ⊤
IsTitleLine _ = ⊥

-- the line of a number of agents in range
abbrev pub IsAgentsLine : LemmaLine → Type 0
IsAgentsLine (lines.Agents agents) = IsOneTo most_agents agents
IsAgentsLine _ = ⊥

-- the line of a claim in range
abbrev pub IsClaimLine : LemmaLine → Type 0
IsClaimLine (lines.Claim claim) = IsClaimInRange claim
IsClaimLine _ = ⊥

-- a line that may come, with its numbers in their ranges
abbrev pub IsLine : LinePlace → LemmaLine → Type 0
IsLine places.Title line = IsTitleLine line
IsLine places.Agents line = IsAgentsLine line
IsLine places.Claim line = IsClaimLine line
IsLine (places.Later sizes) line = IsLaterLine sizes line

-- the grid's width, by which a line's cells are written as x,y; lines without cells need none
abbrev pub width_of : LinePlace → ℕ
width_of (places.Later sizes) = sizes.width
width_of _ = 1
