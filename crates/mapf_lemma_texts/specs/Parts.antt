-- The parts of a certificate of version 3: how they are spelled, and in which ranges and orders.
use Rattle.std.specs.Prelude.{◌<◌, ℕ, List, [], ◌∷◌, ◌++◌, All, length}
use Rattle.std.specs.List.{flat_map}
use Rattle.mapf_lemmas.specs.Groups.{Group}
use Rattle.mapf_lemmas.specs.declared.constraint.AgentConstraint.{AgentConstraint}
use Rattle.mapf_lemmas.specs.declared.joint.JointCell.{JointCell}
use Rattle.mapf_lemmas.specs.declared.joint.JointEntry.{JointEntry}
use Rattle.mapf_lemmas.specs.declared.leaf.Use.{Use}
use Rattle.mapf_lemmas.specs.declared.price.Price.{Price}
use Rattle.mapf_lemma_texts.specs.declared.line.LemmaLine.{LemmaLine}
use Rattle.mapf_lemma_texts.specs.declared.line.LemmaLine.TheVariants as lines
use Rattle.mapf_lemma_texts.specs.declared.part.Part.{Part}
use Rattle.mapf_lemma_texts.specs.declared.part.Part.TheVariants as parts
use Rattle.mapf_lemma_texts.specs.declared.sizes.LineSizes.{LineSizes}
use Rattle.mapf_lemma_texts.specs.Lines.{IsLaterLine, line_text}
use Rattle.mapf_lemma_texts.specs.Listing.{AreListed, values_text, IsFirstSmaller, IsOfAgents, FitsAnyhow, InAnyOrder}
use Rattle.mapf_lemma_texts.specs.Places.{IsBefore, IsBeforeUse, price_place, entry_place, joint_place, cells_place}
use Rattle.mapf_model.specs.declared.label.Entry.{Entry}

-- the first line of a part
abbrev pub first_line : Part → LemmaLine
first_line (parts.Prices count) = lines.Prices count
first_line (parts.List list) = lines.List list.unit (length list.prices)
first_line (parts.Lemmas count) = lines.Lemmas count
first_line (parts.One lemma) =
    lines.One lemma.agent (length lemma.constraints) (length lemma.entries) lemma.list_number
first_line (parts.Two lemma) =
    lines.Two lemma.i lemma.j (length lemma.constraints) (length lemma.first) (length lemma.second)
    (length lemma.joint) lemma.list_number
first_line (parts.Never lemma) = lines.Never lemma.i lemma.j (length lemma.cells)
first_line (parts.Cases lemma) = lines.Cases (length lemma.agents) (length lemma.constraints) lemma.bound
first_line (parts.Vertex i j cell tick) = lines.Vertex i j cell tick
first_line (parts.Swap i j from to tick) = lines.Swap i j from to tick
first_line (parts.Cost i ticks) = lines.Cost i ticks
first_line (parts.Costs i ticks j least lemma) = lines.Costs i ticks j least lemma
first_line (parts.Leaf leaf) = lines.Leaf (length leaf.singles) (length leaf.groups) leaf.list_number
first_line (parts.Clash i j) = lines.Clash i j

-- the lines of a group: its divisor, then its uses
abbrev pub group_text : ℕ → Group → List ℕ
group_text width group =
    line_text width (lines.Group (length group.uses) group.divisor) ++ values_text width lines.WeightedUse group.uses

-- the lines of groups
abbrev pub groups_text : ℕ → List Group → List ℕ
groups_text width groups = flat_map (group_text width) groups

-- the lines of a part after its first
abbrev pub more_text : ℕ → Part → List ℕ
more_text width (parts.List list) = values_text width lines.Price list.prices
more_text width (parts.One lemma) =
    values_text width lines.Constraint lemma.constraints ++ values_text width lines.At lemma.entries
more_text width (parts.Two lemma) =
    values_text width lines.Constraint lemma.constraints ++ (values_text width lines.At lemma.first
    ++ (values_text width lines.At lemma.second ++ values_text width lines.JointAt lemma.joint))
more_text width (parts.Never lemma) = values_text width lines.Cells lemma.cells
more_text width (parts.Cases lemma) =
    values_text width lines.Agent lemma.agents ++ values_text width lines.Constraint lemma.constraints
more_text width (parts.Leaf leaf) = values_text width lines.Use leaf.singles ++ groups_text width leaf.groups
more_text width part = []

-- the lines of a part
abbrev pub part_text : ℕ → Part → List ℕ
part_text width part = line_text width (first_line part) ++ more_text width part

-- constraints of these agents, in any order
abbrev pub AreConstraints : LineSizes → List ℕ → List AgentConstraint → Type 0
AreConstraints sizes agents = AreListed AgentConstraint sizes lines.Constraint (IsOfAgents agents) InAnyOrder

-- entries of one agent, in rising order
abbrev pub AreEntries : LineSizes → List Entry → Type 0
AreEntries sizes = AreListed Entry sizes lines.At FitsAnyhow (λ a b. IsBefore (entry_place a) (entry_place b))

-- entries of two agents, in rising order
abbrev pub AreJointEntries : LineSizes → List JointEntry → Type 0
AreJointEntries sizes =
    AreListed JointEntry sizes lines.JointAt FitsAnyhow (λ a b. IsBefore (joint_place a) (joint_place b))

-- a group in range, whose uses rise by the numbers of their lemmas
abbrev pub IsGroupInRange : LineSizes → Group → Type 0
IsGroupInRange sizes group =
    IsLaterLine sizes (lines.Group (length group.uses) group.divisor)
    × AreListed Use sizes lines.WeightedUse FitsAnyhow IsBeforeUse group.uses

-- what the part lists is in range and in order
abbrev pub AreItsLists : LineSizes → Part → Type 0
AreItsLists sizes (parts.List list) =
    AreListed Price sizes lines.Price IsFirstSmaller (λ a b. IsBefore (price_place a) (price_place b)) list.prices
AreItsLists sizes (parts.One lemma) =
    AreConstraints sizes (lemma.agent ∷ []) lemma.constraints × AreEntries sizes lemma.entries
AreItsLists sizes (parts.Two lemma) =
    AreConstraints sizes (lemma.i ∷ lemma.j ∷ []) lemma.constraints × AreEntries sizes lemma.first
    × AreEntries sizes lemma.second × AreJointEntries sizes lemma.joint
AreItsLists sizes (parts.Never lemma) =
    AreListed JointCell sizes lines.Cells FitsAnyhow (λ a b. IsBefore (cells_place a) (cells_place b)) lemma.cells
AreItsLists sizes (parts.Cases lemma) =
    AreListed ℕ sizes lines.Agent FitsAnyhow ◌<◌ lemma.agents × AreConstraints sizes lemma.agents lemma.constraints
AreItsLists sizes (parts.Leaf leaf) =
    AreListed ℕ sizes lines.Use FitsAnyhow ◌<◌ leaf.singles × All (IsGroupInRange sizes) leaf.groups
AreItsLists sizes part = Unit {0}

-- a part with its numbers in their ranges and its lists in their orders
abbrev pub IsPart : LineSizes → Part → Type 0
IsPart sizes part = IsLaterLine sizes (first_line part) × AreItsLists sizes part
