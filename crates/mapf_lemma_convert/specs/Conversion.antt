-- The certificate of version 3 that says what one of version 1 or 2 says. (Own)
use Rattle.std.specs.List.{flat_map}
use Rattle.std.specs.Prelude.{ℕ, ◌+◌, ◌≤◌, List, [], ◌∷◌, ◌++◌, None, All, filter, length, map, is_none}
use Rattle.mapf_model.specs.declared.bar.Bar.{Bar}
use Rattle.mapf_model.specs.declared.bar.Bar.TheVariants.{Cell, Move}
use Rattle.mapf_model.specs.declared.conflict.Conflict.{Conflict}
use Rattle.mapf_model.specs.declared.conflict.Conflict.TheVariants.{Vertex, Swap}
use Rattle.mapf_model.specs.Blocks.{LabelBlock}
use Rattle.mapf_model.specs.Tree.{ConstraintTree, Split, Leaf, Clash, block_of, left_constraint, right_constraint}
use Rattle.mapf_model.specs.Tree.{with_constraint, root, NodeContext, AtEachNode}
use Rattle.mapf_model.specs.Grid.{GridMap}
use Rattle.mapf_model.specs.declared.item.Claim.{Claim}
use Rattle.mapf_lemmas.specs.Cases.{CaseTree}
use Rattle.mapf_lemmas.specs.Cases as cases
use Rattle.mapf_lemmas.specs.Lemmas.{Lemma, One}
use Rattle.mapf_lemmas.specs.declared.constraint.PathConstraint.{PathConstraint}
use Rattle.mapf_lemmas.specs.declared.constraint.PathConstraint.TheVariants.{NotAt, NotMove}
use Rattle.mapf_lemmas.specs.declared.split.Split as split
use Rattle.mapf_lemmas.specs.declared.split.Split.TheVariants as splits
use Rattle.mapf_lemma_convert.specs.declared.node_walk.NumberedLemma.{NumberedLemma}
use Rattle.mapf_lemma_texts.specs.declared.line.LemmaLine.TheVariants as lines
use Rattle.mapf_lemma_texts.specs.Lines.{line_text}
use Rattle.mapf_lemma_texts.specs.PartReading.{header_text}
use Rattle.mapf_lemma_texts.specs.Parts.{part_text}
use Rattle.mapf_lemma_texts.specs.Ranges.{most_constraints, most_listed}
use Rattle.mapf_lemma_texts.specs.WholeTexts.{parts_of}

-- the constraint of version 3 that forbids the same
abbrev pub path_constraint : Bar → PathConstraint
path_constraint (Cell cell tick) = NotAt cell tick
path_constraint (Move from to tick) = NotMove from to tick

-- the constraints of version 3 that forbid the same
abbrev pub path_constraints : List Bar → List PathConstraint
path_constraints bars = map path_constraint bars

-- the split of version 3 on the conflict
abbrev pub split_on : Conflict → split.Split
split_on (Vertex i j cell tick) = splits.Vertex i j cell tick
split_on (Swap i j from to tick) = splits.Swap i j from to tick

-- the lemma of a block at a node with these constraints: it has the block's agent and entries, and all constraints of
-- this agent
abbrev pub lemma_of : (ℕ → List Bar) → LabelBlock → Lemma
lemma_of bars block = One block.agent (path_constraints (bars block.agent)) None block.entries

-- the lemmas of the blocks of a tree whose root has these constraints: the nodes in pre-order, and the blocks of each
-- in their order
abbrev pub lemmas_from : (ℕ → List Bar) → ConstraintTree → List Lemma
lemmas_from bars (Split conflict blocks left right) =
    map (lemma_of bars) blocks ++ (lemmas_from (with_constraint bars (left_constraint conflict)) left
    ++ lemmas_from (with_constraint bars (right_constraint conflict)) right)
lemmas_from bars (Leaf blocks) = map (lemma_of bars) blocks
lemmas_from bars (Clash i j) = []

-- the lemmas of a tree
abbrev pub lemmas_of : ConstraintTree → List Lemma
lemmas_of tree = lemmas_from root.bars tree

-- how many blocks a tree has
abbrev pub block_count : ConstraintTree → ℕ
block_count (Split conflict blocks left right) = length blocks + (block_count left + block_count right)
block_count (Leaf blocks) = length blocks
block_count (Clash i j) = 0

-- the lemmas of blocks, numbered from here on
abbrev pub numbered : ℕ → List LabelBlock → List NumberedLemma
numbered first [] = []
numbered first (block ∷ blocks) = record { agent = block.agent; number = first } ∷ numbered (first + 1) blocks

-- the lemmas in force at a node with these blocks, whose first has this number: those of the node, and of those from
-- above those whose agents have no block here
abbrev pub in_force : ℕ → List LabelBlock → List NumberedLemma → List NumberedLemma
in_force first blocks above =
    filter (λ lemma. is_none (block_of blocks lemma.agent)) above ++ numbered first blocks

-- the proof by cases of a tree whose first lemma has this number, below these lemmas in force. A leaf uses those in
-- force
abbrev pub cases_from : ℕ → List NumberedLemma → ConstraintTree → CaseTree
cases_from first above (Split conflict blocks left right) =
    cases.Branch (split_on conflict)
    (cases_from (first + length blocks) (in_force first blocks above) left)
    (cases_from (first + length blocks + block_count left) (in_force first blocks above) right)
cases_from first above (Leaf blocks) =
    cases.Leaf (record {
      list_number = None;
      singles = map (λ lemma. lemma.number) (in_force first blocks above);
      groups = [];
    })
cases_from first above (Clash i j) = cases.Clash i j

-- the proof by cases of a tree
abbrev pub cases_of : ConstraintTree → CaseTree
cases_of tree = cases_from 0 [] tree

-- the block fits into a lemma: it has no more constraints of its agent, and no more entries, than a text may list
abbrev pub BlockFits : NodeContext → LabelBlock → Type 0
BlockFits context block =
    (length (context.bars block.agent) ≤ most_constraints) × (length block.entries ≤ most_listed)

-- each block of the node fits
abbrev pub NodeFits : NodeContext → ConstraintTree → Type 0
NodeFits context (Split conflict blocks left right) = All (BlockFits context) blocks
NodeFits context (Leaf blocks) = All (BlockFits context) blocks
NodeFits context (Clash i j) = Unit {0}

-- the tree can be converted: each block of each node fits, and there are no more blocks than a text may list lemmas
abbrev pub CanBeConverted : ConstraintTree → Type 0
CanBeConverted tree = AtEachNode NodeFits root tree × (block_count tree ≤ most_listed)

-- the text of version 3 that says what the tree says
abbrev pub converted_text : GridMap → ℕ → Claim → ConstraintTree → List ℕ
converted_text grid agents claim tree =
    header_text grid.width agents claim
    ++ (flat_map (part_text grid.width) (parts_of [] (lemmas_of tree) (cases_of tree))
    ++ line_text grid.width lines.End)
