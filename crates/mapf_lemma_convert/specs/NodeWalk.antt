-- How a tree is converted node by node, in pre-order.
use Rattle.std.specs.Prelude.{ℕ, ◌≤◌, ◌==◌, List, [], ◌∷◌, ◌++◌, None, All, filter, length, map}
use Rattle.std.specs.List.{flat_map}
use Rattle.mapf_model.specs.declared.constraint.Constraint.{Constraint}
use Rattle.mapf_model.specs.declared.item.Claim.{Claim}
use Rattle.mapf_model.specs.Blocks.{LabelBlock}
use Rattle.mapf_model.specs.Tree.{Node, SplitNode, LeafNode, ClashNode, blocks_of, left_constraint, right_constraint}
use Rattle.mapf_lemmas.specs.declared.constraint.AgentConstraint.{AgentConstraint}
use Rattle.mapf_lemma_texts.specs.declared.part.Part.{Part}
use Rattle.mapf_lemma_texts.specs.declared.part.Part.TheVariants as parts
use Rattle.mapf_lemma_texts.specs.declared.line.LemmaLine.TheVariants as lines
use Rattle.mapf_lemma_texts.specs.Lines.{line_text}
use Rattle.mapf_lemma_texts.specs.PartReading.{header_text}
use Rattle.mapf_lemma_texts.specs.Parts.{part_text}
use Rattle.mapf_lemma_texts.specs.Ranges.{most_constraints, most_listed}
use Rattle.mapf_lemma_texts.specs.WholeTexts.{constraint_of, split_part}
use Rattle.mapf_lemma_convert.specs.declared.node_walk.NumberedLemma.{NumberedLemma}
use Rattle.mapf_lemma_convert.specs.Conversion.{path_constraint, split_on, in_force}

-- what stands above a node: the constraints made on the way from the root, the last one first, and the lemmas in force
pub record Above : Type 0 where
  pub constraints : List Constraint
  pub in_force : List NumberedLemma

-- above the root there is nothing
abbrev pub above_root : Above
above_root = record { constraints = []; in_force = [] }

-- how far a tree is converted: what stands above each subtree that is still to come, the next first, the parts of the
-- lemmas, and the parts of the proof by cases
pub record Walked : Type 0 where
  pub pending : List Above
  pub lemmas : List Part
  pub cases : List Part

-- no node was converted yet
abbrev pub walk_start : Walked
walk_start = record { pending = above_root ∷ []; lemmas = []; cases = [] }

-- this agent's constraints
abbrev pub own_constraints : ℕ → List Constraint → List AgentConstraint
own_constraints agent constraints =
    map (λ one. constraint_of agent (path_constraint one.bar)) (filter (λ one. agent == one.agent) constraints)

-- the lemma of a block at a node with these constraints
abbrev pub block_part : List Constraint → LabelBlock → Part
block_part constraints block =
    parts.One (record {
      agent = block.agent;
      constraints = own_constraints block.agent constraints;
      list_number = None;
      entries = block.entries;
    })

-- the node of the proof by cases for a node at which these lemmas are in force
abbrev pub case_part : Node → List NumberedLemma → Part
case_part (SplitNode conflict blocks) lemmas = split_part (split_on conflict)
case_part (LeafNode blocks) lemmas =
    parts.Leaf (record { list_number = None; singles = map (λ lemma. lemma.number) lemmas; groups = [] })
case_part (ClashNode i j) lemmas = parts.Clash i j

-- what stands above the children of a node with these constraints, at which these lemmas are in force
abbrev pub children_of : Node → List Constraint → List NumberedLemma → List Above
children_of (SplitNode conflict blocks) constraints lemmas =
    record { constraints = left_constraint conflict ∷ constraints; in_force = lemmas }
    ∷ (record { constraints = right_constraint conflict ∷ constraints; in_force = lemmas } ∷ [])
children_of node constraints lemmas = []

-- the lemmas in force at a node, after so many lemmas
abbrev pub in_force_at : Node → ℕ → Above → List NumberedLemma
in_force_at node first above = in_force first (blocks_of node) above.in_force

-- after a node below this
abbrev pub after_node : List Above → Above → Walked → Node → Walked
after_node pending above walked node =
    record {
      pending = children_of node above.constraints (in_force_at node (length walked.lemmas) above) ++ pending;
      lemmas = walked.lemmas ++ map (block_part above.constraints) (blocks_of node);
      cases = walked.cases ++ (case_part node (in_force_at node (length walked.lemmas) above) ∷ []);
    }

-- after a node, the next one of those pending; where none is pending nothing changes
abbrev pub next_of : List Above → Walked → Node → Walked
next_of [] walked node = walked
next_of (above ∷ pending) walked node = after_node pending above walked node

-- after one more node
abbrev pub node_after : Walked → Node → Walked
node_after walked node = next_of walked.pending walked node

-- after these nodes
abbrev pub walk_over : Walked → List Node → Walked
walk_over walked [] = walked
walk_over walked (node ∷ nodes) = walk_over (node_after walked node) nodes

-- the part lists no more than a lemma of one agent may
abbrev pub PartFits : Part → Type 0
PartFits (parts.One lemma) =
    (length lemma.constraints ≤ most_constraints) × (length lemma.entries ≤ most_listed)
PartFits part = Unit {0}

-- the lemmas can stand in a text
abbrev pub LemmasFit : List Part → Type 0
LemmasFit lemmas = All PartFits lemmas × (length lemmas ≤ most_listed)

-- the text of a certificate of version 3 with these parts and without price lists
abbrev pub walked_text : ℕ → ℕ → Claim → Walked → List ℕ
walked_text width agents claim walked =
    header_text width agents claim
    ++ (flat_map (part_text width) (parts.Prices 0 ∷ (parts.Lemmas (length walked.lemmas) ∷ []))
    ++ (flat_map (part_text width) walked.lemmas
    ++ (flat_map (part_text width) walked.cases ++ line_text width lines.End)))
