-- How a certificate of version 1 or 2 is spelled.
use Rattle.std.specs.Prelude.{◌≡◌, ℕ, ◌<◌, List, [], ◌∷◌, ◌++◌, length, All, Option, Some, None}
use Rattle.std.specs.List.{flat_map}
use Rattle.mapf_model.specs.declared.item.Claim.{Claim}
use Rattle.mapf_model.specs.declared.label.Entry.{Entry}
use Rattle.mapf_model.specs.Blocks.{LabelBlock}
use Rattle.mapf_model.specs.Grid.{GridMap, IsGridMap}
use Rattle.mapf_model.specs.Printed.{IsConflictInRange, AreBlocksInRange, IsClaimInRange, IsTreeInRange}
use Rattle.mapf_model.specs.Tree.{ConstraintTree, HasBlocksAtLeavesAlone, Node, SplitNode, LeafNode, ClashNode}
use Rattle.mapf_model.specs.Tree.{blocks_of, nodes_of, nodes_of_all}
use Rattle.mapf_certificate.specs.declared.version.Version.{Version}
use Rattle.mapf_certificate.specs.declared.version.Version.TheVariants.{One, Two}
use Rattle.mapf_certificate.specs.declared.line.CertLine.{CertLine}
use Rattle.mapf_certificate.specs.declared.line.CertLine.TheVariants as lines
use Rattle.mapf_certificate.specs.Lines.{words, IsAgentCount, IsClaimOfVersion}

-- a line with its LF
abbrev pub line_text : ℕ → CertLine → List ℕ
line_text width line = words width line ++ (10 ∷ [])

-- the line of an entry
abbrev pub entry_text : ℕ → Entry → List ℕ
entry_text width entry = line_text width (lines.At entry)

-- the lines of entries
abbrev pub entries_text : ℕ → List Entry → List ℕ
entries_text width entries = flat_map (entry_text width) entries

-- the lines of a block: its agent and count, then its entries
abbrev pub block_text : ℕ → LabelBlock → List ℕ
block_text width block =
    line_text width (lines.Agent block.agent (length block.entries)) ++ entries_text width block.entries

-- the lines of blocks
abbrev pub blocks_text : ℕ → List LabelBlock → List ℕ
blocks_text width blocks = flat_map (block_text width) blocks

-- what the line of a split says of these blocks: in version 2 their number
abbrev pub count_on_split : Version → List LabelBlock → Option ℕ
count_on_split One blocks = None
count_on_split Two blocks = Some (length blocks)

-- the first line of a node
abbrev pub first_line : Version → Node → CertLine
first_line version (SplitNode conflict blocks) = lines.Split conflict (count_on_split version blocks)
first_line version (LeafNode blocks) = lines.Leaf (length blocks)
first_line version (ClashNode i j) = lines.Clash i j

-- the lines of a node, without those of its children
abbrev pub node_text : Version → ℕ → Node → List ℕ
node_text version width node = line_text width (first_line version node) ++ blocks_text width (blocks_of node)

-- the first three lines
abbrev pub header_text : Version → ℕ → ℕ → Claim → List ℕ
header_text version width agents claim =
    line_text width (lines.Title version)
    ++ (line_text width (lines.Agents agents) ++ line_text width (lines.Claim claim))

-- nodes, and the end
abbrev pub rest_text : Version → ℕ → List Node → List ℕ
rest_text version width nodes = flat_map (node_text version width) nodes ++ line_text width lines.End

-- the whole text: the header, the nodes in pre-order, and the end
abbrev pub cert_text : Version → ℕ → ℕ → Claim → List Node → List ℕ
cert_text version width agents claim nodes = header_text version width agents claim ++ rest_text version width nodes

-- the blocks that a split may have: none in version 1
abbrev pub MayBeOnSplit : Version → List LabelBlock → Type 0
MayBeOnSplit One blocks = blocks ≡ []
MayBeOnSplit Two blocks = Unit {0}

-- the node may have these blocks: in version 1 a split has none
abbrev pub IsNodeOfVersion : Version → Node → Type 0
IsNodeOfVersion version (SplitNode conflict blocks) = MayBeOnSplit version blocks
IsNodeOfVersion version (LeafNode blocks) = Unit {0}
IsNodeOfVersion version (ClashNode i j) = Unit {0}

-- each node of the tree may have its blocks: in version 1 only leaves have any
abbrev pub IsTreeOfVersion : Version → ConstraintTree → Type 0
IsTreeOfVersion One tree = HasBlocksAtLeavesAlone tree
IsTreeOfVersion Two tree = Unit {0}

-- these bytes spell this certificate on a grid
pub record SpellsCert (grid : GridMap) (bytes : List ℕ) (version : Version) (agents : ℕ) (claim : Claim)
    (tree : ConstraintTree) : Type 0 where
  pub agents_in_range : IsAgentCount agents
  pub claim_in_range : IsClaimInRange claim
  pub claim_of_version : IsClaimOfVersion version claim
  pub tree_in_range : IsTreeInRange grid agents tree
  pub tree_of_version : IsTreeOfVersion version tree
  pub spelled : bytes ≡ cert_text version grid.width agents claim (nodes_of tree)

-- a node of a certificate of this version, with its numbers in their ranges and its blocks in their orders
abbrev pub IsNode : Version → GridMap → ℕ → Node → Type 0
IsNode version grid agents (SplitNode conflict blocks) =
    IsConflictInRange grid agents conflict × AreBlocksInRange grid agents blocks × MayBeOnSplit version blocks
IsNode version grid agents (LeafNode blocks) = AreBlocksInRange grid agents blocks
IsNode version grid agents (ClashNode i j) = (i < agents) × (j < agents)

-- a tree of a certificate of this version, in range
abbrev pub IsCertTree : Version → GridMap → ℕ → ConstraintTree → Type 0
IsCertTree version grid agents tree = IsTreeInRange grid agents tree × IsTreeOfVersion version tree

-- what is left of a certificate: nodes that complete so many trees, and the end
pub record IsRest (version : Version) (grid : GridMap) (agents pending : ℕ) (nodes : List Node) (bytes : List ℕ)
    : Type 0 where
  pub trees : List ConstraintTree
  pub count : length trees ≡ pending
  pub in_range : All (IsCertTree version grid agents) trees
  pub same : nodes ≡ nodes_of_all trees
  pub spelled : bytes ≡ rest_text version grid.width nodes

-- no bytes spell two certificates of version 1 or 2, neither in one version nor in both
abbrev pub SpellsOneCert : Type 0
SpellsOneCert =
    (grid : GridMap) (bytes : List ℕ) (version version' : Version) (agents agents' : ℕ) (claim claim' : Claim)
    (tree tree' : ConstraintTree) → IsGridMap grid
    → SpellsCert grid bytes version agents claim tree → SpellsCert grid bytes version' agents' claim' tree' →
    (version ≡ version') × (agents ≡ agents') × (claim ≡ claim') × (tree ≡ tree')

-- the new text spells in version 2 what the old one spells in version 1
abbrev pub IsConverted : GridMap → List ℕ → List ℕ → Type 0
IsConverted grid old new =
    (agents : ℕ) × (claim : Claim) × (tree : ConstraintTree) × SpellsCert grid old One agents claim tree
    × SpellsCert grid new Two agents claim tree
