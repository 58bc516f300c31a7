-- A node of a tree by its parts.
use Rattle.std.specs.Prelude.{List}
use Rattle.mapf_model.specs.Blocks.{LabelBlock}
use Rattle.mapf_model.specs.Tree.{Node, SplitNode, LeafNode, ClashNode}
use Rattle.mapf_model.specs.declared.node.NodeKind.{NodeKind}
use Rattle.mapf_model.specs.declared.node.NodeKind.TheVariants.{Split, Leaf, Clash}

-- the node of this kind with these blocks; a clash has none
abbrev pub node_with : NodeKind → List LabelBlock → Node
node_with (Split conflict) blocks = SplitNode conflict blocks
node_with Leaf blocks = LeafNode blocks
node_with (Clash i j) blocks = ClashNode i j
