use Rattle.std.proofs.Common.{◌≡◌, ℕ, List, [], Some, slice_get, sym, subst, arith}
use Rattle.std.proofs.lemmas.Option.{slice_get_within}
use Rattle.mapf_model.specs.Blocks.{LabelBlock}
use Rattle.mapf_model.specs.Nodes.{node_with}
use Rattle.mapf_model.specs.Tree.{Node, blocks_of}
use Rattle.mapf_model.specs.declared.node.NodeKind.{NodeKind}
use Rattle.mapf_model.specs.declared.node.NodeKind.TheVariants.{Split, Leaf, Clash}
use Rattle.mapf_cbs.proofs.tree_node.TreeNodeAsNode.block.Goals as goal

-- a block of a node is one of those that stand there
of_node : (kind : NodeKind) (blocks : List LabelBlock) (place : ℕ) (block : LabelBlock) → slice_get (blocks_of (node_with kind blocks)) place ≡ Some block → slice_get blocks place ≡ Some block
of_node (Split conflict) blocks place block is = is
of_node Leaf blocks place block is = is
of_node (Clash i j) blocks place block is = let none = slice_get_within [] place block is in absurd (omega (arith, none))

pub returns : goal.returns
returns c block is = c.block.ensures block
    (of_node c.self.inside.kind c.self.inside.bound c.args.place block (subst (λ (n : Node). slice_get (blocks_of n) c.args.place ≡ Some block) (sym c.self.view_is) is))
