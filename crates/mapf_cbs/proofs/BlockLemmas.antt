-- The blocks of all nodes, gathered node by node.
use Rattle.std.proofs.Common.{◌≡◌, ℕ, ◌^◌, ◌<◌, List, [], ◌∷◌, ◌++◌, Some, All, length, length-append, slice_get, sym, subst, ⊎_elim, arith}
use Rattle.std.proofs.lemmas.Option.{slice_get_within}
use Rattle.mapf_model.specs.Blocks.{LabelBlock}
use Rattle.mapf_model.proofs.ClaimLemmas.{slice_get_inside}
use Rattle.mapf_model.proofs.SumLemmas.{snoc_get}
use Rattle.mapf_cbs.specs.declared.node.Node.{Node}
use Rattle.mapf_cbs.specs.declared.whole_node.WholeNode.{WholeNode}
use Rattle.mapf_cbs.specs.Nodes.{AreViews, IsOwnOf}
use Rattle.mapf_cbs.specs.Search.{View, AreBlocksOf, AreBlockLists}
use Rattle.mapf_cbs.specs.Whole.{AreWhole}
use Rattle.mapf_cbs.proofs.NodeLemmas.{own_blocks}

-- each list belongs to the node at its index
pub record ArePaired {X : Type 0} (P : X → List LabelBlock → Type 0) (nodes : List X) (lists : List (List LabelBlock)) : Type 0 where
  pub so_many : length lists ≡ length nodes
  pub each : (k : ℕ) (node : X) (blocks : List LabelBlock) → slice_get nodes k ≡ Some node → slice_get lists k ≡ Some blocks → P node blocks

pub paired_more : {X : Type 0} (P : X → List LabelBlock → Type 0) (nodes : List X) (lists : List (List LabelBlock)) (node : X) (blocks : List LabelBlock) → ArePaired P nodes lists → P node blocks → ArePaired P (nodes ++ node ∷ []) (lists ++ blocks ∷ [])
paired_more P nodes lists node blocks before here =
    let size = before.so_many in
    record {
      so_many = let a = length-append nodes (node ∷ []) in let b = length-append lists (blocks ∷ []) in omega (arith, size, a, b);
      each = λ k n b n_is b_is. ⊎_elim
          (λ (old : slice_get nodes k ≡ Some n). ⊎_elim
          (λ (old_list : slice_get lists k ≡ Some b). before.each k n b old old_list)
          (λ (new_list : (k ≡ length lists) × (blocks ≡ b)). absurd (let inside = slice_get_within nodes k n old in let e = new_list.0 in omega (arith, inside, e, size)))
          (snoc_get lists blocks k b b_is))
          (λ (new : (k ≡ length nodes) × (node ≡ n)). ⊎_elim
          (λ (old_list : slice_get lists k ≡ Some b). absurd (let inside = slice_get_within lists k b old_list in let e = new.0 in omega (arith, inside, e, size)))
          (λ (new_list : (k ≡ length lists) × (blocks ≡ b)). subst (λ x. P x b) new.1 (subst (λ x. P node x) new_list.1 here))
          (snoc_get lists blocks k b b_is))
          (snoc_get nodes node k n n_is);
    }

-- the blocks are the node's own
abbrev pub IsOwnList : Node → List LabelBlock → Type 0
IsOwnList node blocks = IsOwnOf node blocks × All (λ block. length block.entries < 2 ^ 64) blocks

pub own_lists : (nodes : List Node) (lists : List (List LabelBlock)) → ArePaired IsOwnList nodes lists → (views : List View) → AreViews nodes views → AreBlockLists views lists
own_lists nodes lists paired views are =
    let size = paired.so_many in let sizes = are.lengths in
    record {
      lengths = omega arith;
      each = λ k view blocks view_is is.
          let inside : k < length views = slice_get_within views k view view_is in
          let node : (node : Node) × (slice_get nodes k ≡ Some node) = slice_get_inside nodes k (omega arith) in
          let own = paired.each k node.0 blocks node.1 is in
          (own_blocks views k node.0 view (are.each k node.0 view node.1 view_is) blocks own.0, own.1);
    }

-- the blocks are those that a full node holds
abbrev pub IsHeldList : WholeNode → List LabelBlock → Type 0
IsHeldList node blocks = blocks ≡ node.bound

pub held_lists : (nodes : List WholeNode) (lists : List (List LabelBlock)) → ArePaired IsHeldList nodes lists → (views : List View) → AreWhole nodes views → AreBlockLists views lists
held_lists nodes lists paired views whole =
    let size = paired.so_many in let sizes = whole.lengths in
    record {
      lengths = omega arith;
      each = λ k view blocks view_is is.
          let inside : k < length views = slice_get_within views k view view_is in
          let node : (node : WholeNode) × (slice_get nodes k ≡ Some node) = slice_get_inside nodes k (omega arith) in
          let held = paired.each k node.0 blocks node.1 is in
          subst (λ (b : List LabelBlock). AreBlocksOf view b) (sym held) (whole.each k node.0 view node.1 view_is).blocks;
    }
