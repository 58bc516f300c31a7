-- One more item of a loop.
use Rattle.std.proofs.Common.{◌≡◌, ℕ, zero, suc, ◌+◌, ◌<◌, List, [], ◌∷◌, ◌++◌, length, take, get_or, map, filter, is_none, reverse, OnOk, Result, Ok, Err, refl, sym, ap, ◌∙◌, arith}
use Rattle.std.proofs.lemmas.List.{reverse-append}
use Rattle.mapf_model.specs.declared.constraint.Constraint.{Constraint}
use Rattle.mapf_model.specs.Blocks.{LabelBlock}
use Rattle.mapf_model.specs.declared.node.NodeKind.{NodeKind}
use Rattle.mapf_model.specs.declared.node.NodeKind.TheVariants as kinds
use Rattle.mapf_model.specs.Nodes.{node_with}
use Rattle.mapf_model.specs.Tree.{Node, block_of, blocks_of}
use Rattle.mapf_lemma_texts.specs.declared.part.Part.{Part}
use Rattle.mapf_lemma_convert.specs.declared.node_walk.NumberedLemma.{NumberedLemma}
use Rattle.mapf_lemma_convert.specs.Conversion.{numbered}
use Rattle.mapf_lemma_convert.specs.NodeWalk.{Above, Walked, block_part, case_part, children_of, in_force_at, next_of, node_after, walk_over}

pub take_more : {X : Type 0} (xs : List X) (k : ℕ) (x : X) → k < length xs → x ≡ get_or xs k x → take (k + 1) xs ≡ take k xs ++ x ∷ []
take_more [] k x inside is = absurd (omega arith)
take_more (y ∷ ys) zero x inside is = ap (λ z. z ∷ []) (sym is)
take_more (y ∷ ys) (suc k) x inside is =
    let count : suc k + 1 ≡ suc (k + 1) = omega arith in
    ap (λ n. take n (y ∷ ys)) count ∙ ap (λ zs. y ∷ zs) (take_more ys k x (omega arith) is)

pub numbered_more : (first : ℕ) (blocks : List LabelBlock) (block : LabelBlock) → numbered first (blocks ++ block ∷ []) ≡ numbered first blocks ++ record { agent = block.agent; number = first + length blocks } ∷ []
numbered_more first [] block = let same : first ≡ first + 0 = omega arith in ap (λ n. record { agent = block.agent; number = n } ∷ []) same
numbered_more first (other ∷ blocks) block =
    let same : first + 1 + length blocks ≡ first + suc (length blocks) = omega arith in
    ap (λ t. record { agent = other.agent; number = first } ∷ t)
    (numbered_more (first + 1) blocks block ∙ ap (λ n. numbered (first + 1) blocks ++ record { agent = block.agent; number = n } ∷ []) same)

pub walk_more : (nodes : List Node) (walked : Walked) (node : Node) → walk_over walked (nodes ++ node ∷ []) ≡ node_after (walk_over walked nodes) node
walk_more [] walked node = refl
walk_more (first ∷ nodes) walked node = walk_more nodes (node_after walked first) node

-- the blocks of a node don't change its children and its part
kind_children : (kind : NodeKind) (blocks : List LabelBlock) (lemmas : List NumberedLemma) (constraints : List Constraint) →
    children_of (node_with kind []) constraints lemmas ≡ children_of (node_with kind blocks) constraints lemmas
kind_children (kinds.Split conflict) blocks lemmas constraints = refl
kind_children kinds.Leaf blocks lemmas constraints = refl
kind_children (kinds.Clash i j) blocks lemmas constraints = refl

kind_part : (kind : NodeKind) (blocks : List LabelBlock) (lemmas : List NumberedLemma) → case_part (node_with kind []) lemmas ≡ case_part (node_with kind blocks) lemmas
kind_part (kinds.Split conflict) blocks lemmas = refl
kind_part kinds.Leaf blocks lemmas = refl
kind_part (kinds.Clash i j) blocks lemmas = refl

module _ (kind : NodeKind) (node : Node) (blocks : List LabelBlock) (items rest : List Above) (above : Above) (lemmas cases more all : List Part) (part : Part)
    (kept force force_there force_below : List NumberedLemma) (constraints : List Constraint)
    (items_are : items ≡ rest ++ above ∷ [])
    (blocks_are : blocks ≡ blocks_of node)
    (kind_is : node_with kind (blocks_of node) ≡ node)
    (kept_are : kept ≡ filter (λ lemma. is_none (block_of blocks lemma.agent)) above.in_force)
    (force_is : force ≡ kept ++ numbered (length lemmas) blocks)
    (there : force_there ≡ force)
    (below : force_below ≡ force)
    (constraints_are : constraints ≡ above.constraints)
    (more_are : more ≡ lemmas ++ map (block_part above.constraints) blocks)
    (part_is : part ≡ case_part (node_with kind []) force_there)
    (all_are : all ≡ cases ++ part ∷ [])
  where
    pub node_done : {T E : Type 0} (r : Result T E) (new : Walked) →
        OnOk r (new ≡ record { pending = children_of (node_with kind []) constraints force_below ++ reverse rest; lemmas = more; cases = all }) →
        OnOk r (new ≡ node_after (record { pending = reverse items; lemmas = lemmas; cases = cases }) node)
    node_done (Err e) new done = tt
    node_done (Ok x) new done =
        let whole : Walked = record { pending = reverse items; lemmas = lemmas; cases = cases } in
        let at_node = in_force_at node (length lemmas) above in
        let in_full : force ≡ at_node = force_is
        ∙ ap (λ k. k ++ numbered (length lemmas) blocks) kept_are
        ∙ ap (λ b. filter (λ lemma. is_none (block_of b lemma.agent)) above.in_force ++ numbered (length lemmas) b) blocks_are in
        let children : children_of (node_with kind []) constraints force_below ≡ children_of node above.constraints at_node =
        kind_children kind (blocks_of node) force_below constraints
        ∙ ap (λ n. children_of n constraints force_below) kind_is
        ∙ ap (λ t. children_of node t force_below) constraints_are
        ∙ ap (λ t. children_of node above.constraints t) (below ∙ in_full) in
        let own : part ≡ case_part node at_node = part_is
        ∙ kind_part kind (blocks_of node) force_there
        ∙ ap (λ n. case_part n force_there) kind_is
        ∙ ap (λ t. case_part node t) (there ∙ in_full) in
        let back : reverse items ≡ above ∷ reverse rest = ap reverse items_are ∙ reverse-append rest (above ∷ []) in
        done
        ∙ ap (λ p. record { pending = p ++ reverse rest; lemmas = more; cases = all }) children
        ∙ ap (λ l. record { pending = children_of node above.constraints at_node ++ reverse rest; lemmas = l; cases = all }) (more_are ∙ ap (λ b. lemmas ++ map (block_part above.constraints) b) blocks_are)
        ∙ ap (λ l. record { pending = children_of node above.constraints at_node ++ reverse rest; lemmas = lemmas ++ map (block_part above.constraints) (blocks_of node); cases = l }) (all_are ∙ ap (λ p. cases ++ p ∷ []) own)
        ∙ ap (λ p. next_of p whole node) (sym back)
