-- The walk over the nodes of a tree makes the lemmas and the proof by cases of the tree.
use Rattle.std.proofs.Common.{◌≡◌, ℕ, ◌+◌, Bool, true, false, cond, List, [], ◌∷◌, ◌++◌, None, length, length-append, append_assoc, append-nil, map, filter, refl, sym, ap, ◌∙◌, arith}
use Rattle.std.specs.Prelude.{◌==◌}
use Rattle.std.specs.List.{flat_map}
use Rattle.std.proofs.lemmas.Grind.{flat_map-append}
use Rattle.std.proofs.lemmas.List.{length-map}
use Rattle.mapf_model.specs.declared.bar.Bar.{Bar}
use Rattle.mapf_model.specs.declared.constraint.Constraint.{Constraint}
use Rattle.mapf_model.specs.Blocks.{LabelBlock}
use Rattle.mapf_model.specs.Tree.{ConstraintTree, Split, Leaf, Clash, Node, nodes_of, left_constraint, right_constraint, with_constraint, root}
use Rattle.mapf_lemma_texts.specs.declared.part.Part.{Part}
use Rattle.mapf_lemma_texts.specs.declared.part.Part.TheVariants as parts
use Rattle.mapf_lemma_texts.specs.WholeTexts.{constraint_of, lemma_parts, split_part, tree_parts}
use Rattle.mapf_lemma_convert.specs.Conversion.{block_count, cases_from, cases_of, in_force, lemma_of, lemmas_from, lemmas_of, path_constraint, path_constraints, split_on}
use Rattle.mapf_lemma_convert.specs.NodeWalk.{Above, Walked, above_root, block_part, own_constraints, walk_over, walk_start}
use Rattle.mapf_lemma_convert.proofs.RangeLemmas.{one_part}

-- each agent's constraints are these
abbrev AreConstraintsOf : List Constraint → (ℕ → List Bar) → Type 0
AreConstraintsOf constraints bars =
    (agent : ℕ) → own_constraints agent constraints ≡ map (constraint_of agent) (path_constraints (bars agent))

one_more : (constraints : List Constraint) (bars : ℕ → List Bar) (more : Constraint) → AreConstraintsOf constraints bars → AreConstraintsOf (more ∷ constraints) (with_constraint bars more)
one_more constraints bars more same agent = by (agent == more.agent)
  where
    by : (here : Bool) → map (λ one. constraint_of agent (path_constraint one.bar)) (cond here (more ∷ filter (λ one. agent == one.agent) constraints) (filter (λ one. agent == one.agent) constraints))
        ≡ map (constraint_of agent) (path_constraints (cond here (more.bar ∷ bars agent) (bars agent)))
    by true = ap (λ t. constraint_of agent (path_constraint more.bar) ∷ t) (same agent)
    by false = same agent

-- the parts of the lemmas of blocks
blocks_parts : (bars : ℕ → List Bar) (blocks : List LabelBlock) → flat_map lemma_parts (map (lemma_of bars) blocks) ≡ map (one_part bars) blocks
blocks_parts bars [] = refl
blocks_parts bars (block ∷ blocks) = ap (λ t. one_part bars block ∷ t) (blocks_parts bars blocks)

same_blocks : (constraints : List Constraint) (bars : ℕ → List Bar) → AreConstraintsOf constraints bars → (blocks : List LabelBlock) → map (block_part constraints) blocks ≡ map (one_part bars) blocks
same_blocks constraints bars same [] = refl
same_blocks constraints bars same (block ∷ blocks) =
    ap (λ own. parts.One (record { agent = block.agent; constraints = own; list_number = None; entries = block.entries }) ∷ map (block_part constraints) blocks) (same block.agent)
    ∙ ap (λ t. one_part bars block ∷ t) (same_blocks constraints bars same blocks)

-- the parts of the lemmas of a tree below these constraints
abbrev parts_below : (ℕ → List Bar) → ConstraintTree → List Part
parts_below bars tree = flat_map lemma_parts (lemmas_from bars tree)

parts_split : (bars left_bars right_bars : ℕ → List Bar) (blocks : List LabelBlock) (left right : ConstraintTree) →
    flat_map lemma_parts (map (lemma_of bars) blocks ++ (lemmas_from left_bars left ++ lemmas_from right_bars right))
    ≡ map (one_part bars) blocks ++ (parts_below left_bars left ++ parts_below right_bars right)
parts_split bars left_bars right_bars blocks left right =
    flat_map-append lemma_parts (map (lemma_of bars) blocks) (lemmas_from left_bars left ++ lemmas_from right_bars right)
    ∙ ap (λ t. t ++ flat_map lemma_parts (lemmas_from left_bars left ++ lemmas_from right_bars right)) (blocks_parts bars blocks)
    ∙ ap (λ t. map (one_part bars) blocks ++ t) (flat_map-append lemma_parts (lemmas_from left_bars left) (lemmas_from right_bars right))

-- a tree has as many parts of lemmas as blocks
pub parts_count : (bars : ℕ → List Bar) (tree : ConstraintTree) → length (parts_below bars tree) ≡ block_count tree
parts_count bars (Split conflict blocks left right) =
    let left_bars = with_constraint bars (left_constraint conflict) in
    let right_bars = with_constraint bars (right_constraint conflict) in
    let split = ap length (parts_split bars left_bars right_bars blocks left right) in
    let whole = length-append (map (one_part bars) blocks) (parts_below left_bars left ++ parts_below right_bars right) in
    let both = length-append (parts_below left_bars left) (parts_below right_bars right) in
    let here = length-map blocks (one_part bars) in
    let on_left = parts_count left_bars left in
    let on_right = parts_count right_bars right in
    omega (arith, split, whole, both, here, on_left, on_right)
parts_count bars (Leaf blocks) = ap length (blocks_parts bars blocks) ∙ length-map blocks (one_part bars)
parts_count bars (Clash i j) = refl

-- a walk that made these parts
abbrev walked_to : List Above → List Part → List Part → Walked
walked_to pending lemmas cases = record { pending = pending; lemmas = lemmas; cases = cases }

-- after the nodes of a tree
walk_tree : (tree : ConstraintTree) (above : Above) (bars : ℕ → List Bar) → AreConstraintsOf above.constraints bars →
    (pending : List Above) (lemmas cases : List Part) (nodes : List Node) →
    walk_over (walked_to (above ∷ pending) lemmas cases) (nodes_of tree ++ nodes)
    ≡ walk_over (walked_to pending (lemmas ++ parts_below bars tree) (cases ++ tree_parts (cases_from (length lemmas) above.in_force tree))) nodes
walk_tree (Split conflict blocks left right) above bars same pending lemmas cases nodes =
    let left_bars = with_constraint bars (left_constraint conflict) in
    let right_bars = with_constraint bars (right_constraint conflict) in
    let force = in_force (length lemmas) blocks above.in_force in
    let on_left : Above = record { constraints = left_constraint conflict ∷ above.constraints; in_force = force } in
    let on_right : Above = record { constraints = right_constraint conflict ∷ above.constraints; in_force = force } in
    let here = map (block_part above.constraints) blocks in
    let split = split_part (split_on conflict) in
    let first = lemmas ++ here in
    let second = first ++ parts_below left_bars left in
    let left_cases : ℕ → List Part = λ n. tree_parts (cases_from n force left) in
    let right_cases : ℕ → List Part = λ n. tree_parts (cases_from n force right) in
    let in_order = ap (λ t. walk_over (walked_to (on_left ∷ (on_right ∷ pending)) first (cases ++ split ∷ [])) t) (append_assoc (nodes_of left) (nodes_of right) nodes) in
    let through_left = walk_tree left on_left left_bars (one_more above.constraints bars (left_constraint conflict) same) (on_right ∷ pending) first (cases ++ split ∷ []) (nodes_of right ++ nodes) in
    let through_right = walk_tree right on_right right_bars (one_more above.constraints bars (right_constraint conflict) same) pending second ((cases ++ split ∷ []) ++ left_cases (length first)) nodes in
    let count = length-append lemmas here in
    let blocks_count = length-map blocks (block_part above.constraints) in
    let left_count = length-append first (parts_below left_bars left) in
    let parts_left = parts_count left_bars left in
    let first_is : length first ≡ length lemmas + length blocks = omega (arith, count, blocks_count) in
    let second_is : length second ≡ length lemmas + length blocks + block_count left = omega (arith, first_is, left_count, parts_left) in
    let lemmas_are : second ++ parts_below right_bars right ≡ lemmas ++ parts_below bars (Split conflict blocks left right) =
    append_assoc first (parts_below left_bars left) (parts_below right_bars right)
    ∙ append_assoc lemmas here (parts_below left_bars left ++ parts_below right_bars right)
    ∙ ap (λ t. lemmas ++ (t ++ (parts_below left_bars left ++ parts_below right_bars right))) (same_blocks above.constraints bars same blocks)
    ∙ ap (λ t. lemmas ++ t) (sym (parts_split bars left_bars right_bars blocks left right)) in
    let cases_are : ((cases ++ split ∷ []) ++ left_cases (length first)) ++ right_cases (length second)
    ≡ cases ++ (split ∷ (left_cases (length lemmas + length blocks) ++ right_cases (length lemmas + length blocks + block_count left))) =
    ap (λ n. ((cases ++ split ∷ []) ++ left_cases n) ++ right_cases (length second)) first_is
    ∙ ap (λ n. ((cases ++ split ∷ []) ++ left_cases (length lemmas + length blocks)) ++ right_cases n) second_is
    ∙ append_assoc (cases ++ split ∷ []) (left_cases (length lemmas + length blocks)) (right_cases (length lemmas + length blocks + block_count left))
    ∙ append_assoc cases (split ∷ []) (left_cases (length lemmas + length blocks) ++ right_cases (length lemmas + length blocks + block_count left)) in
    in_order ∙ through_left ∙ through_right
    ∙ ap (λ t. walk_over (walked_to pending t (((cases ++ split ∷ []) ++ left_cases (length first)) ++ right_cases (length second))) nodes) lemmas_are
    ∙ ap (λ t. walk_over (walked_to pending (lemmas ++ parts_below bars (Split conflict blocks left right)) t) nodes) cases_are
walk_tree (Leaf blocks) above bars same pending lemmas cases nodes =
    ap (λ t. walk_over (walked_to pending (lemmas ++ t) (cases ++ tree_parts (cases_from (length lemmas) above.in_force (Leaf blocks)))) nodes)
    (same_blocks above.constraints bars same blocks ∙ sym (blocks_parts bars blocks))
walk_tree (Clash i j) above bars same pending lemmas cases nodes = refl

-- what the walk over a whole tree makes
abbrev pub walked_tree : ConstraintTree → Walked
walked_tree tree = record { pending = []; lemmas = flat_map lemma_parts (lemmas_of tree); cases = tree_parts (cases_of tree) }

pub walk_whole : (tree : ConstraintTree) → walk_over walk_start (nodes_of tree) ≡ walked_tree tree
walk_whole tree = ap (λ t. walk_over walk_start t) (sym (append-nil (nodes_of tree)))
    ∙ walk_tree tree above_root root.bars (λ agent. refl) [] [] [] []
