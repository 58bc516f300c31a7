-- The lemmas of a tree are in the ranges of version 3.
use Rattle.std.proofs.Common.{◌≡◌, ℕ, ◌*◌, ◌<◌, ◌≤◌, List, [], ◌∷◌, ◌++◌, None, All, map, slice_index_or, refl, inl, inr, ⊎_elim, arith}
use Rattle.std.proofs.lemmas.List.{length-map}
use Rattle.std.proofs.lemmas.List.Elements.{All-append, All-cons, All-head, All-map, All-nil, All-tail}
use Rattle.mapf_model.specs.declared.bar.Bar.{Bar}
use Rattle.mapf_model.specs.declared.bar.Bar.TheVariants.{Cell, Move}
use Rattle.mapf_model.specs.declared.conflict.Conflict.{Conflict}
use Rattle.mapf_model.specs.declared.conflict.Conflict.TheVariants.{Vertex, Swap}
use Rattle.mapf_model.specs.declared.label.Label.{Label}
use Rattle.mapf_model.specs.declared.label.Label.TheVariants.{Ticks, Never}
use Rattle.mapf_model.specs.Blocks.{LabelBlock}
use Rattle.mapf_model.specs.Grid.{GridMap}
use Rattle.mapf_model.specs.Limits.{greatest_side, most_agents}
use Rattle.mapf_model.specs.Printed.{AreBlocksInRange, IsBlockInRange, IsConflictInRange, IsLabelInRange, IsTreeInRange}
use Rattle.mapf_model.specs.Tree.{AtEachNode, ConstraintTree, Split, Leaf, Clash, NodeContext, left_child_context, left_constraint, right_child_context, right_constraint, with_constraint}
use Rattle.mapf_model.proofs.ContainsLemmas.{Contains-cons_new}
use Rattle.mapf_lemmas.specs.Lemmas.{Lemma}
use Rattle.mapf_lemmas.proofs.SmallLists.{all_of_one}
use Rattle.mapf_lemma_texts.specs.declared.line.LemmaLine.TheVariants as lines
use Rattle.mapf_lemma_texts.specs.declared.part.Part.{Part}
use Rattle.mapf_lemma_texts.specs.declared.part.Part.TheVariants as parts
use Rattle.mapf_lemma_texts.specs.declared.sizes.LineSizes.{LineSizes}
use Rattle.mapf_lemma_texts.specs.Lines.{cells_of}
use Rattle.mapf_lemma_texts.specs.Listing.{IsListed, IsOfAgents}
use Rattle.mapf_lemma_texts.specs.Parts.{AreConstraints, AreEntries, IsPart}
use Rattle.mapf_lemma_texts.specs.Ranges.{greatest_label, IsAmountTo, IsConstraintInRange, IsOneTo}
use Rattle.mapf_lemma_texts.specs.WholeTexts.{constraint_of, lemma_parts}
use Rattle.mapf_lemma_convert.specs.Conversion.{BlockFits, NodeFits, lemma_of, lemmas_from, path_constraint, path_constraints}
use Rattle.mapf_lemma_convert.specs.NodeWalk.{PartFits}
use Rattle.mapf_lemma_convert.proofs.BarLemmas.{AllBars, more_bars}
use Rattle.mapf_lemma_convert.proofs.ListLemmas.{all_of_contained, all_parts}

amount_of : (label : Label) → IsLabelInRange label → IsAmountTo greatest_label label
amount_of (Ticks n) range = (range.0, let high = range.1 in omega arith)
amount_of Never range = range

-- the sizes by which the converted certificate is judged: it has no price lists
abbrev pub sizes_on : (grid : GridMap) (agents : ℕ) → (1 ≤ grid.width) × (grid.width ≤ greatest_side) → (1 ≤ grid.height) × (grid.height ≤ greatest_side) → IsOneTo most_agents agents → LineSizes
sizes_on grid agents narrow low few = record { width = grid.width; height = grid.height; agents = agents; lists = 0; narrow = narrow; low = low; few = few; listed = omega arith }

-- the part of the lemma of a block
abbrev pub one_part : (ℕ → List Bar) → LabelBlock → Part
one_part bars block = parts.One (record {
  agent = block.agent;
  constraints = map (constraint_of block.agent) (path_constraints (bars block.agent));
  list_number = None;
  entries = block.entries;
})

module _ (grid : GridMap) (agents : ℕ) (sizes : LineSizes) (cells_are : cells_of sizes ≡ grid.width * grid.height) (agents_are : sizes.agents ≡ agents) where
  abbrev pub AreBarsIn : (ℕ → List Bar) → Type 0
  AreBarsIn bars = AllBars (λ bar. IsConstraintInRange (cells_of sizes) (path_constraint bar)) bars

  pub left_in : (bars : ℕ → List Bar) (conflict : Conflict) → AreBarsIn bars → IsConflictInRange grid agents conflict → AreBarsIn (with_constraint bars (left_constraint conflict))
  left_in bars (Vertex i j cell tick) all (first, second, on, soon) = more_bars (λ bar. IsConstraintInRange (cells_of sizes) (path_constraint bar)) bars i (Cell cell tick) all (omega (arith, cells_are, on), soon)
  left_in bars (Swap i j from to tick) all (first, second, on, also, soon) = more_bars (λ bar. IsConstraintInRange (cells_of sizes) (path_constraint bar)) bars i (Move from to tick) all (omega (arith, cells_are, on), omega (arith, cells_are, also), soon)

  pub right_in : (bars : ℕ → List Bar) (conflict : Conflict) → AreBarsIn bars → IsConflictInRange grid agents conflict → AreBarsIn (with_constraint bars (right_constraint conflict))
  right_in bars (Vertex i j cell tick) all (first, second, on, soon) = more_bars (λ bar. IsConstraintInRange (cells_of sizes) (path_constraint bar)) bars j (Cell cell tick) all (omega (arith, cells_are, on), soon)
  right_in bars (Swap i j from to tick) all (first, second, on, also, soon) = more_bars (λ bar. IsConstraintInRange (cells_of sizes) (path_constraint bar)) bars j (Move to from tick) all (omega (arith, cells_are, also), omega (arith, cells_are, on), soon)

  constraints_in : (bars : ℕ → List Bar) (agent : ℕ) → AreBarsIn bars → agent < agents → AreConstraints sizes (agent ∷ []) (map (constraint_of agent) (path_constraints (bars agent)))
  constraints_in bars agent all within = record {
    each = All-map (IsListed sizes lines.Constraint (IsOfAgents (agent ∷ []))) (constraint_of agent) (path_constraints (bars agent))
        (All-map (λ one. IsListed sizes lines.Constraint (IsOfAgents (agent ∷ [])) (constraint_of agent one)) path_constraint (bars agent)
        (all_of_contained (λ bar. IsListed sizes lines.Constraint (IsOfAgents (agent ∷ [])) (constraint_of agent (path_constraint bar))) (bars agent)
        (λ bar held. ((omega (arith, within, agents_are), all agent bar held), Contains-cons_new agent []))));
    rising = λ i j d before inside. tt;
  }

  entries_in : (block : LabelBlock) → IsBlockInRange grid agents block → AreEntries sizes block.entries
  entries_in block range = record {
    each = λ k d inside.
        let entry = range.entries k d inside in
        let on = entry.0 in
        ((omega (arith, cells_are, on), entry.1, amount_of (slice_index_or block.entries k d).label entry.2), tt);
    rising = λ i j d before inside. ⊎_elim
        (λ earlier. inl earlier)
        (λ same. inr (same.0, inr (refl, inl same.1)))
        (range.rising i j d before inside);
  }

  -- a lemma in range, with all of its parts
  abbrev pub IsLemmaIn : Lemma → Type 0
  IsLemmaIn lemma = All (IsPart sizes) (lemma_parts lemma)

  lemma_in : (context : NodeContext) (block : LabelBlock) → AreBarsIn context.bars → IsBlockInRange grid agents block → BlockFits context block → IsLemmaIn (lemma_of context.bars block)
  lemma_in context block all range (short, few) =
      let within = range.agent in
      let one = length-map (path_constraints (context.bars block.agent)) (constraint_of block.agent) in
      let two = length-map (context.bars block.agent) path_constraint in
      all_of_one (IsPart sizes) (one_part context.bars block) (
        (omega (arith, within, agents_are), omega (arith, one, two, short), few, tt),
        (constraints_in context.bars block.agent all within, entries_in block range),
      )

  blocks_in : (context : NodeContext) (blocks : List LabelBlock) → AreBarsIn context.bars → AreBlocksInRange grid agents blocks → All (BlockFits context) blocks → All IsLemmaIn (map (lemma_of context.bars) blocks)
  blocks_in context blocks all range fit = All-map IsLemmaIn (lemma_of context.bars) blocks
      (λ k d inside. lemma_in context (slice_index_or blocks k d) all (range.each k d inside) (fit k d inside))

  pub lemmas_in : (tree : ConstraintTree) (context : NodeContext) → AreBarsIn context.bars → IsTreeInRange grid agents tree → AtEachNode NodeFits context tree → All IsLemmaIn (lemmas_from context.bars tree)
  lemmas_in (Split conflict blocks left right) context all (split, here, on_left, on_right) (fit, fit_left, fit_right) =
      All-append IsLemmaIn (map (lemma_of context.bars) blocks) _ (blocks_in context blocks all here fit)
      (All-append IsLemmaIn (lemmas_from (with_constraint context.bars (left_constraint conflict)) left) (lemmas_from (with_constraint context.bars (right_constraint conflict)) right)
      (lemmas_in left (left_child_context context conflict blocks) (left_in context.bars conflict all split) on_left fit_left)
      (lemmas_in right (right_child_context context conflict blocks) (right_in context.bars conflict all split) on_right fit_right))
  lemmas_in (Leaf blocks) context all range fit = blocks_in context blocks all range fit
  lemmas_in (Clash i j) context all range fit = All-nil IsLemmaIn

-- lemmas that fit are of blocks that fit
block_fits : (context : NodeContext) (block : LabelBlock) → All PartFits (lemma_parts (lemma_of context.bars block)) → BlockFits context block
block_fits context block all =
    let part = All-head PartFits (one_part context.bars block) [] all in
    let one = length-map (path_constraints (context.bars block.agent)) (constraint_of block.agent) in
    let two = length-map (context.bars block.agent) path_constraint in
    let short = part.0 in
    (omega (arith, one, two, short), part.1)

blocks_fit : (context : NodeContext) (blocks : List LabelBlock) → All (λ lemma. All PartFits (lemma_parts lemma)) (map (lemma_of context.bars) blocks) → All (BlockFits context) blocks
blocks_fit context [] all = All-nil (BlockFits context)
blocks_fit context (block ∷ blocks) all = All-cons (BlockFits context) block blocks
    (block_fits context block (All-head (λ lemma. All PartFits (lemma_parts lemma)) (lemma_of context.bars block) (map (lemma_of context.bars) blocks) all))
    (blocks_fit context blocks (All-tail (λ lemma. All PartFits (lemma_parts lemma)) (lemma_of context.bars block) (map (lemma_of context.bars) blocks) all))

pub tree_fits : (tree : ConstraintTree) (context : NodeContext) → All (λ lemma. All PartFits (lemma_parts lemma)) (lemmas_from context.bars tree) → AtEachNode NodeFits context tree
tree_fits (Split conflict blocks left right) context all =
    let on_left = lemmas_from (with_constraint context.bars (left_constraint conflict)) left in
    let on_right = lemmas_from (with_constraint context.bars (right_constraint conflict)) right in
    let (here, below) = all_parts (λ lemma. All PartFits (lemma_parts lemma)) (map (lemma_of context.bars) blocks) (on_left ++ on_right) all in
    let (first, second) = all_parts (λ lemma. All PartFits (lemma_parts lemma)) on_left on_right below in
    (blocks_fit context blocks here, tree_fits left (left_child_context context conflict blocks) first, tree_fits right (right_child_context context conflict blocks) second)
tree_fits (Leaf blocks) context all = blocks_fit context blocks all
tree_fits (Clash i j) context all = tt
