-- The proof by cases of a tree is in the ranges of version 3.
use Rattle.std.proofs.Common.{◌≡◌, ◌≢◌, ℕ, ◌+◌, ◌*◌, ◌<◌, ◌≤◌, List, [], ◌∷◌, None, All, AllPairs, Contains, filter, length, map, ap, subst, eqb, eqb-true, arith}
use Rattle.std.specs.List.{IsDistinct}
use Rattle.std.proofs.lemmas.Bool.Decides.{Decides-eqb}
use Rattle.std.proofs.lemmas.List.{length-map}
use Rattle.std.proofs.lemmas.List.Elements.{All-append, All-contains, All-filter, All-cons, All-map}
use Rattle.std.proofs.lemmas.List.Kept.{AllPairs-cons, AllPairs-filter}
use Rattle.std.proofs.lemmas.Map.Made.{IsDistinct-from_AllPairs}
use Rattle.std.proofs.lemmas.Map.Steps.{length-le_from_distinct_below}
use Rattle.std.proofs.lemmas.Map.Views.{Contains-from_any}
use Rattle.std.proofs.lemmas.Option.{slice_get_within, get_or_from_slice_get}
use Rattle.mapf_model.specs.declared.conflict.Conflict.{Conflict}
use Rattle.mapf_model.specs.declared.conflict.Conflict.TheVariants.{Vertex, Swap}
use Rattle.mapf_model.specs.Blocks.{LabelBlock}
use Rattle.mapf_model.specs.Grid.{GridMap}
use Rattle.mapf_model.specs.Printed.{AreBlocksInRange, IsBlockInRange, IsConflictInRange, IsTreeInRange}
use Rattle.mapf_model.specs.Tree.{AreOfDifferentAgents, ConstraintTree, Split, Leaf, Clash}
use Rattle.mapf_lemmas.proofs.SmallLists.{all_of_one}
use Rattle.mapf_lemma_texts.specs.declared.line.LemmaLine.TheVariants as lines
use Rattle.mapf_lemma_texts.specs.declared.part.Part.TheVariants as parts
use Rattle.mapf_lemma_texts.specs.declared.sizes.LineSizes.{LineSizes}
use Rattle.mapf_lemma_texts.specs.Lines.{cells_of}
use Rattle.mapf_lemma_texts.specs.Listing.{IsListed, FitsAnyhow}
use Rattle.mapf_lemma_texts.specs.Parts.{IsPart}
use Rattle.mapf_lemma_texts.specs.Ranges.{most_listed}
use Rattle.mapf_lemma_texts.specs.WholeTexts.{split_part, tree_parts}
use Rattle.mapf_lemma_convert.specs.declared.node_walk.NumberedLemma.{NumberedLemma}
use Rattle.mapf_lemma_convert.specs.Conversion.{block_count, cases_from, in_force, numbered, split_on}
use Rattle.mapf_lemma_convert.proofs.InForceLemmas.{AreApart, has_no_block, in_force_apart, numbered_is}
use Rattle.mapf_lemma_convert.proofs.ListLemmas.{all_of_contained, contained_of_map, contained_of_filter, pairs_append, pairs_map}

-- lemmas in force, of different agents below this number, with rising numbers below that of the next lemma
pub record AreNumbered (agents next : ℕ) (above : List NumberedLemma) : Type 0 where
  pub within : All (λ lemma. lemma.agent < agents) above
  pub apart : AllPairs AreApart above
  pub rising : AllPairs (λ one other. one.number < other.number) above
  pub earlier : All (λ lemma. lemma.number < next) above

pub none_numbered : (agents : ℕ) → AreNumbered agents 0 []
none_numbered agents = record {
  within = λ k d inside. absurd (omega arith);
  apart = λ i j d before inside. absurd (omega arith);
  rising = λ i j d before inside. absurd (omega arith);
  earlier = λ k d inside. absurd (omega arith);
}

-- the next number may be greater
pub numbered_later : (agents next later : ℕ) (above : List NumberedLemma) → next ≤ later → AreNumbered agents next above → AreNumbered agents later above
numbered_later agents next later above more are = record {
  within = are.within;
  apart = are.apart;
  rising = are.rising;
  earlier = λ k d inside. let early = are.earlier k d inside in omega (arith, early, more);
}

different : (grid : GridMap) (agents : ℕ) (blocks : List LabelBlock) → AreBlocksInRange grid agents blocks → AreOfDifferentAgents blocks
different grid agents blocks range i j d before inside same = let low = range.rising i j d before inside in absurd (omega (arith, low, same))

number_of_block : (first : ℕ) (blocks : List LabelBlock) (lemma : NumberedLemma) → Contains (numbered first blocks) lemma → (first ≤ lemma.number) × (lemma.number < first + length blocks)
number_of_block first blocks lemma held =
    let (k, block, found, is) = numbered_is first blocks lemma held in
    let inside = slice_get_within blocks k block found in
    let number : first + k ≡ lemma.number = ap (λ l. l.number) is in
    (omega (arith, number), omega (arith, number, inside))

numbers_rise : (first : ℕ) (blocks : List LabelBlock) → AllPairs (λ one other. one.number < other.number) (numbered first blocks)
numbers_rise first [] = λ i j d before inside. absurd (omega arith)
numbers_rise first (block ∷ blocks) = AllPairs-cons (λ one other. one.number < other.number) (record { agent = block.agent; number = first }) (numbered (first + 1) blocks)
    (all_of_contained (λ lemma. first < lemma.number) (numbered (first + 1) blocks) (λ lemma held. let low = (number_of_block (first + 1) blocks lemma held).0 in omega (arith, low)))
    (numbers_rise (first + 1) blocks)

pub numbered_here : (grid : GridMap) (agents first : ℕ) (blocks : List LabelBlock) (above : List NumberedLemma) → AreBlocksInRange grid agents blocks → AreNumbered agents first above →
    AreNumbered agents (first + length blocks) (in_force first blocks above)
numbered_here grid agents first blocks above range are = record {
  within = All-append (λ lemma. lemma.agent < agents) (filter (has_no_block blocks) above) (numbered first blocks)
      (All-filter (has_no_block blocks) (λ lemma. lemma.agent < agents) above are.within)
      (all_of_contained (λ lemma. lemma.agent < agents) (numbered first blocks) (λ lemma held.
      let (k, block, found, is) = numbered_is first blocks lemma held in
      let inside = slice_get_within blocks k block found in
      let one : IsBlockInRange grid agents block = subst (IsBlockInRange grid agents) (get_or_from_slice_get blocks k block block found) (range.each k block inside) in
      subst (λ l. l.agent < agents) is one.agent));
  apart = in_force_apart first blocks above (different grid agents blocks range) are.apart;
  rising = pairs_append (λ one other. one.number < other.number) (filter (has_no_block blocks) above) (numbered first blocks)
      (AllPairs-filter (λ one other. one.number < other.number) (has_no_block blocks) above are.rising)
      (numbers_rise first blocks)
      (λ one other old new.
      let early = All-contains (λ lemma. lemma.number < first) above one are.earlier (contained_of_filter (has_no_block blocks) above one old).0 in
      let late = (number_of_block first blocks other new).0 in
      omega (arith, early, late));
  earlier = All-append (λ lemma. lemma.number < first + length blocks) (filter (has_no_block blocks) above) (numbered first blocks)
      (All-filter (has_no_block blocks) (λ lemma. lemma.number < first + length blocks) above (λ k d inside. let early = are.earlier k d inside in omega (arith, early)))
      (all_of_contained (λ lemma. lemma.number < first + length blocks) (numbered first blocks) (λ lemma held. (number_of_block first blocks lemma held).1));
}

-- different agents are at most as many as there are
pub few_in_force : (agents next : ℕ) (above : List NumberedLemma) → AreNumbered agents next above → length above ≤ agents
few_in_force agents next above are =
    let of_lemmas : List ℕ = map (λ lemma. lemma.agent) above in
    let distinct : IsDistinct eqb of_lemmas = IsDistinct-from_AllPairs Decides-eqb of_lemmas (pairs_map (λ lemma. lemma.agent) (λ a b. a ≢ b) AreApart above are.apart (λ x y first second apart. apart)) in
    let few : length of_lemmas ≤ agents = length-le_from_distinct_below of_lemmas agents distinct (λ agent found.
    let held = Contains-from_any eqb-true agent of_lemmas found in
    let (lemma, inside, same) = contained_of_map (λ (l : NumberedLemma). l.agent) above agent held in
    subst (λ a. a < agents) same (All-contains (λ l. l.agent < agents) above lemma are.within inside)) in
    let long = length-map above (λ (lemma : NumberedLemma). lemma.agent) in
    omega (arith, few, long)

module _ (grid : GridMap) (agents : ℕ) (sizes : LineSizes) (cells_are : cells_of sizes ≡ grid.width * grid.height) (agents_are : sizes.agents ≡ agents) where
  split_in : (conflict : Conflict) → IsConflictInRange grid agents conflict → IsPart sizes (split_part (split_on conflict))
  split_in (Vertex i j cell tick) (first, second, on, soon) =
      ((omega (arith, first, agents_are), omega (arith, second, agents_are), omega (arith, on, cells_are), soon), tt)
  split_in (Swap i j from to tick) (first, second, on, also, soon) =
      ((omega (arith, first, agents_are), omega (arith, second, agents_are), omega (arith, on, cells_are), omega (arith, also, cells_are), soon), tt)

  leaf_in : (next : ℕ) (above : List NumberedLemma) → AreNumbered agents next above → next ≤ most_listed →
      IsPart sizes (parts.Leaf (record { list_number = None; singles = map (λ lemma. lemma.number) above; groups = [] }))
  leaf_in next above are few =
      let short = few_in_force agents next above are in
      let long = length-map above (λ (lemma : NumberedLemma). lemma.number) in (
        (omega (arith, short, long, agents_are), omega arith, tt),
        (
          record {
            each = All-map (IsListed sizes lines.Use FitsAnyhow) (λ lemma. lemma.number) above (λ k d inside. (let early = are.earlier k d inside in omega (arith, early, few), tt));
            rising = pairs_map (λ lemma. lemma.number) ◌<◌ (λ one other. one.number < other.number) above are.rising (λ x y first second less. less);
          },
          λ k d inside. absurd (omega arith),
        ),
      )

  pub cases_in : (tree : ConstraintTree) (first : ℕ) (above : List NumberedLemma) → AreNumbered agents first above → IsTreeInRange grid agents tree → first + block_count tree ≤ most_listed →
      All (IsPart sizes) (tree_parts (cases_from first above tree))
  cases_in (Split conflict blocks left right) first above are (split, here, on_left, on_right) few =
      let now = numbered_here grid agents first blocks above here are in
      All-cons (IsPart sizes) (split_part (split_on conflict)) _ (split_in conflict split)
      (All-append (IsPart sizes) (tree_parts (cases_from (first + length blocks) (in_force first blocks above) left)) (tree_parts (cases_from (first + length blocks + block_count left) (in_force first blocks above) right))
      (cases_in left (first + length blocks) (in_force first blocks above) now on_left (omega (arith, few)))
      (cases_in right (first + length blocks + block_count left) (in_force first blocks above)
      (numbered_later agents (first + length blocks) (first + length blocks + block_count left) (in_force first blocks above) (omega arith) now) on_right (omega (arith, few))))
  cases_in (Leaf blocks) first above are here few = all_of_one (IsPart sizes) _ (leaf_in (first + length blocks) (in_force first blocks above) (numbered_here grid agents first blocks above here are) few)
  cases_in (Clash i j) first above are (one, other) few = all_of_one (IsPart sizes) (parts.Clash i j) ((omega (arith, one, agents_are), omega (arith, other, agents_are)), tt)
