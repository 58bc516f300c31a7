-- The text of what a walk made.
use Rattle.std.proofs.Common.{◌≡◌, ℕ, List, [], ◌∷◌, ◌++◌, All, Some, OnOk, Result, Ok, Err, length, append_assoc, sym, ap, ◌∙◌, arith}
use Rattle.std.specs.List.{flat_map}
use Rattle.std.proofs.lemmas.Grind.{flat_map-append}
use Rattle.std.proofs.lemmas.List.Elements.{All-tail}
use Rattle.mapf_fields.specs.Pages.{Passes}
use Rattle.mapf_certificate.specs.Certificates.{SpellsCert}
use Rattle.mapf_certificate.specs.declared.version.Version.{Version}
use Rattle.mapf_model.specs.declared.item.Claim.{Claim}
use Rattle.mapf_model.specs.Grid.{GridMap, IsGridMap}
use Rattle.mapf_model.specs.Tree.{ConstraintTree, root}
use Rattle.mapf_lemma_texts.specs.declared.line.LemmaLine.TheVariants as lines
use Rattle.mapf_lemma_texts.specs.declared.part.Part.{Part}
use Rattle.mapf_lemma_texts.specs.declared.part.Part.TheVariants as parts
use Rattle.mapf_lemma_texts.specs.Lines.{line_text}
use Rattle.mapf_lemma_texts.specs.PartReading.{header_text}
use Rattle.mapf_lemma_texts.specs.Parts.{IsPart, part_text}
use Rattle.mapf_lemma_texts.specs.PartWriting.{HasFewValues}
use Rattle.mapf_lemma_texts.specs.WholeTexts.{lemma_parts, lemmas_parts, lists_parts, tree_parts}
use Rattle.mapf_lemma_convert.specs.Conversion.{CanBeConverted, cases_of, converted_text, lemmas_of}
use Rattle.mapf_lemma_convert.specs.Laws.{SpellsConverted}
use Rattle.mapf_lemma_convert.specs.NodeWalk.{PartFits, LemmasFit, walked_text}
use Rattle.mapf_lemma_convert.proofs.BarLemmas.{lemma_count}
use Rattle.mapf_lemma_convert.proofs.ListLemmas.{all_parts}
use Rattle.mapf_lemma_convert.proofs.PartLemmas.{part_fits, part_few}
use Rattle.mapf_lemma_convert.proofs.RangeLemmas.{tree_fits}
use Rattle.mapf_lemma_convert.proofs.TextLemmas.{all_of_flat, spelled}
use Rattle.mapf_lemma_convert.proofs.WalkLemmas.{parts_count, walked_tree}

pub written : (grid : GridMap) (agents : ℕ) (claim : Claim) (tree : ConstraintTree) → walked_text grid.width agents claim (walked_tree tree) ≡ converted_text grid agents claim tree
written grid agents claim tree =
    let text : List Part → List ℕ = flat_map (part_text grid.width) in
    let lemmas = flat_map lemma_parts (lemmas_of tree) in
    let nodes = tree_parts (cases_of tree) in
    let end = line_text grid.width lines.End in
    let front : ℕ → List Part = λ n. parts.Prices 0 ∷ (parts.Lemmas n ∷ []) in
    let n = length lemmas in
    let m = length (lemmas_of tree) in
    let some = parts_count root.bars tree in
    let all = lemma_count root.bars tree in
    let same : n ≡ m = omega (arith, some, all) in
    ap (λ t. header_text grid.width agents claim ++ t)
    (ap (λ k. text (front k) ++ (text lemmas ++ (text nodes ++ end))) same
    ∙ ap (λ t. text (front m) ++ t) (sym (append_assoc (text lemmas) (text nodes) end))
    ∙ sym (append_assoc (text (front m)) (text lemmas ++ text nodes) end)
    ∙ ap (λ t. (text (front m) ++ t) ++ end) (sym (flat_map-append (part_text grid.width) lemmas nodes))
    ∙ ap (λ t. t ++ end) (sym (flat_map-append (part_text grid.width) (front m) (lemmas ++ nodes))))

-- a tree whose lemmas fit can be converted
pub can_be : (tree : ConstraintTree) → LemmasFit (flat_map lemma_parts (lemmas_of tree)) → CanBeConverted tree
can_be tree (fit, few) =
    let count = parts_count root.bars tree in
    (tree_fits tree root (all_of_flat PartFits lemma_parts (lemmas_of tree) fit), omega (arith, count, few))

module _ (grid : GridMap) (old : List ℕ) (version : Version) (agents : ℕ) (claim : Claim) (tree : ConstraintTree) (is_grid : IsGridMap grid) (spells : SpellsCert grid old version agents claim tree) (can : CanBeConverted tree) where
  pub spells_converted : SpellsConverted grid (converted_text grid agents claim tree) agents claim tree
  spells_converted = spelled grid agents claim tree is_grid spells.agents_in_range spells.claim_in_range spells.tree_in_range can

  -- the parts of a tree that can be converted are in range
  pub lemmas_and_cases : (P : Part → Type 0) → ((part : Part) → IsPart spells_converted.sizes part → P part) → All P (flat_map lemma_parts (lemmas_of tree)) × All P (tree_parts (cases_of tree))
  lemmas_and_cases P holds =
      let sizes = spells_converted.sizes in
      let later = All-tail (IsPart sizes) (parts.Prices 0) (lists_parts [] (lemmas_of tree) (cases_of tree)) spells_converted.in_range in
      let rest = All-tail (IsPart sizes) (parts.Lemmas (length (lemmas_of tree))) (lemmas_parts (lemmas_of tree) (cases_of tree)) later in
      let (lemmas, nodes) = all_parts (IsPart sizes) (flat_map lemma_parts (lemmas_of tree)) (tree_parts (cases_of tree)) rest in
      (λ k d inside. holds _ (lemmas k d inside), λ k d inside. holds _ (nodes k d inside))

  pub lemmas_fit : LemmasFit (flat_map lemma_parts (lemmas_of tree))
  lemmas_fit =
      let count = parts_count root.bars tree in
      let few = can.1 in
      ((lemmas_and_cases PartFits (part_fits spells_converted.sizes)).0, omega (arith, count, few))

  pub parts_few : All HasFewValues (flat_map lemma_parts (lemmas_of tree)) × All HasFewValues (tree_parts (cases_of tree))
  parts_few = lemmas_and_cases HasFewValues (part_few spells_converted.sizes)

-- what was passed on and what was left on the page are the text
pub written_after : {T E : Type 0} (r : Result T E) (out start held b page one two three four end : List ℕ) → start ≡ [] → held ≡ [] →
    Passes (Some start) (Some b) held page (one ++ (two ++ (three ++ four))) → OnOk r (out ≡ b ++ (page ++ end)) → OnOk r (out ≡ one ++ (two ++ (three ++ (four ++ end))))
written_after (Err e) out start held b page one two three four end none empty p rest = tt
written_after (Ok x) out start held b page one two three four end none empty p rest =
    rest
    ∙ ap (λ t. t ++ (page ++ end)) (p.wrote ∙ ap (λ t. t ++ p.gone) none)
    ∙ sym (append_assoc p.gone page end)
    ∙ ap (λ t. t ++ end) (sym p.same ∙ ap (λ t. t ++ (one ++ (two ++ (three ++ four)))) empty)
    ∙ append_assoc one (two ++ (three ++ four)) end
    ∙ ap (λ t. one ++ t) (append_assoc two (three ++ four) end ∙ ap (λ t. two ++ t) (append_assoc three four end))
