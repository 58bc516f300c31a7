-- A certificate of version 1 or 2 can be converted exactly if some text spells the converted one.
use Rattle.std.proofs.Common.{ℕ, List, [], ◌∷◌, All, length, refl, arith}
use Rattle.std.specs.List.{flat_map}
use Rattle.std.proofs.lemmas.List.Elements.{All-append, All-cons, All-head, All-nil, All-tail}
use Rattle.mapf_lemma_texts.specs.declared.part.Part.TheVariants as parts
use Rattle.mapf_lemma_texts.specs.Parts.{IsPart}
use Rattle.mapf_lemma_texts.specs.Ranges.{IsOneTo}
use Rattle.mapf_lemma_texts.specs.WholeTexts.{SpellsCertificate, lemma_parts, lemmas_parts, lists_parts, tree_parts}
use Rattle.mapf_model.specs.declared.item.Claim.{Claim}
use Rattle.mapf_model.specs.Grid.{GridMap, IsGridMap}
use Rattle.mapf_model.specs.Limits.{most_agents}
use Rattle.mapf_model.specs.Printed.{IsClaimInRange, IsTreeInRange}
use Rattle.mapf_model.specs.Tree.{ConstraintTree, root}
use Rattle.mapf_model.proofs.ContainsLemmas.{Contains-none}
use Rattle.mapf_lemma_convert.specs.Conversion.{CanBeConverted, cases_of, converted_text, lemmas_of}
use Rattle.mapf_lemma_convert.specs.NodeWalk.{PartFits}
use Rattle.mapf_lemma_convert.proofs.PartLemmas.{part_fits}
use Rattle.mapf_lemma_convert.proofs.BarLemmas.{lemma_count}
use Rattle.mapf_lemma_convert.proofs.CaseRanges.{cases_in, none_numbered}
use Rattle.mapf_lemma_convert.proofs.ListLemmas.{all_parts}
use Rattle.mapf_lemma_convert.proofs.RangeLemmas.{lemmas_in, sizes_on, tree_fits}

all_flat : {X Y : Type 0} (P : Y → Type 0) (f : X → List Y) (xs : List X) → All (λ x. All P (f x)) xs → All P (flat_map f xs)
all_flat P f [] all = All-nil P
all_flat P f (x ∷ xs) all = All-append P (f x) (flat_map f xs) (All-head (λ y. All P (f y)) x xs all) (all_flat P f xs (All-tail (λ y. All P (f y)) x xs all))

pub all_of_flat : {X Y : Type 0} (P : Y → Type 0) (f : X → List Y) (xs : List X) → All P (flat_map f xs) → All (λ x. All P (f x)) xs
all_of_flat P f [] all = All-nil (λ x. All P (f x))
all_of_flat P f (x ∷ xs) all =
    let (here, later) = all_parts P (f x) (flat_map f xs) all in
    All-cons (λ y. All P (f y)) x xs here (all_of_flat P f xs later)

module _ (grid : GridMap) (agents : ℕ) (claim : Claim) (tree : ConstraintTree) where
  pub spelled : IsGridMap grid → IsOneTo most_agents agents → IsClaimInRange claim → IsTreeInRange grid agents tree → CanBeConverted tree →
      SpellsCertificate grid.width grid.height (converted_text grid agents claim tree) agents claim [] (lemmas_of tree) (cases_of tree)
  spelled (wide, narrow, high, low, cells) few claim_in_range range (fit, count) =
      let sizes = sizes_on grid agents (wide, narrow) (high, low) few in
      let lemmas_long = lemma_count root.bars tree in
      let all_lemmas = lemmas_in grid agents sizes refl refl tree root (λ agent bar held. absurd (Contains-none bar held)) range fit in
      let all_cases = cases_in grid agents sizes refl refl tree 0 [] (none_numbered agents) range (omega (arith, count)) in
      record {
        agents_in_range = few;
        claim_in_range = claim_in_range;
        sizes = sizes;
        width_is = refl;
        height_is = refl;
        agents_are = refl;
        lists_are = refl;
        in_range = All-cons (IsPart sizes) (parts.Prices 0) (lists_parts [] (lemmas_of tree) (cases_of tree)) (omega arith, tt)
            (All-cons (IsPart sizes) (parts.Lemmas (length (lemmas_of tree))) (lemmas_parts (lemmas_of tree) (cases_of tree)) (omega (arith, count, lemmas_long), tt)
            (All-append (IsPart sizes) (flat_map lemma_parts (lemmas_of tree)) (tree_parts (cases_of tree)) (all_flat (IsPart sizes) lemma_parts (lemmas_of tree) all_lemmas) all_cases));
        spelled = refl;
      }

  pub convertible : (bytes : List ℕ) → SpellsCertificate grid.width grid.height bytes agents claim [] (lemmas_of tree) (cases_of tree) → CanBeConverted tree
  convertible bytes spells =
      let later = All-tail (IsPart spells.sizes) (parts.Prices 0) (lists_parts [] (lemmas_of tree) (cases_of tree)) spells.in_range in
      let lemmas_part = All-head (IsPart spells.sizes) (parts.Lemmas (length (lemmas_of tree))) (lemmas_parts (lemmas_of tree) (cases_of tree)) later in
      let rest = All-tail (IsPart spells.sizes) (parts.Lemmas (length (lemmas_of tree))) (lemmas_parts (lemmas_of tree) (cases_of tree)) later in
      let (lemmas, cases) = all_parts (IsPart spells.sizes) (flat_map lemma_parts (lemmas_of tree)) (tree_parts (cases_of tree)) rest in
      let lemmas_long = lemma_count root.bars tree in
      let few = lemmas_part.0 in
      (tree_fits tree root (all_of_flat PartFits lemma_parts (lemmas_of tree) (λ k d inside. part_fits spells.sizes _ (lemmas k d inside))), omega (arith, few, lemmas_long))
