-- The parts of price lists, lemmas and a tree are each in its place.
use Rattle.std.proofs.Common.{◌≡◌, ℕ, ◌≤◌, ◌+◌, ◌-◌, List, [], ◌∷◌, ◌++◌, length, All, Bool, if◌then◌else◌, refl, sym, ap, subst, ◌∙◌, arith, append_assoc}
use Rattle.std.proofs.lemmas.Bool.{ne_eqb}
use Rattle.std.proofs.lemmas.List.{append-nil}
use Rattle.std.proofs.lemmas.List.Elements.{All-head, All-tail}
use Rattle.std.specs.List.{flat_map}
use Rattle.mapf_lemmas.specs.Cases.{CaseTree, Branch, Leaf, Clash}
use Rattle.mapf_lemmas.specs.Lemmas.{Lemma, One, Two, NeverArrive, ByCases}
use Rattle.mapf_lemmas.specs.Prices.{PriceList}
use Rattle.mapf_lemmas.specs.declared.split.Split.{Split}
use Rattle.mapf_lemmas.specs.declared.split.Split.TheVariants as splits
use Rattle.mapf_lemma_texts.specs.declared.due.Due.{Due}
use Rattle.mapf_lemma_texts.specs.declared.due.Due.TheVariants as dues
use Rattle.mapf_lemma_texts.specs.declared.line.LemmaLine.TheVariants as lines
use Rattle.mapf_lemma_texts.specs.declared.part.Part.{Part}
use Rattle.mapf_lemma_texts.specs.declared.part.Part.TheVariants as parts
use Rattle.mapf_lemma_texts.specs.declared.sizes.LineSizes.{LineSizes}
use Rattle.mapf_lemma_texts.specs.Due.{Admits, cases_due, due_after, lemmas_due, lists_after}
use Rattle.mapf_lemma_texts.specs.Lines.{line_text}
use Rattle.mapf_lemma_texts.specs.PartReading.{IsRest, AreSizesAfter, header_text}
use Rattle.mapf_lemma_texts.specs.Parts.{IsPart, first_line, part_text}
use Rattle.mapf_lemma_texts.specs.WholeTexts.{TreesHaveTexts, lemma_parts, lemmas_parts, lists_parts, parts_of, split_part, tree_parts}

-- each part is in its place, down to the end, and isn't the number of lists
abbrev Runs : Due → List Part → Type 0
Runs due [] = due ≡ dues.Tree 0
Runs due (part ∷ ps) = ((lists : ℕ) → lists_after lists part ≡ lists) × Admits due (first_line part) × Runs (due_after due part) ps

-- such parts are a rest
runs_rest : (sizes : LineSizes) (due : Due) (ps : List Part) → All (IsPart sizes) ps → Runs due ps → IsRest sizes due ps (flat_map (part_text sizes.width) ps ++ line_text sizes.width lines.End)
runs_rest sizes due [] are ends = (ends, refl)
runs_rest sizes due (part ∷ ps) are (count, place, others) =
    let after = flat_map (part_text sizes.width) ps ++ line_text sizes.width lines.End in
    let sized : AreSizesAfter sizes part sizes = record { width = refl; height = refl; agents = refl; lists = sym (count sizes.lists) } in (
      All-head (IsPart sizes) part ps are,
      place,
      sizes,
      sized,
      after,
      append_assoc (part_text sizes.width part) (flat_map (part_text sizes.width) ps) (line_text sizes.width lines.End),
      runs_rest sizes (due_after due part) ps (All-tail (IsPart sizes) part ps are) others,
    )

cases_more : (k n : ℕ) → 1 ≤ k → cases_due k n ≡ dues.Cases k n
cases_more k n some = ap (λ (b : Bool). if b then lemmas_due n else dues.Cases k n) (ne_eqb k 0 (λ e. omega (arith, e, some)))

lemmas_more : (n : ℕ) → 1 ≤ n → lemmas_due n ≡ dues.Lemmas n
lemmas_more n some = ap (λ (b : Bool). if b then dues.Tree 1 else dues.Lemmas n) (ne_eqb n 0 (λ e. omega (arith, e, some)))

moved : (a b : Due) (ps : List Part) → a ≡ b → Runs a ps → Runs b ps
moved a b ps same runs = subst (λ (d : Due). Runs d ps) same runs

-- a split of the last tree
split_last : (k : ℕ) (split : Split) (ps : List Part) → 1 ≤ k → Runs (dues.Tree (k + 1)) ps → Runs (dues.Tree k) (split_part split ∷ ps)
split_last k (splits.Vertex i j v t) ps some runs = (λ l. refl, (some, tt), runs)
split_last k (splits.Swap i j u v t) ps some runs = (λ l. refl, (some, tt), runs)
split_last k (splits.Cost i t) ps some runs = (λ l. refl, (some, tt), runs)
split_last k (splits.Costs i t j m n) ps some runs = (λ l. refl, (some, tt), runs)

split_cases : (k n : ℕ) (split : Split) (ps : List Part) → 1 ≤ k → Runs (cases_due (k + 1) n) ps → Runs (dues.Cases k n) (split_part split ∷ ps)
split_cases k n (splits.Vertex i j v t) ps some runs = (λ l. refl, (some, tt), runs)
split_cases k n (splits.Swap i j u v t) ps some runs = (λ l. refl, (some, tt), runs)
split_cases k n (splits.Cost i t) ps some runs = (λ l. refl, (some, tt), runs)
split_cases k n (splits.Costs i t j m l) ps some runs = (λ q. refl, (some, tt), runs)

-- the parts of a tree complete one subtree
tree_last : (tree : CaseTree) (k : ℕ) (ps : List Part) → Runs (dues.Tree k) ps → Runs (dues.Tree (k + 1)) (tree_parts tree ++ ps)
tree_last (Branch split left right) k ps runs =
    let both = tree_last left (k + 1) (tree_parts right ++ ps) (tree_last right k ps runs) in
    split_last (k + 1) split ((tree_parts left ++ tree_parts right) ++ ps) (omega arith) (subst (Runs (dues.Tree (k + 1 + 1))) (sym (append_assoc (tree_parts left) (tree_parts right) ps)) both)
tree_last (Leaf uses) k ps runs = (λ l. refl, (omega arith, tt), moved (dues.Tree k) (dues.Tree (k + 1 - 1)) ps (ap dues.Tree (omega arith)) runs)
tree_last (Clash i j) k ps runs = (λ l. refl, (omega arith, tt), moved (dues.Tree k) (dues.Tree (k + 1 - 1)) ps (ap dues.Tree (omega arith)) runs)

tree_cases : (tree : CaseTree) (k n : ℕ) (ps : List Part) → Runs (cases_due k n) ps → Runs (dues.Cases (k + 1) n) (tree_parts tree ++ ps)
tree_cases (Branch split left right) k n ps runs =
    let one = tree_cases right k n ps runs in
    let two = moved (dues.Cases (k + 1) n) (cases_due (k + 1) n) (tree_parts right ++ ps) (sym (cases_more (k + 1) n (omega arith))) one in
    let both = tree_cases left (k + 1) n (tree_parts right ++ ps) two in
    let all = ((tree_parts left ++ tree_parts right) ++ ps) in
    split_cases (k + 1) n split all (omega arith)
    (moved (dues.Cases (k + 1 + 1) n) (cases_due (k + 1 + 1) n) all (sym (cases_more (k + 1 + 1) n (omega arith)))
    (subst (Runs (dues.Cases (k + 1 + 1) n)) (sym (append_assoc (tree_parts left) (tree_parts right) ps)) both))
tree_cases (Leaf uses) k n ps runs = (λ l. refl, (omega arith, tt), moved (cases_due k n) (cases_due (k + 1 - 1) n) ps (ap (λ m. cases_due m n) (omega arith)) runs)
tree_cases (Clash i j) k n ps runs = (λ l. refl, (omega arith, tt), moved (cases_due k n) (cases_due (k + 1 - 1) n) ps (ap (λ m. cases_due m n) (omega arith)) runs)

last_runs : (tree : CaseTree) → Runs (dues.Tree 1) (tree_parts tree)
last_runs tree = subst (Runs (dues.Tree 1)) (append-nil (tree_parts tree)) (tree_last tree 0 [] refl)

-- a lemma before those that come after it
lemma_runs : (lemma : Lemma) (n : ℕ) (ps : List Part) → Runs (lemmas_due n) ps → Runs (dues.Lemmas (n + 1)) (lemma_parts lemma ++ ps)
lemma_runs (One i constraints number entries) n ps runs = (λ l. refl, (omega arith, tt), moved (lemmas_due n) (lemmas_due (n + 1 - 1)) ps (ap lemmas_due (omega arith)) runs)
lemma_runs (Two i j constraints number first second joint) n ps runs = (λ l. refl, (omega arith, tt), moved (lemmas_due n) (lemmas_due (n + 1 - 1)) ps (ap lemmas_due (omega arith)) runs)
lemma_runs (NeverArrive i j cells) n ps runs = (λ l. refl, (omega arith, tt), moved (lemmas_due n) (lemmas_due (n + 1 - 1)) ps (ap lemmas_due (omega arith)) runs)
lemma_runs (ByCases agents constraints bound tree) n ps runs =
    let same : dues.Cases 1 n ≡ dues.Cases 1 (n + 1 - 1) = ap (dues.Cases 1) (omega arith) in
    (λ l. refl, (omega arith, tt), moved (dues.Cases 1 n) (dues.Cases 1 (n + 1 - 1)) (tree_parts tree ++ ps) same (tree_cases tree 0 n ps runs))

lemmas_run : (lemmas : List Lemma) (tree : CaseTree) → Runs (lemmas_due (length lemmas)) (lemmas_parts lemmas tree)
lemmas_run [] tree = last_runs tree
lemmas_run (lemma ∷ lemmas) tree =
    let rest = lemmas_parts lemmas tree in
    let some : 1 ≤ length (lemma ∷ lemmas) = omega arith in
    let one = lemma_runs lemma (length lemmas) rest (lemmas_run lemmas tree) in
    let joined = subst (Runs (dues.Lemmas (length lemmas + 1))) (sym (append_assoc (lemma_parts lemma) (flat_map lemma_parts lemmas) (tree_parts tree))) one in
    let all = lemmas_parts (lemma ∷ lemmas) tree in
    moved (dues.Lemmas (length lemmas + 1)) (lemmas_due (length (lemma ∷ lemmas))) all (ap dues.Lemmas (omega arith) ∙ sym (lemmas_more (length (lemma ∷ lemmas)) some)) joined

lists_run : (lists : List PriceList) (lemmas : List Lemma) (tree : CaseTree) → Runs (dues.Lists (length lists)) (lists_parts lists lemmas tree)
lists_run [] lemmas tree = (λ l. refl, refl, lemmas_run lemmas tree)
lists_run (list ∷ lists) lemmas tree =
    let less : length lists ≡ length (list ∷ lists) - 1 = omega arith in
    (λ l. refl, omega arith, moved (dues.Lists (length lists)) (dues.Lists (length (list ∷ lists) - 1)) (lists_parts lists lemmas tree) (ap dues.Lists less) (lists_run lists lemmas tree))

pub trees_have_texts : TreesHaveTexts
trees_have_texts width height bytes agents claim lists lemmas tree text =
    let sizes = text.sizes in
    let first : LineSizes = record { width = sizes.width; height = sizes.height; agents = sizes.agents; lists = 0; narrow = sizes.narrow; low = sizes.low; few = sizes.few; listed = omega arith } in
    let others = lists_parts lists lemmas tree in
    let head = All-head (IsPart sizes) (parts.Prices (length lists)) others text.in_range in
    let w = sizes.width in
    let after = flat_map (part_text w) others ++ line_text w lines.End in
    let whole : flat_map (part_text w) (parts_of lists lemmas tree) ++ line_text w lines.End ≡ part_text w (parts.Prices (length lists)) ++ after = append_assoc (part_text w (parts.Prices (length lists))) (flat_map (part_text w) others) (line_text w lines.End) in
    let spelled = subst (λ (v : ℕ). bytes ≡ header_text width agents claim ++ (flat_map (part_text v) (parts_of lists lemmas tree) ++ line_text v lines.End)) (sym text.width_is) text.spelled in
    let sized : AreSizesAfter first (parts.Prices (length lists)) sizes = record { width = refl; height = refl; agents = refl; lists = text.lists_are } in
    record {
      agents_in_range = text.agents_in_range;
      claim_in_range = text.claim_in_range;
      sizes = first;
      first_sizes = record { width_is = text.width_is; height_is = text.height_is; agents_are = text.agents_are; no_lists = refl };
      after = part_text w (parts.Prices (length lists)) ++ after;
      spelled = spelled ∙ ap (λ q. header_text width agents claim ++ q) whole;
      rest = (head, tt, sizes, sized, after, refl, runs_rest sizes (dues.Lists (length lists)) others (All-tail (IsPart sizes) (parts.Prices (length lists)) others text.in_range) (lists_run lists lemmas tree));
    }
