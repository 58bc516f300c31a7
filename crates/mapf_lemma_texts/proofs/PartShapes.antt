-- Parts, each in its place, are those of price lists, lemmas and trees.
use Rattle.std.proofs.Common.{◌≡◌, ℕ, ◌≤◌, ◌+◌, ◌-◌, ◌==◌, List, [], ◌∷◌, ◌++◌, length, map, All, Contains, inl, inr, Bool, true, false, if◌then◌else◌, refl, sym, ap, subst, ◌∙◌, arith, append_assoc}
use Rattle.std.specs.List.{flat_map}
use Rattle.std.proofs.lemmas.Bool.{eqb-true}
use Rattle.std.proofs.lemmas.List.{append-nil}
use Rattle.std.proofs.lemmas.List.Elements.{All-head, All-tail, All-cons, All-nil}
use Rattle.mapf_model.proofs.ContainsLemmas.{Contains-cons_cases, Contains-none}
use Rattle.mapf_lemmas.specs.Cases.{CaseTree, Branch, Leaf, Clash}
use Rattle.mapf_lemmas.specs.Lemmas.{Lemma, One, Two, NeverArrive, ByCases}
use Rattle.mapf_lemmas.specs.Prices.{PriceList}
use Rattle.mapf_lemmas.specs.declared.constraint.AgentConstraint.{AgentConstraint}
use Rattle.mapf_lemmas.specs.declared.split.Split.{Split}
use Rattle.mapf_lemmas.specs.declared.split.Split.TheVariants as splits
use Rattle.mapf_lemma_texts.specs.declared.due.Due.{Due}
use Rattle.mapf_lemma_texts.specs.declared.due.Due.TheVariants as dues
use Rattle.mapf_lemma_texts.specs.declared.part.Part.{Part}
use Rattle.mapf_lemma_texts.specs.declared.part.Part.TheVariants as parts
use Rattle.mapf_lemma_texts.specs.declared.sizes.LineSizes.{LineSizes}
use Rattle.mapf_lemma_texts.specs.Due.{Admits, cases_due, due_after, lemmas_due, lists_after, pending_after}
use Rattle.mapf_lemma_texts.specs.PartReading.{AreFirstSizes, IsRest, header_text}
use Rattle.mapf_lemma_texts.specs.PartValues.{OneValue, CasesValue}
use Rattle.mapf_lemma_texts.specs.Parts.{IsPart, first_line, part_text}
use Rattle.mapf_lemma_texts.specs.Lines.{line_text}
use Rattle.mapf_lemma_texts.specs.Ranges.{IsOneTo}
use Rattle.mapf_lemma_texts.specs.declared.line.LemmaLine.TheVariants as lines
use Rattle.mapf_lemma_texts.proofs.SizesLaws.{same_sizes}
use Rattle.mapf_model.specs.Limits.{most_agents}
use Rattle.mapf_model.specs.Printed.{IsClaimInRange}
use Rattle.mapf_model.specs.declared.item.Claim.{Claim}
use Rattle.mapf_lemma_texts.specs.WholeTexts.{SpellsCertificate, TextsHaveTrees, constraint_of, lemma_parts, lemmas_parts, lists_parts, parts_of, split_part, tree_parts}

-- so many trees
record Trees (k : ℕ) (ps : List Part) : Type 0 where
  trees : List CaseTree
  many : length trees ≡ k
  same : ps ≡ flat_map tree_parts trees

-- so many lemmas and the last tree
record LemmasTree (n : ℕ) (ps : List Part) : Type 0 where
  lemmas : List Lemma
  tree : CaseTree
  many : length lemmas ≡ n
  same : ps ≡ lemmas_parts lemmas tree

-- so many trees of a lemma by cases, then so many lemmas and the last tree
record TreesLemmas (k n : ℕ) (ps : List Part) : Type 0 where
  trees : List CaseTree
  rest : List Part
  many : length trees ≡ k
  same : ps ≡ flat_map tree_parts trees ++ rest
  others : LemmasTree n rest

-- so many lists, then lemmas and the last tree
record ListsLemmas (n : ℕ) (ps : List Part) : Type 0 where
  lists : List PriceList
  lemmas : List Lemma
  tree : CaseTree
  many : length lists ≡ n
  same : ps ≡ lists_parts lists lemmas tree

-- all parts
record AllParts (ps : List Part) : Type 0 where
  lists : List PriceList
  lemmas : List Lemma
  tree : CaseTree
  same : ps ≡ parts_of lists lemmas tree

abbrev Shape : Due → List Part → Type 0
Shape dues.Prices ps = AllParts ps
Shape (dues.Lists n) ps = ListsLemmas n ps
Shape (dues.Lemmas n) ps = LemmasTree n ps
Shape (dues.Cases k n) ps = TreesLemmas k n ps
Shape (dues.Tree k) ps = Trees k ps

-- one tree is the last one, without lemmas
last_tree : (ps : List Part) → Trees 1 ps → LemmasTree 0 ps
last_tree ps shape = by shape.trees shape.many shape.same
  where
    by : (trees : List CaseTree) → length trees ≡ 1 → ps ≡ flat_map tree_parts trees → LemmasTree 0 ps
    by [] many same = absurd (omega (arith, many))
    by (tree ∷ []) many same = record { lemmas = []; tree = tree; many = refl; same = same ∙ append-nil (tree_parts tree) }
    by (tree ∷ other ∷ trees) many same = absurd (omega (arith, many))

lemmas_shape : (n : ℕ) (ps : List Part) → Shape (lemmas_due n) ps → LemmasTree n ps
lemmas_shape n ps shape = by (n == 0) refl shape
  where
    by : (b : Bool) → (n == 0) ≡ b → Shape (if b then dues.Tree 1 else dues.Lemmas n) ps → LemmasTree n ps
    by true e held = subst (λ (m : ℕ). LemmasTree m ps) (sym (eqb-true n 0 e)) (last_tree ps held)
    by false e held = held

cases_shape : (k n : ℕ) (ps : List Part) → Shape (cases_due k n) ps → TreesLemmas k n ps
cases_shape k n ps shape = by (k == 0) refl shape
  where
    by : (b : Bool) → (k == 0) ≡ b → Shape (if b then lemmas_due n else dues.Cases k n) ps → TreesLemmas k n ps
    by true e held = record { trees = []; rest = ps; many = sym (eqb-true k 0 e); same = refl; others = lemmas_shape n ps held }
    by false e held = held

-- a split before two trees
branch : (k : ℕ) (ps rest : List Part) (split : Split) (trees : List CaseTree) → 1 ≤ k → length trees ≡ k + 1 → ps ≡ flat_map tree_parts trees ++ rest
    → (others : List CaseTree) × (length others ≡ k) × (split_part split ∷ ps ≡ flat_map tree_parts others ++ rest)
branch k ps rest split [] some many same = absurd (omega (arith, many))
branch k ps rest split (one ∷ []) some many same = absurd (omega (arith, some, many))
branch k ps rest split (left ∷ right ∷ trees) some many same =
    let l = tree_parts left in
    let r = tree_parts right in
    let t = flat_map tree_parts trees in
    let joined : (l ++ (r ++ t)) ++ rest ≡ ((l ++ r) ++ t) ++ rest = ap (λ q. q ++ rest) (sym (append_assoc l r t)) in
    (Branch split left right ∷ trees, omega (arith, many), ap (λ q. split_part split ∷ q) (same ∙ joined))

split_in : (k : ℕ) (ps : List Part) (split : Split) → 1 ≤ k → Trees (k + 1) ps → Trees k (split_part split ∷ ps)
split_in k ps split some shape =
    let (others, many, same) = branch k ps [] split shape.trees some shape.many (shape.same ∙ sym (append-nil (flat_map tree_parts shape.trees))) in
    record { trees = others; many = many; same = same ∙ append-nil (flat_map tree_parts others) }

split_before : (k n : ℕ) (ps : List Part) (split : Split) → 1 ≤ k → TreesLemmas (k + 1) n ps → TreesLemmas k n (split_part split ∷ ps)
split_before k n ps split some shape =
    let (others, many, same) = branch k ps shape.rest split shape.trees some shape.many shape.same in
    record { trees = others; rest = shape.rest; many = many; same = same; others = shape.others }

-- a leaf or clash before the others
leaf_in : (k : ℕ) (ps : List Part) (tree : CaseTree) (part : Part) → tree_parts tree ≡ part ∷ [] → 1 ≤ k → Trees (k - 1) ps → Trees k (part ∷ ps)
leaf_in k ps tree part is some shape = record {
  trees = tree ∷ shape.trees;
  many = omega (arith, some, shape.many);
  same = ap (λ q. part ∷ q) shape.same ∙ ap (λ q. q ++ flat_map tree_parts shape.trees) (sym is);
}

leaf_before : (k n : ℕ) (ps : List Part) (tree : CaseTree) (part : Part) → tree_parts tree ≡ part ∷ [] → 1 ≤ k → TreesLemmas (k - 1) n ps → TreesLemmas k n (part ∷ ps)
leaf_before k n ps tree part is some shape =
    let t = flat_map tree_parts shape.trees in
    record {
      trees = tree ∷ shape.trees;
      rest = shape.rest;
      many = omega (arith, some, shape.many);
      same = ap (λ q. part ∷ q) shape.same ∙ ap (λ q. (q ++ t) ++ shape.rest) (sym is);
      others = shape.others;
    }

-- a lemma of one part before the others
lemma_before : (n : ℕ) (ps : List Part) (lemma : Lemma) (part : Part) → lemma_parts lemma ≡ part ∷ [] → 1 ≤ n → LemmasTree (n - 1) ps → LemmasTree n (part ∷ ps)
lemma_before n ps lemma part is some shape =
    let t = flat_map lemma_parts shape.lemmas in
    record {
      lemmas = lemma ∷ shape.lemmas;
      tree = shape.tree;
      many = omega (arith, some, shape.many);
      same = ap (λ q. part ∷ q) shape.same ∙ ap (λ q. (q ++ t) ++ tree_parts shape.tree) (sym is);
    }

-- constraints of one agent
constraints_again : (i : ℕ) (cs : List AgentConstraint) → All (λ c. c.agent ≡ i) cs → cs ≡ map (constraint_of i) (map (λ c. c.constraint) cs)
constraints_again i [] all = refl
constraints_again i (c ∷ cs) all =
    let here : c ≡ constraint_of i c.constraint = ap (λ n. let d : AgentConstraint = record { agent = n; constraint = c.constraint } in d) (All-head (λ d. d.agent ≡ i) c cs all) in
    ap (λ d. d ∷ cs) here ∙ ap (λ ds. constraint_of i c.constraint ∷ ds) (constraints_again i cs (All-tail (λ d. d.agent ≡ i) c cs all))

-- an agent of a list of one
own_agent : (i j : ℕ) → Contains (i ∷ []) j → j ≡ i
own_agent i j held = elim (Contains-cons_cases i j [] held) [
  | inl same ↦ sym same
  | inr none ↦ absurd (Contains-none j none)
]

one_lemma : OneValue → Lemma
one_lemma v = One v.agent (map (λ c. c.constraint) v.constraints) v.list_number v.entries

one_is : (sizes : LineSizes) (v : OneValue) → IsPart sizes (parts.One v) → lemma_parts (one_lemma v) ≡ parts.One v ∷ []
unfolding one_lemma
one_is sizes v is =
    let own : All (λ (c : AgentConstraint). c.agent ≡ v.agent) v.constraints = λ k d inside. own_agent v.agent _ (is.1.0.each k d inside).1 in
    ap (λ cs. let w : OneValue = record { agent = v.agent; constraints = cs; list_number = v.list_number; entries = v.entries } in parts.One w ∷ []) (sym (constraints_again v.agent v.constraints own))

-- a lemma by cases before the others: its tree comes first
cases_lemma : (n : ℕ) (ps : List Part) (v : CasesValue) → 1 ≤ n → TreesLemmas 1 (n - 1) ps → LemmasTree n (parts.Cases v ∷ ps)
cases_lemma n ps v some shape = by shape.trees shape.many shape.same
  where
    by : (trees : List CaseTree) → length trees ≡ 1 → ps ≡ flat_map tree_parts trees ++ shape.rest → LemmasTree n (parts.Cases v ∷ ps)
    by [] many same = absurd (omega (arith, many))
    by (tree ∷ []) many same =
        let t = tree_parts tree in
        let others = flat_map lemma_parts shape.others.lemmas in
        let last = tree_parts shape.others.tree in
        let all : ps ≡ (t ++ others) ++ last = same ∙ ap (λ q. q ++ shape.rest) (append-nil t) ∙ ap (λ q. t ++ q) shape.others.same ∙ sym (append_assoc t others last) in
        record {
          lemmas = ByCases v.agents v.constraints v.bound tree ∷ shape.others.lemmas;
          tree = shape.others.tree;
          many = omega (arith, some, shape.others.many);
          same = ap (λ q. parts.Cases v ∷ q) all;
        }
    by (tree ∷ other ∷ trees) many same = absurd (omega (arith, many))

-- a node of the tree of a lemma by cases
in_cases : (k n : ℕ) (part : Part) (ps : List Part) → Admits (dues.Cases k n) (first_line part) → TreesLemmas (pending_after k part) n ps → TreesLemmas k n (part ∷ ps)
in_cases k n (parts.Vertex i j v t) ps place shape = split_before k n ps (splits.Vertex i j v t) place.0 shape
in_cases k n (parts.Swap i j u v t) ps place shape = split_before k n ps (splits.Swap i j u v t) place.0 shape
in_cases k n (parts.Cost i t) ps place shape = split_before k n ps (splits.Cost i t) place.0 shape
in_cases k n (parts.Costs i t j m l) ps place shape = split_before k n ps (splits.Costs i t j m l) place.0 shape
in_cases k n (parts.Leaf leaf) ps place shape = leaf_before k n ps (Leaf leaf) (parts.Leaf leaf) refl place.0 shape
in_cases k n (parts.Clash i j) ps place shape = leaf_before k n ps (Clash i j) (parts.Clash i j) refl place.0 shape
in_cases k n _ ps place shape = absurd place.1

-- a node of the last tree
in_tree : (k : ℕ) (part : Part) (ps : List Part) → Admits (dues.Tree k) (first_line part) → Trees (pending_after k part) ps → Trees k (part ∷ ps)
in_tree k (parts.Vertex i j v t) ps place shape = split_in k ps (splits.Vertex i j v t) place.0 shape
in_tree k (parts.Swap i j u v t) ps place shape = split_in k ps (splits.Swap i j u v t) place.0 shape
in_tree k (parts.Cost i t) ps place shape = split_in k ps (splits.Cost i t) place.0 shape
in_tree k (parts.Costs i t j m l) ps place shape = split_in k ps (splits.Costs i t j m l) place.0 shape
in_tree k (parts.Leaf leaf) ps place shape = leaf_in k ps (Leaf leaf) (parts.Leaf leaf) refl place.0 shape
in_tree k (parts.Clash i j) ps place shape = leaf_in k ps (Clash i j) (parts.Clash i j) refl place.0 shape
in_tree k _ ps place shape = absurd place.1

-- a list, or the number of lemmas
in_lists : (n : ℕ) (part : Part) (ps : List Part) → Admits (dues.Lists n) (first_line part) → Shape (due_after (dues.Lists n) part) ps → ListsLemmas n (part ∷ ps)
in_lists n (parts.List list) ps place shape =
    record { lists = list ∷ shape.lists; lemmas = shape.lemmas; tree = shape.tree; many = omega (arith, place, shape.many); same = ap (λ q. parts.List list ∷ q) shape.same }
in_lists n (parts.Lemmas count) ps place shape =
    let inner = lemmas_shape count ps shape in
    record { lists = []; lemmas = inner.lemmas; tree = inner.tree; many = sym place; same = ap (λ q. parts.Lemmas count ∷ q) inner.same ∙ ap (λ m. parts.Lemmas m ∷ lemmas_parts inner.lemmas inner.tree) (sym inner.many) }
in_lists n _ ps place shape = absurd place

-- a lemma
in_lemmas : (sizes : LineSizes) (n : ℕ) (part : Part) (ps : List Part) → IsPart sizes part → Admits (dues.Lemmas n) (first_line part) → Shape (due_after (dues.Lemmas n) part) ps → LemmasTree n (part ∷ ps)
in_lemmas sizes n (parts.One v) ps is place shape = lemma_before n ps (one_lemma v) (parts.One v) (one_is sizes v is) place.0 (lemmas_shape (n - 1) ps shape)
in_lemmas sizes n (parts.Two v) ps is place shape = lemma_before n ps (Two v.i v.j v.constraints v.list_number v.first v.second v.joint) (parts.Two v) refl place.0 (lemmas_shape (n - 1) ps shape)
in_lemmas sizes n (parts.Never v) ps is place shape = lemma_before n ps (NeverArrive v.i v.j v.cells) (parts.Never v) refl place.0 (lemmas_shape (n - 1) ps shape)
in_lemmas sizes n (parts.Cases v) ps is place shape = cases_lemma n ps v place.0 (cases_shape 1 (n - 1) ps shape)
in_lemmas sizes n _ ps is place shape = absurd place.1

-- the number of lists
in_all : (part : Part) (ps : List Part) → Admits dues.Prices (first_line part) → Shape (due_after dues.Prices part) ps → AllParts (part ∷ ps)
in_all (parts.Prices n) ps place shape =
    record { lists = shape.lists; lemmas = shape.lemmas; tree = shape.tree; same = ap (λ q. parts.Prices n ∷ q) shape.same ∙ ap (λ m. parts.Prices m ∷ lists_parts shape.lists shape.lemmas shape.tree) (sym shape.many) }
in_all _ ps place shape = absurd place

-- one part before those that come after it
step : (sizes : LineSizes) (due : Due) (part : Part) (ps : List Part) → IsPart sizes part → Admits due (first_line part) → Shape (due_after due part) ps → Shape due (part ∷ ps)
step sizes dues.Prices part ps is place shape = in_all part ps place shape
step sizes (dues.Lists n) part ps is place shape = in_lists n part ps place shape
step sizes (dues.Lemmas n) part ps is place shape = in_lemmas sizes n part ps is place shape
step sizes (dues.Cases k n) part ps is place shape = in_cases k n part ps place (cases_shape (pending_after k part) n ps shape)
step sizes (dues.Tree k) part ps is place shape = in_tree k part ps place shape

shape_of : (sizes : LineSizes) (due : Due) (ps : List Part) (bytes : List ℕ) → IsRest sizes due ps bytes → Shape due ps
shape_of sizes due [] bytes (ends, spelled) = subst (λ (d : Due). Shape d []) (sym ends) (record { trees = []; many = refl; same = refl })
shape_of sizes due (part ∷ ps) bytes (is, place, later, sizes_after, after, spelled, rest) = step sizes due part ps is place (shape_of later (due_after due part) ps after rest)

-- the number of lists was read
abbrev IsLater : Due → Type 0
IsLater dues.Prices = ⊥
IsLater (dues.Lists left) = Unit {0}
IsLater (dues.Lemmas left) = Unit {0}
IsLater (dues.Cases pending left) = Unit {0}
IsLater (dues.Tree pending) = Unit {0}

lemmas_later : (n : ℕ) → IsLater (lemmas_due n)
lemmas_later n = by (n == 0)
  where
    by : (b : Bool) → IsLater (if b then dues.Tree 1 else dues.Lemmas n)
    by true = tt
    by false = tt

cases_later : (k n : ℕ) → IsLater (cases_due k n)
cases_later k n = by (k == 0)
  where
    by : (b : Bool) → IsLater (if b then lemmas_due n else dues.Cases k n)
    by true = lemmas_later n
    by false = tt

list_later : (n : ℕ) (part : Part) → IsLater (due_after (dues.Lists n) part)
list_later n (parts.Lemmas count) = lemmas_later count
list_later n _ = tt

lemma_later : (n : ℕ) (part : Part) → IsLater (due_after (dues.Lemmas n) part)
lemma_later n (parts.Cases v) = cases_later 1 (n - 1)
lemma_later n _ = lemmas_later (n - 1)

part_later : (due : Due) (part : Part) → IsLater due → IsLater (due_after due part)
part_later dues.Prices part later = absurd later
part_later (dues.Lists n) part later = list_later n part
part_later (dues.Lemmas n) part later = lemma_later n part
part_later (dues.Cases k n) part later = cases_later (pending_after k part) n
part_later (dues.Tree k) part later = tt

-- later parts tell no number of lists
count_kept : (due : Due) (part : Part) (lists : ℕ) → IsLater due → Admits due (first_line part) → lists_after lists part ≡ lists
count_kept dues.Prices part lists later place = absurd later
count_kept (dues.Lists n) (parts.Prices count) lists later place = absurd place
count_kept (dues.Lists n) _ lists later place = refl
count_kept (dues.Lemmas n) (parts.Prices count) lists later place = absurd place.1
count_kept (dues.Lemmas n) _ lists later place = refl
count_kept (dues.Cases k n) (parts.Prices count) lists later place = absurd place.1
count_kept (dues.Cases k n) _ lists later place = refl
count_kept (dues.Tree k) (parts.Prices count) lists later place = absurd place.1
count_kept (dues.Tree k) _ lists later place = refl

-- the parts of a rest are in range, and they and the end are its text
rest_parts : (sizes : LineSizes) (due : Due) (ps : List Part) (t : List ℕ) → IsLater due → IsRest sizes due ps t → All (IsPart sizes) ps × (t ≡ flat_map (part_text sizes.width) ps ++ line_text sizes.width lines.End)
rest_parts sizes due [] t later (ends, spelled) = (All-nil (IsPart sizes), spelled)
rest_parts sizes due (part ∷ ps) t later (is, place, next, sized, after, spelled, rest) =
    let same : next ≡ sizes = same_sizes next sizes sized.width sized.height sized.agents (sized.lists ∙ count_kept due part sizes.lists later place) in
    let moved = subst (λ (s : LineSizes). IsRest s (due_after due part) ps after) same rest in
    let (all, text) = rest_parts sizes (due_after due part) ps after (part_later due part later) moved in
    let w = sizes.width in (
      All-cons (IsPart sizes) part ps is all,
      spelled ∙ ap (λ q. part_text w part ++ q) text ∙ sym (append_assoc (part_text w part) (flat_map (part_text w) ps) (line_text w lines.End)),
    )

counts_same : (m n : ℕ) (xs ys : List Part) → parts.Prices m ∷ xs ≡ parts.Prices n ∷ ys → m ≡ n
counts_same m n xs ys e = cc

-- the certificate that a text spells
spelled_by : (width height agents : ℕ) (claim : Claim) (bytes t : List ℕ) (sizes : LineSizes) (part : Part) (others : List Part) (lists : List PriceList) (lemmas : List Lemma) (tree : CaseTree)
    → IsOneTo most_agents agents → IsClaimInRange claim → AreFirstSizes width height agents sizes → bytes ≡ header_text width agents claim ++ t → IsRest sizes dues.Prices (part ∷ others) t → part ∷ others ≡ parts_of lists lemmas tree
    → SpellsCertificate width height bytes agents claim lists lemmas tree
spelled_by width height agents claim bytes t sizes (parts.Prices n) others lists lemmas tree few ranged first whole (is, place, later, sized, after, spelled, rest) same =
    let count = counts_same n (length lists) others (lists_parts lists lemmas tree) same in
    let (all, text) = rest_parts later (dues.Lists n) others after tt rest in
    let each : All (IsPart later) (parts.Prices n ∷ others) = All-cons (IsPart later) (parts.Prices n) others is all in
    let v = later.width in
    let wide : v ≡ width = sized.width ∙ first.width_is in
    let here : t ≡ flat_map (part_text v) (parts.Prices n ∷ others) ++ line_text v lines.End =
    spelled ∙ ap (λ q. part_text v (parts.Prices n) ++ q) text ∙ sym (append_assoc (part_text v (parts.Prices n)) (flat_map (part_text v) others) (line_text v lines.End)) in
    let there = subst (λ (w : ℕ). t ≡ flat_map (part_text w) (parts.Prices n ∷ others) ++ line_text w lines.End) wide here in
    record {
      agents_in_range = few;
      claim_in_range = ranged;
      sizes = later;
      width_is = wide;
      height_is = sized.height ∙ first.height_is;
      agents_are = sized.agents ∙ first.agents_are;
      lists_are = sized.lists ∙ count;
      in_range = subst (All (IsPart later)) same each;
      spelled = whole ∙ ap (λ q. header_text width agents claim ++ q) (there ∙ ap (λ ps. flat_map (part_text width) ps ++ line_text width lines.End) same);
    }
spelled_by width height agents claim bytes t sizes _ others lists lemmas tree few ranged first whole (is, place, later, sized, after, spelled, rest) same = absurd place

pub texts_have_trees : TextsHaveTrees
texts_have_trees width height agents claim ps bytes text = by ps text.rest
  where
    by : (qs : List Part) → IsRest text.sizes dues.Prices qs text.after → (lists : List PriceList) × (lemmas : List Lemma) × (tree : CaseTree) × (qs ≡ parts_of lists lemmas tree) × SpellsCertificate width height bytes agents claim lists lemmas tree
    by [] (ends, spelled) = cc
    by (part ∷ others) rest =
        let all = shape_of text.sizes dues.Prices (part ∷ others) text.after rest in (
          all.lists,
          all.lemmas,
          all.tree,
          all.same,
          spelled_by width height agents claim bytes text.after text.sizes part others all.lists all.lemmas all.tree text.agents_in_range text.claim_in_range text.first_sizes text.spelled rest all.same,
        )
