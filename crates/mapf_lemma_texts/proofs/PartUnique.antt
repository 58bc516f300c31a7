-- A text spells at most one certificate of version 3.
use Rattle.std.proofs.Common.{◌≡◌, ℕ, List, [], ◌∷◌, ◌++◌, length, map, Option, refl, sym, ap, subst, ◌∙◌, arith, append_assoc}
use Rattle.std.proofs.lemmas.List.{append-nil}
use Rattle.std.specs.List.{flat_map}
use Rattle.mapf_lemmas.specs.Cases.{CaseTree, Branch, Leaf, Clash}
use Rattle.mapf_lemmas.specs.Groups.{LeafUses}
use Rattle.mapf_lemmas.specs.Lemmas.{Lemma, One, Two, NeverArrive, ByCases}
use Rattle.mapf_lemmas.specs.Prices.{PriceList}
use Rattle.mapf_lemmas.specs.declared.constraint.AgentConstraint.{AgentConstraint}
use Rattle.mapf_lemmas.specs.declared.constraint.PathConstraint.{PathConstraint}
use Rattle.mapf_lemmas.specs.declared.joint.JointCell.{JointCell}
use Rattle.mapf_lemmas.specs.declared.joint.JointEntry.{JointEntry}
use Rattle.mapf_lemmas.specs.declared.split.Split.{Split}
use Rattle.mapf_lemmas.specs.declared.split.Split.TheVariants as splits
use Rattle.mapf_lemma_texts.specs.declared.due.Due.{Due}
use Rattle.mapf_lemma_texts.specs.declared.due.Due.TheVariants as dues
use Rattle.mapf_lemma_texts.specs.declared.part.Part.{Part}
use Rattle.mapf_lemma_texts.specs.declared.part.Part.TheVariants as parts
use Rattle.mapf_lemma_texts.specs.declared.sizes.LineSizes.{LineSizes}
use Rattle.mapf_lemma_texts.specs.Due.{due_after}
use Rattle.mapf_lemma_texts.specs.PartReading.{IsRest}
use Rattle.mapf_lemma_texts.specs.Parts.{part_text}
use Rattle.mapf_lemma_texts.specs.PartValues.{OneValue, TwoValue, NeverValue, CasesValue}
use Rattle.mapf_lemma_texts.specs.WholeTexts.{SpellsOneCertificate, constraint_of, lemma_parts, lemmas_parts, lists_parts, parts_of, split_part, tree_parts}
use Rattle.mapf_lemma_texts.proofs.PartHeaders.{first_same, same_header}
use Rattle.mapf_lemma_texts.proofs.PartReadings.{later_same, rest_ends}
use Rattle.mapf_lemma_texts.proofs.PartRuns.{trees_have_texts}
use Rattle.mapf_lemma_texts.proofs.PartsApart.{parts_apart}
use Rattle.mapf_model.specs.declared.label.Entry.{Entry}
use Rattle.mapf_model.specs.declared.label.Label.{Label}

-- two rests of one text have the same parts
rests_same : (sizes : LineSizes) (due : Due) (ps qs : List Part) (s t : List ℕ) → s ≡ t → IsRest sizes due ps s → IsRest sizes due qs t → ps ≡ qs
rests_same sizes due [] [] s t e one other = refl
rests_same sizes due [] (q ∷ qs) s t e (ends, spelled) other = sym (rest_ends sizes due (q ∷ qs) t ends other).0
rests_same sizes due (p ∷ ps) [] s t e one (ends, spelled) = (rest_ends sizes due (p ∷ ps) s ends one).0
rests_same sizes due (p ∷ ps) (q ∷ qs) s t e (is, place, later, sized, after, spelled, rest) (is', place', later', sized', after', spelled', rest') =
    let (one, tail) = (parts_apart sizes).apart p q after after' is is' (sym spelled ∙ e ∙ spelled') in
    let same : later ≡ later' = later_same sizes later later' p q one sized sized' in
    let moved = subst (λ (d : Due). IsRest later d qs after') (ap (due_after due) (sym one)) (subst (λ (z : LineSizes). IsRest z (due_after due q) qs after') (sym same) rest') in
    ap (λ x. x ∷ ps) one ∙ ap (λ l. q ∷ l) (rests_same later (due_after due p) ps qs after after' tail rest moved)

heads : (p q : Part) (ps qs : List Part) → p ∷ ps ≡ q ∷ qs → (p ≡ q) × (ps ≡ qs)
heads p q ps qs e = (cc, cc)

split_same : (a b : Split) → split_part a ≡ split_part b → a ≡ b
split_same (splits.Vertex i j v t) (splits.Vertex i' j' v' t') e = cc
split_same (splits.Swap i j u v t) (splits.Swap i' j' u' v' t') e = cc
split_same (splits.Cost i t) (splits.Cost i' t') e = cc
split_same (splits.Costs i t j m n) (splits.Costs i' t' j' m' n') e = cc
split_same _ _ e = cc

no_leaf : (split : Split) (uses : LeafUses) → split_part split ≡ parts.Leaf uses → ⊥
no_leaf (splits.Vertex i j v t) uses e = cc
no_leaf (splits.Swap i j u v t) uses e = cc
no_leaf (splits.Cost i t) uses e = cc
no_leaf (splits.Costs i t j m n) uses e = cc

no_clash : (split : Split) (i j : ℕ) → split_part split ≡ parts.Clash i j → ⊥
no_clash (splits.Vertex i j v t) k l e = cc
no_clash (splits.Swap i j u v t) k l e = cc
no_clash (splits.Cost i t) k l e = cc
no_clash (splits.Costs i t j m n) k l e = cc

-- two lists of parts that begin with a tree, and of which one begins the other, begin with the same tree
same_tree : (a b : CaseTree) (r s : List Part) → tree_parts a ++ r ≡ tree_parts b ++ s → (a ≡ b) × (r ≡ s)
same_tree (Branch split left right) (Branch split' left' right') r s e =
    let l = tree_parts left in
    let k = tree_parts right in
    let l' = tree_parts left' in
    let k' = tree_parts right' in
    let (one, tail) = heads (split_part split) (split_part split') ((l ++ k) ++ r) ((l' ++ k') ++ s) e in
    let (lefts, more) = same_tree left left' (k ++ r) (k' ++ s) (sym (append_assoc l k r) ∙ tail ∙ append_assoc l' k' s) in
    let (rights, rest) = same_tree right right' r s more in
    (ap (λ z. Branch z left right) (split_same split split' one) ∙ ap (λ z. Branch split' z right) lefts ∙ ap (λ z. Branch split' left' z) rights, rest)
same_tree (Branch split left right) (Leaf uses) r s e = absurd (no_leaf split uses (heads (split_part split) (parts.Leaf uses) ((tree_parts left ++ tree_parts right) ++ r) s e).0)
same_tree (Branch split left right) (Clash i j) r s e = absurd (no_clash split i j (heads (split_part split) (parts.Clash i j) ((tree_parts left ++ tree_parts right) ++ r) s e).0)
same_tree (Leaf uses) (Branch split left right) r s e = absurd (no_leaf split uses (sym (heads (parts.Leaf uses) (split_part split) r ((tree_parts left ++ tree_parts right) ++ s) e).0))
same_tree (Clash i j) (Branch split left right) r s e = absurd (no_clash split i j (sym (heads (parts.Clash i j) (split_part split) r ((tree_parts left ++ tree_parts right) ++ s) e).0))
same_tree (Leaf uses) (Leaf uses') r s e = (cc, cc)
same_tree (Clash i j) (Clash i' j') r s e = (cc, cc)
same_tree (Leaf uses) (Clash i j) r s e = cc
same_tree (Clash i j) (Leaf uses) r s e = cc

constraints_back : (i : ℕ) (cs : List PathConstraint) → map (λ (c : AgentConstraint). c.constraint) (map (constraint_of i) cs) ≡ cs
constraints_back i [] = refl
constraints_back i (c ∷ cs) = ap (λ l. c ∷ l) (constraints_back i cs)

one_same : (v w : OneValue) (r s : List Part) → parts.One v ∷ r ≡ parts.One w ∷ s → (v ≡ w) × (r ≡ s)
one_same v w r s e = (cc, cc)

two_same : (v w : TwoValue) (r s : List Part) → parts.Two v ∷ r ≡ parts.Two w ∷ s → (v ≡ w) × (r ≡ s)
two_same v w r s e = (cc, cc)

never_same : (v w : NeverValue) (r s : List Part) → parts.Never v ∷ r ≡ parts.Never w ∷ s → (v ≡ w) × (r ≡ s)
never_same v w r s e = (cc, cc)

cases_same : (v w : CasesValue) (r s : List Part) → parts.Cases v ∷ r ≡ parts.Cases w ∷ s → (v ≡ w) × (r ≡ s)
cases_same v w r s e = (cc, cc)

-- likewise for lemmas
same_lemma : (a b : Lemma) (r s : List Part) → lemma_parts a ++ r ≡ lemma_parts b ++ s → (a ≡ b) × (r ≡ s)
same_lemma (One i cs n es) (One i' cs' n' es') r s e =
    let v : OneValue = record { agent = i; constraints = map (constraint_of i) cs; list_number = n; entries = es } in
    let w : OneValue = record { agent = i'; constraints = map (constraint_of i') cs'; list_number = n'; entries = es' } in
    let (one, rest) = one_same v w r s e in
    let constraints : cs ≡ cs' = sym (constraints_back i cs) ∙ ap (λ (z : OneValue). map (λ (c : AgentConstraint). c.constraint) z.constraints) one ∙ constraints_back i' cs' in
    (ap (λ z. One z cs n es) (ap (λ (z : OneValue). z.agent) one) ∙ ap (λ z. One i' z n es) constraints ∙ ap (λ z. One i' cs' z es) (ap (λ (z : OneValue). z.list_number) one) ∙ ap (λ z. One i' cs' n' z) (ap (λ (z : OneValue). z.entries) one), rest)
same_lemma (Two i j cs n fs ss js) (Two i' j' cs' n' fs' ss' js') r s e =
    let v : TwoValue = record { i = i; j = j; constraints = cs; list_number = n; first = fs; second = ss; joint = js } in
    let w : TwoValue = record { i = i'; j = j'; constraints = cs'; list_number = n'; first = fs'; second = ss'; joint = js' } in
    let (one, rest) = two_same v w r s e in
    (ap (λ (z : TwoValue). Two z.i z.j z.constraints z.list_number z.first z.second z.joint) one, rest)
same_lemma (NeverArrive i j cs) (NeverArrive i' j' cs') r s e =
    let v : NeverValue = record { i = i; j = j; cells = cs } in
    let w : NeverValue = record { i = i'; j = j'; cells = cs' } in
    let (one, rest) = never_same v w r s e in
    (ap (λ (z : NeverValue). NeverArrive z.i z.j z.cells) one, rest)
same_lemma (ByCases as' cs p t) (ByCases as'' cs' p' t') r s e =
    let v : CasesValue = record { agents = as'; constraints = cs; bound = p } in
    let w : CasesValue = record { agents = as''; constraints = cs'; bound = p' } in
    let (one, tail) = cases_same v w (tree_parts t ++ r) (tree_parts t' ++ s) e in
    let (trees, rest) = same_tree t t' r s tail in
    (ap (λ (z : CasesValue). ByCases z.agents z.constraints z.bound t) one ∙ ap (ByCases as'' cs' p') trees, rest)
same_lemma _ _ r s e = cc

same_lemmas : (xs ys : List Lemma) (r s : List Part) → length xs ≡ length ys → flat_map lemma_parts xs ++ r ≡ flat_map lemma_parts ys ++ s → (xs ≡ ys) × (r ≡ s)
same_lemmas [] [] r s many e = (refl, e)
same_lemmas [] (y ∷ ys) r s many e = absurd (omega (arith, many))
same_lemmas (x ∷ xs) [] r s many e = absurd (omega (arith, many))
same_lemmas (x ∷ xs) (y ∷ ys) r s many e =
    let more = flat_map lemma_parts xs in
    let others = flat_map lemma_parts ys in
    let (one, tail) = same_lemma x y (more ++ r) (others ++ s) (sym (append_assoc (lemma_parts x) more r) ∙ e ∙ append_assoc (lemma_parts y) others s) in
    let (rest, last) = same_lemmas xs ys r s (omega (arith, many)) tail in
    (ap (λ z. z ∷ xs) one ∙ ap (λ l. y ∷ l) rest, last)

lists_heads : (x y : PriceList) (r s : List Part) → parts.List x ∷ r ≡ parts.List y ∷ s → (x ≡ y) × (r ≡ s)
lists_heads x y r s e = (cc, cc)

same_lists : (xs ys : List PriceList) (r s : List Part) → length xs ≡ length ys → map parts.List xs ++ r ≡ map parts.List ys ++ s → (xs ≡ ys) × (r ≡ s)
same_lists [] [] r s many e = (refl, e)
same_lists [] (y ∷ ys) r s many e = absurd (omega (arith, many))
same_lists (x ∷ xs) [] r s many e = absurd (omega (arith, many))
same_lists (x ∷ xs) (y ∷ ys) r s many e =
    let (one, tail) = lists_heads x y (map parts.List xs ++ r) (map parts.List ys ++ s) e in
    let (rest, last) = same_lists xs ys r s (omega (arith, many)) tail in
    (ap (λ z. z ∷ xs) one ∙ ap (λ l. y ∷ l) rest, last)

count_heads : (m n : ℕ) (r s : List Part) → parts.Prices m ∷ r ≡ parts.Prices n ∷ s → (m ≡ n) × (r ≡ s)
count_heads m n r s e = (cc, cc)

lemma_heads : (m n : ℕ) (r s : List Part) → parts.Lemmas m ∷ r ≡ parts.Lemmas n ∷ s → (m ≡ n) × (r ≡ s)
lemma_heads m n r s e = (cc, cc)

same_parts : (lists lists' : List PriceList) (lemmas lemmas' : List Lemma) (tree tree' : CaseTree) → parts_of lists lemmas tree ≡ parts_of lists' lemmas' tree' → (lists ≡ lists') × (lemmas ≡ lemmas') × (tree ≡ tree')
same_parts lists lists' lemmas lemmas' tree tree' e =
    let (count, one) = count_heads (length lists) (length lists') (lists_parts lists lemmas tree) (lists_parts lists' lemmas' tree') e in
    let (are, two) = same_lists lists lists' (parts.Lemmas (length lemmas) ∷ lemmas_parts lemmas tree) (parts.Lemmas (length lemmas') ∷ lemmas_parts lemmas' tree') count one in
    let (many, three) = lemma_heads (length lemmas) (length lemmas') (lemmas_parts lemmas tree) (lemmas_parts lemmas' tree') two in
    let (each, four) = same_lemmas lemmas lemmas' (tree_parts tree) (tree_parts tree') many three in
    let (last, five) = same_tree tree tree' [] [] (append-nil (tree_parts tree) ∙ four ∙ sym (append-nil (tree_parts tree'))) in
    (are, each, last)

pub one_certificate : SpellsOneCertificate
one_certificate width height bytes agents agents' claim claim' lists lists' lemmas lemmas' tree tree' first second =
    let text = trees_have_texts width height bytes agents claim lists lemmas tree first in
    let other = trees_have_texts width height bytes agents' claim' lists' lemmas' tree' second in
    let (count, says, tail) = same_header width agents agents' claim claim' text.after other.after text.agents_in_range other.agents_in_range text.claim_in_range other.claim_in_range (sym text.spelled ∙ other.spelled) in
    let sizes = first_same width height agents agents' text.sizes other.sizes count text.first_sizes other.first_sizes in
    let moved = subst (λ (z : LineSizes). IsRest z dues.Prices (parts_of lists' lemmas' tree') other.after) (sym sizes) other.rest in
    let same = rests_same text.sizes dues.Prices (parts_of lists lemmas tree) (parts_of lists' lemmas' tree') text.after other.after tail text.rest moved in
    let (are, each, last) = same_parts lists lists' lemmas lemmas' tree tree' same in
    (count, says, are, each, last)
