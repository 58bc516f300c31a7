-- Whole certificates: what a reader awaits, and what bytes spell.
use Rattle.std.proofs.Common.{◌≡◌, ℕ, ◌<◌, ◌*◌, List, [], ◌∷◌, ◌++◌, length, get_or, map, All, false, Option, Some, None, refl, sym, ap, subst, ◌∙◌, arith, inl, inr}
use Rattle.std.proofs.lemmas.List.{append-nil}
use Rattle.std.proofs.lemmas.List.Elements.{All-head, All-tail, All-cons, All-nil, All-append}
use Rattle.std.proofs.lemmas.Bool.{cases_lt}
use Rattle.mapf_model.specs.declared.item.Claim.{Claim}
use Rattle.mapf_model.specs.declared.item.Item.{Item}
use Rattle.mapf_model.specs.declared.conflict.Conflict.{Conflict}
use Rattle.mapf_model.specs.declared.conflict.Conflict.TheVariants as conflicts
use Rattle.mapf_model.specs.Blocks.{LabelBlock}
use Rattle.mapf_model.specs.Grid.{GridMap}
use Rattle.mapf_model.specs.Printed.{IsConflictInRange, IsBlockInRange, AreBlocksInRange, IsTreeInRange}
use Rattle.mapf_model.specs.Tree.{ConstraintTree, Split, Leaf, Clash, Node, SplitNode, LeafNode, ClashNode, Spell, node_of, nodes_of, nodes_of_all}
use Rattle.mapf_model.proofs.ItemLemmas.{cut}
use Rattle.mapf_certificate.specs.declared.version.Version.{Version}
use Rattle.mapf_certificate.specs.declared.version.Version.TheVariants.{One, Two}
use Rattle.mapf_certificate.specs.declared.sizes.Sizes.{Sizes}
use Rattle.mapf_certificate.specs.Lines.{grid_of, grid_for}
use Rattle.mapf_certificate.specs.Certificates.{header_text, rest_text, cert_text, IsNodeOfVersion, IsTreeOfVersion, IsCertTree, IsRest, SpellsCert, SpellsOneCert}
use Rattle.mapf_certificate.specs.Reading.{Reading}
use Rattle.mapf_certificate.specs.CertReading.{IsCertText, AwaitsCert, trees_pending_after}
use Rattle.mapf_certificate.proofs.Nodes.{nodes_apart}
use Rattle.mapf_certificate.proofs.Rests.{rest_starts, rest_ends}
use Rattle.mapf_certificate.proofs.Headers.{same_header}
use Rattle.std.proofs.lemmas.Option.{same_Some}

-- two grids of one size
pub record AreSized (a b : GridMap) : Type 0 where
  pub width : a.width ≡ b.width
  pub height : a.height ≡ b.height

module _ (a b : GridMap) (same : AreSized a b) (agents : ℕ) where
  cell_moved : (cell : ℕ) → cell < a.width * a.height → cell < b.width * b.height
  cell_moved cell h = subst (λ (w : ℕ). cell < w * b.height) same.width (subst (λ (k : ℕ). cell < a.width * k) same.height h)

  conflict_moved : (conflict : Conflict) → IsConflictInRange a agents conflict → IsConflictInRange b agents conflict
  conflict_moved (conflicts.Vertex i j cell tick) (p, q, r, s) = (p, q, cell_moved cell r, s)
  conflict_moved (conflicts.Swap i j from to tick) (p, q, r, s, t) = (p, q, cell_moved from r, cell_moved to s, t)

  block_moved : (block : LabelBlock) → IsBlockInRange a agents block → IsBlockInRange b agents block
  block_moved block is = record {
    agent = is.agent;
    some = is.some;
    few = is.few;
    entries = λ k d inside. let (on, tick, label) = is.entries k d inside in (cell_moved _ on, tick, label);
    rising = is.rising;
  }

  blocks_moved : (blocks : List LabelBlock) → AreBlocksInRange a agents blocks → AreBlocksInRange b agents blocks
  blocks_moved blocks are = record { each = λ k d inside. block_moved _ (are.each k d inside); rising = are.rising }

  -- only the size of the grid matters
  pub tree_moved : (tree : ConstraintTree) → IsTreeInRange a agents tree → IsTreeInRange b agents tree
  tree_moved (Split conflict blocks left right) (p, are, q, r) = (conflict_moved conflict p, blocks_moved blocks are, tree_moved left q, tree_moved right r)
  tree_moved (Leaf blocks) is = blocks_moved blocks is
  tree_moved (Clash i j) is = is

-- a certificate's text is that of one tree
pub spells_from_text : (grid other : GridMap) (version : Version) (agents : ℕ) (claim : Claim) (nodes : List Node) (bytes : List ℕ) → AreSized other grid → IsCertText other 1 version agents claim nodes bytes
    → (tree : ConstraintTree) × SpellsCert grid bytes version agents claim tree × (nodes ≡ nodes_of tree)
spells_from_text grid other version agents claim nodes bytes sized text = by text.rest.trees text.rest.count text.rest.in_range text.rest.same
  where
    by : (trees : List ConstraintTree) → length trees ≡ 1 → All (IsCertTree version other agents) trees → nodes ≡ nodes_of_all trees → (tree : ConstraintTree) × SpellsCert grid bytes version agents claim tree × (nodes ≡ nodes_of tree)
    by [] count all same = absurd (omega arith)
    by (tree ∷ []) count all same =
        let one : nodes ≡ nodes_of tree = same ∙ append-nil (nodes_of tree) in
        let (ranged, may) = All-head (IsCertTree version other agents) tree [] all in (
          tree,
          record {
            agents_in_range = text.agents_in_range;
            claim_in_range = text.claim_in_range;
            claim_of_version = text.claim_of_version;
            tree_in_range = tree_moved other grid sized agents tree ranged;
            tree_of_version = may;
            spelled = text.spelled ∙ ap (λ l. header_text version other.width agents claim ++ l) (text.rest.spelled ∙ ap (rest_text version other.width) one) ∙ ap (λ w. cert_text version w agents claim (nodes_of tree)) sized.width;
          },
          one,
        )
    by (tree ∷ more ∷ trees) count all same = absurd (omega arith)

pub text_from_spells : (grid other : GridMap) (version : Version) (agents : ℕ) (claim : Claim) (tree : ConstraintTree) (bytes : List ℕ) → AreSized grid other → SpellsCert grid bytes version agents claim tree → IsCertText other 1 version agents claim (nodes_of tree) bytes
text_from_spells grid other version agents claim tree bytes sized spells = record {
  agents_in_range = spells.agents_in_range;
  claim_in_range = spells.claim_in_range;
  claim_of_version = spells.claim_of_version;
  after = rest_text version other.width (nodes_of tree);
  spelled = spells.spelled ∙ ap (λ w. cert_text version w agents claim (nodes_of tree)) sized.width;
  rest = record {
    trees = tree ∷ [];
    count = refl;
    in_range = All-cons (IsCertTree version other agents) tree [] (tree_moved grid other sized agents tree spells.tree_in_range, spells.tree_of_version) (All-nil (IsCertTree version other agents));
    same = sym (append-nil (nodes_of tree));
    spelled = refl;
  };
}

-- what a certificate of version 1 spells in version 2
pub converted : (grid : GridMap) (old new : List ℕ) (agents count : ℕ) (claim says : Claim) (tree : ConstraintTree) (nodes : List Node) → SpellsCert grid old One agents claim tree → count ≡ agents → says ≡ claim → nodes ≡ nodes_of tree
    → new ≡ cert_text Two grid.width count says nodes → SpellsCert grid new Two agents claim tree
converted grid old new agents count claim says tree nodes spells p q r e =
    let spelled = e ∙ ap (λ (n : ℕ). cert_text Two grid.width n says nodes) p ∙ ap (λ (c : Claim). cert_text Two grid.width agents c nodes) q ∙ ap (cert_text Two grid.width agents claim) r in
    assumption

-- the nodes of a tree of a version are nodes of it
nodes_of_version : (version : Version) (tree : ConstraintTree) → IsTreeOfVersion version tree → All (IsNodeOfVersion version) (nodes_of tree)
nodes_of_version One (Split conflict blocks left right) (none, l, r) =
    let Is = IsNodeOfVersion One in
    All-cons Is (SplitNode conflict blocks) (nodes_of left ++ nodes_of right) none (All-append Is (nodes_of left) (nodes_of right) (nodes_of_version One left l) (nodes_of_version One right r))
nodes_of_version One (Leaf blocks) is = All-cons (IsNodeOfVersion One) (LeafNode blocks) [] tt (All-nil (IsNodeOfVersion One))
nodes_of_version One (Clash i j) is = All-cons (IsNodeOfVersion One) (ClashNode i j) [] tt (All-nil (IsNodeOfVersion One))
nodes_of_version Two tree is = λ k node inside. any (get_or (nodes_of tree) k node)
  where
    any : (node : Node) → IsNodeOfVersion Two node
    any (SplitNode conflict blocks) = tt
    any (LeafNode blocks) = tt
    any (ClashNode i j) = tt

-- and so are those of the items that spell it
pub items_of_version : (version : Version) (items : List Item) (tree : ConstraintTree) → IsTreeOfVersion version tree → Spell items tree → All (λ item. IsNodeOfVersion version (node_of item)) items
items_of_version version items tree is spelled = by items (subst (All (IsNodeOfVersion version)) (sym spelled) (nodes_of_version version tree is))
  where
    Is : Item → Type 0
    Is item = IsNodeOfVersion version (node_of item)

    by : (items : List Item) → All (IsNodeOfVersion version) (map node_of items) → All (λ item. IsNodeOfVersion version (node_of item)) items
    by [] all = All-nil Is
    by (item ∷ more) all = All-cons Is item more (All-head (IsNodeOfVersion version) (node_of item) (map node_of more) all) (by more (All-tail (IsNodeOfVersion version) (node_of item) (map node_of more) all))

-- no bytes spell two rests
pub same_rest : (sizes : Sizes) (pending : ℕ) (ns ms : List Node) (t u : List ℕ) → IsRest sizes.version (grid_for sizes) sizes.agents pending ns t → IsRest sizes.version (grid_for sizes) sizes.agents pending ms u → t ≡ u → ns ≡ ms
same_rest sizes pending [] ms t u p q e = elim (cases_lt 0 pending) [
  | inl some ↦
      let starts = rest_starts sizes.version (grid_for sizes) sizes.agents pending [] t p (omega arith) in
      by starts.node starts.others starts.same
  | inr none ↦ sym (rest_ends sizes.version (grid_for sizes) sizes.agents pending ms u q (omega arith)).0
]
  where
    by : (node : Node) (others : List Node) → [] ≡ node ∷ others → [] ≡ ms
    by node others wrong = cc
same_rest sizes pending (n ∷ ns) ms t u p q e = elim (cases_lt 0 pending) [
  | inl some ↦
      let here = rest_starts sizes.version (grid_for sizes) sizes.agents pending (n ∷ ns) t p (omega arith) in
      let there = rest_starts sizes.version (grid_for sizes) sizes.agents pending ms u q (omega arith) in
      let (node, tail) = (nodes_apart sizes).apart here.node there.node here.after there.after here.in_range there.in_range (sym here.spelled ∙ e ∙ there.spelled) in
      let head : here.node ≡ n = head_same here.node n here.others ns here.same in
      let rest : here.others ≡ ns = tail_same here.node n here.others ns here.same in
      let mine = subst (λ (l : List Node). IsRest sizes.version (grid_for sizes) sizes.agents (trees_pending_after pending here.node) l here.after) rest here.rest in
      let other = subst (λ (m : Node). IsRest sizes.version (grid_for sizes) sizes.agents (trees_pending_after pending m) there.others there.after) (sym node) there.rest in
      let more = same_rest sizes (trees_pending_after pending here.node) ns there.others here.after there.after mine other tail in
      ap (λ (m : Node). m ∷ ns) (sym head ∙ node) ∙ ap (λ l. there.node ∷ l) more ∙ sym there.same
  | inr none ↦ absurd (not_none n ns (rest_ends sizes.version (grid_for sizes) sizes.agents pending (n ∷ ns) t p (omega arith)).0)
]
  where
    head_same : (x y : Node) (xs ys : List Node) → y ∷ ys ≡ x ∷ xs → x ≡ y
    head_same x y xs ys e = cc

    tail_same : (x y : Node) (xs ys : List Node) → y ∷ ys ≡ x ∷ xs → xs ≡ ys
    tail_same x y xs ys e = cc

    not_none : (x : Node) (xs : List Node) → x ∷ xs ≡ [] → ⊥
    not_none x xs e = cc

-- no bytes spell two certificates
pub one_cert : SpellsOneCert
one_cert grid bytes version version' agents agents' claim claim' tree tree' is p q =
    let (narrow, narrow', low, low', free) = is in
    let sizes : Sizes = record { version = version; width = grid.width; height = grid.height; agents = agents; narrow = (narrow, narrow'); low = (low, low'); few = p.agents_in_range } in
    let sized : AreSized grid (grid_for sizes) = record { width = refl; height = refl } in
    let first = text_from_spells grid (grid_for sizes) version agents claim tree bytes sized p in
    let second = text_from_spells grid (grid_for sizes) version' agents' claim' tree' bytes sized q in
    let (same, counts, says, rest) = same_header version version' grid.width agents agents' claim claim' first.after second.after p.agents_in_range q.agents_in_range (p.claim_in_range, p.claim_of_version) (q.claim_in_range, q.claim_of_version) (sym first.spelled ∙ second.spelled) in
    let other = subst (λ (n : ℕ). IsRest version (grid_for sizes) n 1 (nodes_of tree') second.after) (sym counts) (subst (λ (v : Version). IsRest v (grid_for sizes) agents' 1 (nodes_of tree') second.after) (sym same) second.rest) in
    let nodes = same_rest sizes 1 (nodes_of tree) (nodes_of tree') first.after second.after first.rest other rest in
    (same, counts, says, (cut tree tree' [] [] (ap (λ l. l ++ []) nodes)).0)

-- a reader that was just opened
abbrev pub opened : ℕ → ℕ → ℕ → Reading
opened width height limit = record {
  width = width;
  height = height;
  buffer = record { bytes = []; left = limit };
  version = One;
  header = None;
  fault = None;
  is_whole = false;
  pending = 1;
}

-- what an opened reader awaits is a certificate that the bytes of its source spell
pub spells_from_awaits : (grid : GridMap) (width height limit : ℕ) (version : Version) (agents : ℕ) (claim : Claim) (nodes : List Node) (remaining : Option (List ℕ)) (bytes : List ℕ) (r : Reading) → r ≡ opened width height limit → width ≡ grid.width → height ≡ grid.height
    → remaining ≡ Some bytes → AwaitsCert remaining r version agents claim nodes → (tree : ConstraintTree) × SpellsCert grid bytes version agents claim tree × (nodes ≡ nodes_of tree)
spells_from_awaits grid width height limit version agents claim nodes remaining bytes r new wide high known awaits =
    let first = subst (λ (q : Reading). AwaitsCert remaining q version agents claim nodes) new awaits in
    let one : first.bytes ≡ bytes = same_Some first.bytes bytes (sym first.known ∙ known) in
    spells_from_text grid (grid_of width height) version agents claim nodes bytes (record { width = wide; height = high }) (subst (IsCertText (grid_of width height) 1 version agents claim nodes) one first.text)

pub awaits_from_spells : (grid : GridMap) (width height limit : ℕ) (version : Version) (agents : ℕ) (claim : Claim) (tree : ConstraintTree) (remaining : Option (List ℕ)) (bytes : List ℕ) (r : Reading) → r ≡ opened width height limit → width ≡ grid.width → height ≡ grid.height
    → remaining ≡ Some bytes → SpellsCert grid bytes version agents claim tree → AwaitsCert remaining r version agents claim (nodes_of tree)
awaits_from_spells grid width height limit version agents claim tree remaining bytes r new wide high known spells =
    subst (λ (q : Reading). AwaitsCert remaining q version agents claim (nodes_of tree)) (sym new) (record {
      bytes = bytes;
      known = known;
      text = text_from_spells grid (grid_of width height) version agents claim tree bytes (record { width = sym wide; height = sym high }) spells;
    })
