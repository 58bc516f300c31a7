-- Nodes in a certificate's text.
use Rattle.std.proofs.Common.{◌≡◌, ℕ, ◌<◌, ◌≤◌, List, [], ◌∷◌, ◌++◌, length, get_or, AllPairs, Option, Some, None, unwrap_or, Bool, false, suc, zero, refl, sym, ap, subst, ◌∙◌, arith, append_assoc, inl}
use Rattle.std.proofs.KnownBytes.{Consumes-nil}
use Rattle.mapf_model.specs.declared.conflict.Conflict.{Conflict}
use Rattle.mapf_model.specs.Blocks.{LabelBlock}
use Rattle.mapf_model.specs.Printed.{AreBlocksInRange}
use Rattle.mapf_model.specs.Tree.{Node, SplitNode, LeafNode, ClashNode, blocks_of}
use Rattle.mapf_certificate.specs.declared.version.Version.{Version}
use Rattle.mapf_certificate.specs.declared.version.Version.TheVariants.{One, Two}
use Rattle.mapf_certificate.specs.declared.cert.LinesFault.{LinesFault}
use Rattle.mapf_certificate.specs.declared.line.CertLine.{CertLine}
use Rattle.mapf_certificate.specs.declared.line.CertLine.TheVariants as lines
use Rattle.mapf_certificate.specs.declared.sizes.Sizes.{Sizes}
use Rattle.mapf_certificate.specs.declared.tree_line.Due.TheVariants as dues
use Rattle.mapf_certificate.specs.Buffered.{Buffered}
use Rattle.mapf_certificate.specs.Lines.{IsLine, IsCountOnSplit, grid_for}
use Rattle.mapf_certificate.specs.Certificates.{line_text, blocks_text, block_text, count_on_split, first_line, node_text, MayBeOnSplit}
use Rattle.mapf_certificate.specs.Window.{Fails, IsTextFault}
use Rattle.mapf_certificate.specs.Bounded.{AreSpelledApart, BeginsWithBlocks, BeginsWithLine, BeginsWithNode, IsBlockFor, IsNodeFor, IsOfLesserAgent}
use Rattle.mapf_certificate.proofs.PlainLines.{same_line}
use Rattle.mapf_certificate.proofs.Windows.{Fails-weaker, Fails-text}
use Rattle.mapf_certificate.proofs.Sequences.{same_list}
use Rattle.mapf_certificate.proofs.Blocks.{blocks_apart}

-- the lines after the first of a node
abbrev pub after_first : ℕ → Node → List ℕ
after_first width node = blocks_text width (blocks_of node)

pub node_cut : (version : Version) (width : ℕ) (node : Node) (s : List ℕ) → node_text version width node ++ s ≡ line_text width (first_line version node) ++ (after_first width node ++ s)
node_cut version width node s = append_assoc (line_text width (first_line version node)) (after_first width node) s

-- agents that rise are no fewer than their places
climbs : (blocks : List LabelBlock) → AllPairs IsOfLesserAgent blocks → (k : ℕ) (d : LabelBlock) → k < length blocks → k ≤ (get_or blocks k d).agent
climbs blocks rising zero d inside = omega arith
climbs blocks rising (suc k) d inside =
    let before : k ≤ (get_or blocks k d).agent = climbs blocks rising k d (omega arith) in
    let here : (get_or blocks k d).agent < (get_or blocks (suc k) d).agent = rising k (suc k) d (omega arith) inside in
    omega arith

few_blocks : (sizes : Sizes) (blocks : List LabelBlock) → AreBlocksInRange (grid_for sizes) sizes.agents blocks → length blocks ≤ sizes.agents
few_blocks sizes [] are = omega arith
few_blocks sizes (block ∷ blocks) are =
    let all : List LabelBlock = block ∷ blocks in
    let high : length blocks ≤ (get_or all (length blocks) block).agent = climbs all are.rising (length blocks) block (omega arith) in
    let low : (get_or all (length blocks) block).agent < sizes.agents = (are.each (length blocks) block (omega arith)).agent in
    omega arith

-- the count in a split's line, and how many blocks there are

count_fits : (version : Version) (agents : ℕ) (blocks : List LabelBlock) → length blocks ≤ agents → IsCountOnSplit version agents (count_on_split version blocks)
count_fits One agents blocks few = refl
count_fits Two agents blocks few = few

count_same : (version : Version) (blocks others : List LabelBlock) → MayBeOnSplit version blocks → MayBeOnSplit version others → count_on_split version blocks ≡ count_on_split version others → length blocks ≡ length others
count_same One blocks others p q e = ap length p ∙ sym (ap length q)
count_same Two blocks others p q e = cc

count_told : (version : Version) (blocks : List LabelBlock) → MayBeOnSplit version blocks → length blocks ≡ unwrap_or (count_on_split version blocks) 0
count_told One blocks may = ap length may
count_told Two blocks may = refl

no_blocks : (blocks : List LabelBlock) → length blocks ≡ 0 → blocks ≡ []
no_blocks [] none = refl
no_blocks (block ∷ blocks) none = absurd (omega arith)

count_is : (version : Version) (agents : ℕ) (told : Option ℕ) (blocks : List LabelBlock) → IsCountOnSplit version agents told → length blocks ≡ unwrap_or told 0 → (told ≡ count_on_split version blocks) × MayBeOnSplit version blocks
count_is One agents told blocks is many = (is, no_blocks blocks (many ∙ ap (λ (o : Option ℕ). unwrap_or o 0) is))
count_is Two agents None blocks is many = absurd is
count_is Two agents (Some n) blocks is many = (ap Some (sym many), tt)

split_same : (a b : Conflict) (m n : Option ℕ) → lines.Split a m ≡ lines.Split b n → (a ≡ b) × (m ≡ n)
split_same a b m n e = (cc, cc)

pub node_line : (sizes : Sizes) (node : Node) → IsNodeFor sizes node → IsLine (dues.Tree sizes) (first_line sizes.version node)
node_line sizes (SplitNode conflict blocks) is = (is.0, count_fits sizes.version sizes.agents blocks (few_blocks sizes blocks is.1))
node_line sizes (LeafNode blocks) is = few_blocks sizes blocks is
node_line sizes (ClashNode i j) is = is

pub node_is_line : (sizes : Sizes) (t : List ℕ) → BeginsWithNode sizes t → BeginsWithLine (dues.Tree sizes) t
node_is_line sizes t begins = record {
  value = first_line sizes.version begins.value;
  is = node_line sizes begins.value begins.is;
  rest = after_first sizes.width begins.value ++ begins.rest;
  spelled = begins.spelled ∙ node_cut sizes.version sizes.width begins.value begins.rest;
}

-- after a line that begins a node the others of that node come
pub node_fits : (sizes : Sizes) (line : CertLine) (more : List ℕ) → IsLine (dues.Tree sizes) line → BeginsWithNode sizes (line_text sizes.width line ++ more)
    → (node : Node) × (line ≡ first_line sizes.version node) × IsNodeFor sizes node × (rest : List ℕ) × (more ≡ after_first sizes.width node ++ rest)
node_fits sizes line more is begins =
    let node = begins.value in
    let (same, rest) = same_line (dues.Tree sizes) line (first_line sizes.version node) more (after_first sizes.width node ++ begins.rest) is (node_line sizes node begins.is) (begins.spelled ∙ node_cut sizes.version sizes.width node begins.rest) in
    (node, same, begins.is, begins.rest, rest)

-- two texts that begin with a node, and of which one begins the other, begin with the same node
pub nodes_apart : (sizes : Sizes) → AreSpelledApart Node (IsNodeFor sizes) (node_text sizes.version sizes.width)
nodes_apart sizes = record {
  apart = λ a b s t p q e.
      let v = sizes.version in
      let w = sizes.width in
      let (same, rest) = same_line (dues.Tree sizes) (first_line v a) (first_line v b) (after_first w a ++ s) (after_first w b ++ t) (node_line sizes a p) (node_line sizes b q) (sym (node_cut v w a s) ∙ e ∙ node_cut v w b t) in
      by a b s t p q same rest;
}
  where
    by : (a b : Node) (s t : List ℕ) → IsNodeFor sizes a → IsNodeFor sizes b → first_line sizes.version a ≡ first_line sizes.version b → after_first sizes.width a ++ s ≡ after_first sizes.width b ++ t → (a ≡ b) × (s ≡ t)
    by (SplitNode conflict blocks) (SplitNode conflict' blocks') s t p q e rest =
        let (one, counts) = split_same conflict conflict' (count_on_split sizes.version blocks) (count_on_split sizes.version blocks') e in
        let (same, more) = same_list (IsBlockFor sizes) (block_text sizes.width) (blocks_apart sizes) blocks blocks' s t p.1.each q.1.each (count_same sizes.version blocks blocks' p.2 q.2 counts) rest in
        (ap (λ (c : Conflict). SplitNode c blocks) one ∙ ap (SplitNode conflict') same, more)
    by (LeafNode blocks) (LeafNode blocks') s t p q e rest =
        let (same, more) = same_list (IsBlockFor sizes) (block_text sizes.width) (blocks_apart sizes) blocks blocks' s t p.each q.each (let many : length blocks ≡ length blocks' = cc in many) rest in
        (ap LeafNode same, more)
    by (ClashNode i j) (ClashNode i' j') s t p q e rest = (cc, rest)
    by _ _ s t p q e rest = cc

-- after the line of a leaf its blocks come
pub blocks_due : (sizes : Sizes) (count : ℕ) (t : List ℕ) → count ≤ sizes.agents → BeginsWithNode sizes (line_text sizes.width (lines.Leaf count) ++ t) → BeginsWithBlocks sizes count t
blocks_due sizes count t few begins = by (node_fits sizes (lines.Leaf count) t few begins)
  where
    by : (node : Node) × (lines.Leaf count ≡ first_line sizes.version node) × IsNodeFor sizes node × (rest : List ℕ) × (t ≡ after_first sizes.width node ++ rest) → BeginsWithBlocks sizes count t
    by (SplitNode conflict blocks, same, is, rest, text) = cc
    by (LeafNode blocks, same, is, rest, text) =
        let many : length blocks ≡ count = cc in
        record { value = blocks; is = record { many = many; each = is.each; rising = is.rising }; rest = rest; spelled = text }
    by (ClashNode i j, same, is, rest, text) = cc

-- after that of a split too
pub split_blocks_due : (sizes : Sizes) (conflict : Conflict) (told : Option ℕ) (t : List ℕ) → IsLine (dues.Tree sizes) (lines.Split conflict told) → BeginsWithNode sizes (line_text sizes.width (lines.Split conflict told) ++ t) → BeginsWithBlocks sizes (unwrap_or told 0) t
split_blocks_due sizes conflict told t ranged begins = by (node_fits sizes (lines.Split conflict told) t ranged begins)
  where
    by : (node : Node) × (lines.Split conflict told ≡ first_line sizes.version node) × IsNodeFor sizes node × (rest : List ℕ) × (t ≡ after_first sizes.width node ++ rest) → BeginsWithBlocks sizes (unwrap_or told 0) t
    by (SplitNode conflict' blocks, same, is, rest, text) =
        let (one, counts) = split_same conflict conflict' told (count_on_split sizes.version blocks) same in
        let many : length blocks ≡ unwrap_or told 0 = count_told sizes.version blocks is.2 ∙ sym (ap (λ (o : Option ℕ). unwrap_or o 0) counts) in
        record { value = blocks; is = record { many = many; each = is.1.each; rising = is.1.rising }; rest = rest; spelled = text }
    by (LeafNode blocks, same, is, rest, text) = cc
    by (ClashNode i j, same, is, rest, text) = cc

-- the lines after that of a split are those of its blocks
pub split_rest : (sizes : Sizes) (line : CertLine) (conflict : Conflict) (told : Option ℕ) (count : ℕ) (blocks : List LabelBlock) (taken : List ℕ) → line ≡ lines.Split conflict told → IsLine (dues.Tree sizes) line → count ≡ unwrap_or told 0 → length blocks ≡ count
    → line_text sizes.width line ++ taken ≡ node_text sizes.version sizes.width (SplitNode conflict blocks) → taken ≡ blocks_text sizes.width blocks
split_rest sizes line conflict told count blocks taken same is counted many e =
    let whole = (count_is sizes.version sizes.agents told blocks (subst (IsLine (dues.Tree sizes)) same is).1 (many ∙ counted)).0 in
    let first : line ≡ lines.Split conflict (count_on_split sizes.version blocks) = same ∙ ap (lines.Split conflict) whole in
    (same_line (dues.Tree sizes) line line taken (blocks_text sizes.width blocks) is is (e ∙ ap (λ (l : CertLine). line_text sizes.width l ++ blocks_text sizes.width blocks) (sym first))).1

pub fails_in_blocks : (sizes : Sizes) (had left : Option (List ℕ)) (failed : Bool) (x : Buffered) (line : CertLine) (count : ℕ) (fault : LinesFault) → IsLine (dues.Tree sizes) line → line ≡ lines.Leaf count
    → Fails had left failed x (BeginsWithBlocks sizes count) fault → Fails had left failed x (λ t. BeginsWithNode sizes (line_text sizes.width line ++ t)) fault
fails_in_blocks sizes had left failed x line count fault is same fails =
    let few : count ≤ sizes.agents = subst (IsLine (dues.Tree sizes)) same is in
    Fails-weaker had left failed x (λ t. BeginsWithNode sizes (line_text sizes.width line ++ t)) (BeginsWithBlocks sizes count) fault
    (λ t begins. blocks_due sizes count t few (subst (λ (l : CertLine). BeginsWithNode sizes (line_text sizes.width l ++ t)) same begins)) fails

pub fails_in_split_blocks : (sizes : Sizes) (had left : Option (List ℕ)) (failed : Bool) (x : Buffered) (line : CertLine) (conflict : Conflict) (told : Option ℕ) (count : ℕ) (fault : LinesFault) → IsLine (dues.Tree sizes) line → line ≡ lines.Split conflict told → count ≡ unwrap_or told 0
    → Fails had left failed x (BeginsWithBlocks sizes count) fault → Fails had left failed x (λ t. BeginsWithNode sizes (line_text sizes.width line ++ t)) fault
fails_in_split_blocks sizes had left failed x line conflict told count fault is same counted fails =
    Fails-weaker had left failed x (λ t. BeginsWithNode sizes (line_text sizes.width line ++ t)) (BeginsWithBlocks sizes count) fault
    (λ t begins. subst (λ (n : ℕ). BeginsWithBlocks sizes n t) (sym counted) (split_blocks_due sizes conflict told t (subst (IsLine (dues.Tree sizes)) same is) (subst (λ (l : CertLine). BeginsWithNode sizes (line_text sizes.width l ++ t)) same begins))) fails

-- a line that begins no node
pub begins_no_node : (sizes : Sizes) (had : Option (List ℕ)) (failed : Bool) (x : Buffered) (line : CertLine) (fault : LinesFault) → IsTextFault fault → failed ≡ false → IsLine (dues.Tree sizes) line → ((node : Node) → line ≡ first_line sizes.version node → ⊥)
    → Fails had had failed x (λ t. BeginsWithNode sizes (line_text sizes.width line ++ t)) fault
begins_no_node sizes had failed x line fault is works ranged never = Fails-text had had failed x (λ t. BeginsWithNode sizes (line_text sizes.width line ++ t)) fault is works (record {
  pulled = [];
  source = Consumes-nil had;
  within = omega arith;
  wrong = inl (λ more begins. let (node, same, in_range, rest, text) = node_fits sizes line ((x.bytes ++ []) ++ more) ranged begins in never node same);
})

-- the first line of a node is one of three kinds
pub first_kinds : (version : Version) (line : CertLine) → ((conflict : Conflict) (told : Option ℕ) → line ≡ lines.Split conflict told → ⊥) → ((count : ℕ) → line ≡ lines.Leaf count → ⊥) → ((i j : ℕ) → line ≡ lines.Clash i j → ⊥) → (node : Node) → line ≡ first_line version node → ⊥
first_kinds version line split leaf clash (SplitNode conflict blocks) e = split conflict (count_on_split version blocks) e
first_kinds version line split leaf clash (LeafNode blocks) e = leaf (length blocks) e
first_kinds version line split leaf clash (ClashNode i j) e = clash i j e
