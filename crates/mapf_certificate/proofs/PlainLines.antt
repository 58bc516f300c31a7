-- Where a line ends: no line has an LF in it, and none of a certificate is longer than the limit.
use Rattle.std.proofs.Common.{◌≡◌, ℕ, ◌<◌, ◌≤◌, List, [], ◌∷◌, ◌++◌, Option, Some, None, codes, length, refl, sym, ap, ◌∙◌, arith, append_assoc}
use Rattle.mapf_model.specs.declared.conflict.Conflict.TheVariants as conflicts
use Rattle.mapf_model.specs.declared.item.Claim.TheVariants as claims
use Rattle.mapf_model.specs.declared.label.Label.{Label}
use Rattle.mapf_model.specs.declared.label.Label.TheVariants as labels
use Rattle.mapf_model.specs.Printed.{IsLabelInRange}
use Rattle.mapf_fields.specs.Numbers.{field, pair}
use Rattle.mapf_fields.proofs.Binds.{same_ok}
use Rattle.mapf_fields.proofs.Plain.{IsPlain, plain-append, plain-more, plain-word, plain-field, plain-pair, same_front, some_of}
use Rattle.mapf_certificate.specs.declared.version.Version.{Version}
use Rattle.mapf_certificate.specs.declared.version.Version.TheVariants.{One, Two}
use Rattle.mapf_certificate.specs.declared.line.CertLine.{CertLine}
use Rattle.mapf_certificate.specs.declared.line.CertLine.TheVariants as lines
use Rattle.mapf_fields.specs.declared.fault.LineFault.{LineFault}
use Rattle.mapf_certificate.specs.declared.sizes.Sizes.{Sizes}
use Rattle.mapf_certificate.specs.declared.tree_line.Due.{Due}
use Rattle.mapf_certificate.specs.declared.tree_line.Due.TheVariants as dues
use Rattle.mapf_certificate.specs.Lines.{words, title_words, count_words, label_words, IsLine, IsCountOnSplit, IsTreeLine, width_of, grid_for}
use Rattle.mapf_certificate.specs.LineReading.{read_line}
use Rattle.mapf_certificate.specs.Certificates.{line_text}
use Rattle.mapf_certificate.proofs.LineLaws.{line_again}

plain-label : (label : Label) → IsLabelInRange label → IsPlain 8 (label_words label)
plain-label labels.Never is = plain-more 4 8 _ (omega arith) (plain-word (codes " inf") 4 refl refl)
plain-label (labels.Ticks n) is = plain-field 32 7 n refl (omega arith) (omega arith) (omega arith)

plain-count : (version : Version) (agents : ℕ) (blocks : Option ℕ) → agents ≤ 200 → IsCountOnSplit version agents blocks → IsPlain 4 (count_words blocks)
plain-count version agents None few is = record { ends = refl; short = omega arith }
plain-count One agents (Some n) few is = cc
plain-count Two agents (Some n) few is = plain-field 32 3 n refl (omega arith) (omega arith) (omega arith)

plain_tree : (sizes : Sizes) (line : CertLine) → IsTreeLine sizes.version (grid_for sizes) sizes.agents line → IsPlain 64 (words sizes.width line)
plain_tree sizes (lines.Split (conflicts.Vertex i j cell tick) blocks) ((first, second, inside, early), counted) =
    plain-more 35 64 _ (omega arith)
    (plain-append 6 29 _ _ (plain-word (codes "vertex") 6 refl refl)
    (plain-append 4 25 _ _ (plain-field 32 3 i refl (omega arith) (omega (arith, sizes.few.1)) (omega (arith, sizes.few.1)))
    (plain-append 4 21 _ _ (plain-field 32 3 j refl (omega arith) (omega (arith, sizes.few.1)) (omega (arith, sizes.few.1)))
    (plain-append 10 11 _ _ (plain-pair sizes.width sizes.height cell sizes.narrow.0 sizes.narrow.1 sizes.low.1 inside)
    (plain-append 7 4 _ _ (plain-field 32 6 tick refl (omega arith) (omega arith) (omega arith)) (plain-count sizes.version sizes.agents blocks sizes.few.1 counted))))))
plain_tree sizes (lines.Split (conflicts.Swap i j from to tick) blocks) ((first, second, here, there, early), counted) =
    plain-more 43 64 _ (omega arith)
    (plain-append 4 39 _ _ (plain-word (codes "swap") 4 refl refl)
    (plain-append 4 35 _ _ (plain-field 32 3 i refl (omega arith) (omega (arith, sizes.few.1)) (omega (arith, sizes.few.1)))
    (plain-append 4 31 _ _ (plain-field 32 3 j refl (omega arith) (omega (arith, sizes.few.1)) (omega (arith, sizes.few.1)))
    (plain-append 10 21 _ _ (plain-pair sizes.width sizes.height from sizes.narrow.0 sizes.narrow.1 sizes.low.1 here)
    (plain-append 10 11 _ _ (plain-pair sizes.width sizes.height to sizes.narrow.0 sizes.narrow.1 sizes.low.1 there)
    (plain-append 7 4 _ _ (plain-field 32 6 tick refl (omega arith) (omega arith) (omega arith)) (plain-count sizes.version sizes.agents blocks sizes.few.1 counted)))))))
plain_tree sizes (lines.Leaf blocks) is =
    plain-more 8 64 _ (omega arith) (plain-append 4 4 _ _ (plain-word (codes "leaf") 4 refl refl) (plain-field 32 3 blocks refl (omega arith) (omega (arith, sizes.few.1)) (omega (arith, sizes.few.1))))
plain_tree sizes (lines.Clash i j) (first, second) =
    plain-more 13 64 _ (omega arith)
    (plain-append 5 8 _ _ (plain-word (codes "clash") 5 refl refl)
    (plain-append 4 4 _ _ (plain-field 32 3 i refl (omega arith) (omega (arith, sizes.few.1)) (omega (arith, sizes.few.1)))
    (plain-field 32 3 j refl (omega arith) (omega (arith, sizes.few.1)) (omega (arith, sizes.few.1)))))
plain_tree sizes (lines.Agent agent entries) (first, some, fits) =
    plain-more 30 64 _ (omega arith)
    (plain-append 5 25 _ _ (plain-word (codes "agent") 5 refl refl)
    (plain-append 4 21 _ _ (plain-field 32 3 agent refl (omega arith) (omega (arith, sizes.few.1)) (omega (arith, sizes.few.1)))
    (plain-field 32 20 entries refl (omega arith) (omega arith) fits)))
plain_tree sizes (lines.At entry) (inside, early, labelled) =
    plain-more 28 64 _ (omega arith)
    (plain-append 2 26 _ _ (plain-word (codes "at") 2 refl refl)
    (plain-append 10 16 _ _ (plain-pair sizes.width sizes.height entry.cell sizes.narrow.0 sizes.narrow.1 sizes.low.1 inside)
    (plain-append 8 8 _ _ (plain-field 32 7 entry.tick refl (omega arith) (omega arith) (omega arith)) (plain-label entry.label labelled))))
plain_tree sizes lines.End is = plain-more 3 64 _ (omega arith) (plain-word (codes "end") 3 refl refl)
plain_tree sizes _ is = absurd is

plain_title : (version : Version) → IsPlain 64 (title_words version)
plain_title One = plain-more 11 64 _ (omega arith) (plain-word (codes "mapf-cert 1") 11 refl refl)
plain_title Two = plain-more 11 64 _ (omega arith) (plain-word (codes "mapf-cert 2") 11 refl refl)

plain_agents : (line : CertLine) → IsLine dues.Agents line → IsPlain 64 (words 1 line)
plain_agents (lines.Agents n) (low, high) =
    plain-more 10 64 _ (omega arith) (plain-append 6 4 _ _ (plain-word (codes "agents") 6 refl refl) (plain-field 32 3 n refl (omega arith) (omega arith) (omega arith)))
plain_agents _ is = absurd is

plain_claim : (version : Version) (line : CertLine) → IsLine (dues.Claim version) line → IsPlain 64 (words 1 line)
plain_claim version (lines.Claim claims.Impossible) is = plain-more 16 64 _ (omega arith) (plain-word (codes "claim impossible") 16 refl refl)
plain_claim version (lines.Claim (claims.Cost cost)) (few, may) =
    plain-more 21 64 _ (omega arith) (plain-append 10 11 _ _ (plain-word (codes "claim cost") 10 refl refl) (plain-field 32 10 cost refl (omega arith) (omega arith) (omega arith)))
plain_claim version (lines.Claim (claims.Bound bound)) (few, may) =
    plain-more 22 64 _ (omega arith) (plain-append 11 11 _ _ (plain-word (codes "claim bound") 11 refl refl) (plain-field 32 10 bound refl (omega arith) (omega arith) (omega arith)))
plain_claim version _ is = absurd is

-- a line of the expected kind has no LF in it, and no more bytes than the limit
pub plain_line : (due : Due) (line : CertLine) → IsLine due line → IsPlain 64 (words (width_of due) line)
plain_line dues.Title (lines.Title version) is = plain_title version
plain_line dues.Title _ is = absurd is
plain_line dues.Agents line is = plain_agents line is
plain_line (dues.Claim version) line is = plain_claim version line is
plain_line (dues.Tree sizes) line is = plain_tree sizes line is

-- the lines that two texts begin with are one line where the texts are one
pub same_line : (due : Due) (l m : CertLine) (xs ys : List ℕ) → IsLine due l → IsLine due m → line_text (width_of due) l ++ xs ≡ line_text (width_of due) m ++ ys → (l ≡ m) × (xs ≡ ys)
same_line due l m xs ys is_l is_m e =
    let width = width_of due in
    let e' : words width l ++ (10 ∷ xs) ≡ words width m ++ (10 ∷ ys) = sym (append_assoc (words width l) (10 ∷ []) xs) ∙ e ∙ append_assoc (words width m) (10 ∷ []) ys in
    let (front, rest) = same_front (words width l) (words width m) xs ys (plain_line due l is_l).ends (plain_line due m is_m).ends e' in
    (same_ok {E = LineFault} l m (sym (line_again due l is_l) ∙ ap (read_line due) front ∙ line_again due m is_m), rest)

-- a line has a byte
pub words_some : (width : ℕ) (line : CertLine) → 0 < length (words width line)
words_some width (lines.Title One) = omega arith
words_some width (lines.Title Two) = omega arith
words_some width (lines.Agents agents) = some_of (codes "agents") (field 32 agents) (omega arith)
words_some width (lines.Claim (claims.Cost cost)) = some_of (codes "claim cost") (field 32 cost) (omega arith)
words_some width (lines.Claim (claims.Bound bound)) = some_of (codes "claim bound") (field 32 bound) (omega arith)
words_some width (lines.Claim claims.Impossible) = omega arith
words_some width (lines.Split (conflicts.Vertex i j cell tick) blocks) = some_of (codes "vertex") (field 32 i ++ (field 32 j ++ (pair width cell ++ (field 32 tick ++ count_words blocks)))) (omega arith)
words_some width (lines.Split (conflicts.Swap i j from to tick) blocks) = some_of (codes "swap") (field 32 i ++ (field 32 j ++ (pair width from ++ (pair width to ++ (field 32 tick ++ count_words blocks))))) (omega arith)
words_some width (lines.Leaf blocks) = some_of (codes "leaf") (field 32 blocks) (omega arith)
words_some width (lines.Clash i j) = some_of (codes "clash") (field 32 i ++ field 32 j) (omega arith)
words_some width (lines.Agent agent entries) = some_of (codes "agent") (field 32 agent ++ field 32 entries) (omega arith)
words_some width (lines.At entry) = some_of (codes "at") (pair width entry.cell ++ (field 32 entry.tick ++ label_words entry.label)) (omega arith)
words_some width lines.End = omega arith
