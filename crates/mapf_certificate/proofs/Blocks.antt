-- Entries and blocks in a certificate's text.
use Rattle.std.proofs.Common.{◌≡◌, ℕ, ◌<◌, List, ◌++◌, length, All, Option, Bool, false, refl, sym, ap, subst, ◌∙◌, arith, append_assoc, inl, inr}
use Rattle.mapf_model.specs.declared.label.Entry.{Entry}
use Rattle.mapf_model.specs.Blocks.{LabelBlock}
use Rattle.mapf_model.specs.Printed.{IsBefore}
use Rattle.mapf_certificate.specs.declared.line.CertLine.{CertLine}
use Rattle.mapf_certificate.specs.declared.line.CertLine.TheVariants as lines
use Rattle.mapf_certificate.specs.declared.sizes.Sizes.{Sizes}
use Rattle.mapf_certificate.specs.declared.tree_line.Due.TheVariants as dues
use Rattle.mapf_certificate.specs.Lines.{IsLine}
use Rattle.mapf_certificate.specs.Certificates.{line_text, entry_text, entries_text, block_text}
use Rattle.mapf_certificate.specs.declared.cert.LinesFault.{LinesFault}
use Rattle.mapf_certificate.specs.Buffered.{Buffered}
use Rattle.mapf_certificate.specs.Window.{Window, Fails, IsTextFault}
use Rattle.mapf_certificate.specs.Bounded.{AreSpelledApart, BeginsWithBlock, BeginsWithEntries, BeginsWithEntry, BeginsWithLine, IsBlockFor, IsEntryFor, IsOfLesserAgent, MayFollow}
use Rattle.mapf_certificate.proofs.PlainLines.{same_line}
use Rattle.mapf_certificate.proofs.Windows.{Window-trans, Refuses-taken, Fails-text, Fails-after}
use Rattle.mapf_certificate.proofs.Sequences.{same_list}

at_same : (a b : Entry) → lines.At a ≡ lines.At b → a ≡ b
at_same a b e = cc

agent_same : (a b m n : ℕ) → lines.Agent a m ≡ lines.Agent b n → (a ≡ b) × (m ≡ n)
agent_same a b m n e = (cc, cc)

-- two texts that begin with an entry, and of which one begins the other, begin with the same entry
pub entries_apart : (sizes : Sizes) → AreSpelledApart Entry (IsEntryFor sizes) (entry_text sizes.width)
entries_apart sizes = record { apart = λ a b s t p q e. let (same, rest) = same_line (dues.Tree sizes) (lines.At a) (lines.At b) s t p q e in (at_same a b same, rest) }

-- the line of a block
pub agent_line : (sizes : Sizes) (block : LabelBlock) → IsBlockFor sizes block → IsLine (dues.Tree sizes) (lines.Agent block.agent (length block.entries))
agent_line sizes block is = (is.agent, is.some, is.few)

-- likewise for blocks
pub blocks_apart : (sizes : Sizes) → AreSpelledApart LabelBlock (IsBlockFor sizes) (block_text sizes.width)
blocks_apart sizes = record { apart = by }
  where
    by : (a b : LabelBlock) (s t : List ℕ) → IsBlockFor sizes a → IsBlockFor sizes b → block_text sizes.width a ++ s ≡ block_text sizes.width b ++ t → (a ≡ b) × (s ≡ t)
    by a b s t p q e =
        let w = sizes.width in
        let first : CertLine = lines.Agent a.agent (length a.entries) in
        let second : CertLine = lines.Agent b.agent (length b.entries) in
        let e' : line_text w first ++ (entries_text w a.entries ++ s) ≡ line_text w second ++ (entries_text w b.entries ++ t) =
        sym (append_assoc (line_text w first) (entries_text w a.entries) s) ∙ e ∙ append_assoc (line_text w second) (entries_text w b.entries) t in
        let (same, more) = same_line (dues.Tree sizes) first second (entries_text w a.entries ++ s) (entries_text w b.entries ++ t) (agent_line sizes a p) (agent_line sizes b q) e' in
        let (agent, count) = agent_same a.agent b.agent (length a.entries) (length b.entries) same in
        let (entries, rest) = same_list (IsEntryFor sizes) (entry_text w) (entries_apart sizes) a.entries b.entries s t p.entries q.entries count more in
        (ap (λ (n : ℕ). let c : LabelBlock = record { agent = n; entries = a.entries } in c) agent ∙ ap (λ (es : List Entry). let c : LabelBlock = record { agent = b.agent; entries = es } in c) entries, rest)

-- where an entry is expected, a line of the tree is
pub entry_is_line : (sizes : Sizes) (before : List Entry) (t : List ℕ) → BeginsWithEntry sizes before t → BeginsWithLine (dues.Tree sizes) t
entry_is_line sizes before t begins = record { value = lines.At begins.value; is = begins.is.0; rest = begins.rest; spelled = begins.spelled }

-- if the bytes begin with an entry that may follow, their first line is that entry's
pub entry_fits : (sizes : Sizes) (before : List Entry) (line : CertLine) (more : List ℕ) → IsLine (dues.Tree sizes) line → BeginsWithEntry sizes before (line_text sizes.width line ++ more)
    → (entry : Entry) × (line ≡ lines.At entry) × MayFollow Entry (IsEntryFor sizes) IsBefore before entry
entry_fits sizes before line more is begins =
    let (same, rest) = same_line (dues.Tree sizes) line (lines.At begins.value) more begins.rest is begins.is.0 begins.spelled in
    (begins.value, same, begins.is)

pub block_is_line : (sizes : Sizes) (before : List LabelBlock) (t : List ℕ) → BeginsWithBlock sizes before t → BeginsWithLine (dues.Tree sizes) t
block_is_line sizes before t begins =
    let block = begins.value in
    record {
      value = lines.Agent block.agent (length block.entries);
      is = agent_line sizes block begins.is.0;
      rest = entries_text sizes.width block.entries ++ begins.rest;
      spelled = begins.spelled ∙ append_assoc (line_text sizes.width (lines.Agent block.agent (length block.entries))) (entries_text sizes.width block.entries) begins.rest;
    }

pub block_fits : (sizes : Sizes) (before : List LabelBlock) (line : CertLine) (more : List ℕ) → IsLine (dues.Tree sizes) line → BeginsWithBlock sizes before (line_text sizes.width line ++ more)
    → (block : LabelBlock) × (line ≡ lines.Agent block.agent (length block.entries)) × MayFollow LabelBlock (IsBlockFor sizes) IsOfLesserAgent before block × BeginsWithEntries sizes (length block.entries) more
unfolding block_is_line
block_fits sizes before line more is begins =
    let block = begins.value in
    let begun = block_is_line sizes before (line_text sizes.width line ++ more) begins in
    let (same, rest) = same_line (dues.Tree sizes) line begun.value more begun.rest is begun.is begun.spelled in (
      block,
      same,
      begins.is,
      record {
        value = block.entries;
        is = record { many = refl; each = begins.is.0.entries; rising = begins.is.0.rising };
        rest = begins.rest;
        spelled = rest;
      },
    )

-- a block's line is followed by its entries
pub entries_due : (sizes : Sizes) (before : List LabelBlock) (agent count : ℕ) (more : List ℕ) → IsLine (dues.Tree sizes) (lines.Agent agent count) → BeginsWithBlock sizes before (line_text sizes.width (lines.Agent agent count) ++ more)
    → BeginsWithEntries sizes count more
entries_due sizes before agent count more is begins =
    let (block, same, follows, next) = block_fits sizes before (lines.Agent agent count) more is begins in
    subst (λ n. BeginsWithEntries sizes n more) (sym (agent_same agent block.agent count (length block.entries) same).1) next

pub before_trans : (a b c : Entry) → IsBefore a b → IsBefore b c → IsBefore a c
before_trans a b c (inl p) (inl q) = inl (omega arith)
before_trans a b c (inl p) (inr (q, r)) = inl (omega arith)
before_trans a b c (inr (p, o)) (inl q) = inl (omega arith)
before_trans a b c (inr (p, o)) (inr (q, r)) = inr (omega arith, omega arith)

-- an entry that may not follow
pub misfit_entry : (sizes : Sizes) (before : List Entry) (a b : Option (List ℕ)) (failed : Bool) (x y : Buffered) (line : CertLine) (entry : Entry) (fault : LinesFault) → IsTextFault fault → failed ≡ false → IsLine (dues.Tree sizes) line
    → Window a b x y (line_text sizes.width line) → line ≡ lines.At entry → (All (λ e. IsBefore e entry) before → ⊥) → Fails a b failed x (BeginsWithEntry sizes before) fault
misfit_entry sizes before a b failed x y line entry fault is works ranged window same never =
    Fails-text a b failed x (BeginsWithEntry sizes before) fault is works (Refuses-taken a b x y (line_text sizes.width line) (BeginsWithEntry sizes before) window (λ more begins.
    let (e, fits, follows) = entry_fits sizes before line more ranged begins in
    let one : e ≡ entry = at_same e entry (sym fits ∙ same) in
    never (subst (λ (v : Entry). All (λ d. IsBefore d v) before) one follows.1)))

-- a block of an agent that may not follow
pub misfit_block : (sizes : Sizes) (before : List LabelBlock) (a b : Option (List ℕ)) (failed : Bool) (x y : Buffered) (line : CertLine) (agent count : ℕ) (fault : LinesFault) → IsTextFault fault → failed ≡ false → IsLine (dues.Tree sizes) line
    → Window a b x y (line_text sizes.width line) → line ≡ lines.Agent agent count → (All (λ d. d.agent < agent) before → ⊥) → Fails a b failed x (BeginsWithBlock sizes before) fault
misfit_block sizes before a b failed x y line agent count fault is works ranged window same never =
    Fails-text a b failed x (BeginsWithBlock sizes before) fault is works (Refuses-taken a b x y (line_text sizes.width line) (BeginsWithBlock sizes before) window (λ more begins.
    let (block, fits, follows, next) = block_fits sizes before line more ranged begins in
    let one : block.agent ≡ agent = (agent_same block.agent agent (length block.entries) count (sym fits ∙ same)).0 in
    never (subst (λ (n : ℕ). All (λ d. d.agent < n) before) one follows.1)))

-- a block whose entries are refused
pub fails_in_entries : (sizes : Sizes) (before : List LabelBlock) (a b c : Option (List ℕ)) (failed : Bool) (x y : Buffered) (line : CertLine) (agent count : ℕ) (fault : LinesFault) → IsLine (dues.Tree sizes) line
    → Window a b x y (line_text sizes.width line) → line ≡ lines.Agent agent count → Fails b c failed y (BeginsWithEntries sizes count) fault → Fails a c failed x (BeginsWithBlock sizes before) fault
fails_in_entries sizes before a b c failed x y line agent count fault ranged window same fails =
    Fails-after a b c failed x y (line_text sizes.width line) (BeginsWithBlock sizes before) (BeginsWithEntries sizes count) fault window
    (λ more begins. entries_due sizes before agent count more (subst (IsLine (dues.Tree sizes)) same ranged) (subst (λ (l : CertLine). BeginsWithBlock sizes before (line_text sizes.width l ++ more)) same begins)) fails

-- a block's line and its entries
pub block_window : (sizes : Sizes) (a b c : Option (List ℕ)) (x y z : Buffered) (line : CertLine) (agent count : ℕ) (entries : List Entry) → Window a b x y (line_text sizes.width line) → line ≡ lines.Agent agent count → length entries ≡ count
    → Window b c y z (entries_text sizes.width entries) → Window a c x z (block_text sizes.width (record { agent = agent; entries = entries }))
block_window sizes a b c x y z line agent count entries first same many second =
    let whole : line ≡ lines.Agent agent (length entries) = same ∙ ap (lines.Agent agent) (sym many) in
    Window-trans a b c x y z (line_text sizes.width (lines.Agent agent (length entries))) (entries_text sizes.width entries) (subst (λ (l : CertLine). Window a b x y (line_text sizes.width l)) whole first) second
