-- Entries, blocks and nodes whose numbers are bounded by the size of a grid and a number of agents.
use Rattle.std.specs.Prelude.{◌≡◌, ◌<◌, ◌++◌, ℕ, List, All, AllPairs, length}
use Rattle.mapf_model.specs.declared.label.Entry.{Entry}
use Rattle.mapf_model.specs.Blocks.{LabelBlock}
use Rattle.mapf_model.specs.Printed.{IsBefore, IsEntryInRange, IsBlockInRange}
use Rattle.mapf_model.specs.Tree.{Node}
use Rattle.mapf_certificate.specs.declared.line.CertLine.{CertLine}
use Rattle.mapf_certificate.specs.declared.sizes.Sizes.{Sizes}
use Rattle.mapf_certificate.specs.declared.tree_line.Due.{Due}
use Rattle.mapf_certificate.specs.Lines.{IsLine, grid_for, width_of}
use Rattle.mapf_certificate.specs.Certificates.{IsNode, line_text, entry_text, entries_text, block_text, blocks_text}
use Rattle.mapf_certificate.specs.Certificates.{node_text}
use Rattle.mapf_certificate.specs.Window.{BeginsWith}

-- so many values of this kind, in this order
pub record AreInOrder (A : Type 0) (Is : A → Type 0) (Precedes : A → A → Type 0) (count : ℕ) (values : List A)
    : Type 0 where
  pub many : length values ≡ count
  pub each : All Is values
  pub rising : AllPairs Precedes values

-- two texts of which one begins the other begin with one value
pub record AreSpelledApart (A : Type 0) (Is : A → Type 0) (text : A → List ℕ) : Type 0 where
  pub apart : (a b : A) (s t : List ℕ) → Is a → Is b → text a ++ s ≡ text b ++ t → (a ≡ b) × (s ≡ t)

-- a value of this kind that may follow these
abbrev pub MayFollow : (A : Type 0) → (A → Type 0) → (A → A → Type 0) → List A → A → Type 0
MayFollow A Is Precedes before value = Is value × All (λ b. Precedes b value) before

-- an entry in range
abbrev pub IsEntryFor : Sizes → Entry → Type 0
IsEntryFor sizes = IsEntryInRange (grid_for sizes)

-- a block in range
abbrev pub IsBlockFor : Sizes → LabelBlock → Type 0
IsBlockFor sizes = IsBlockInRange (grid_for sizes) sizes.agents

-- a node in range
abbrev pub IsNodeFor : Sizes → Node → Type 0
IsNodeFor sizes = IsNode sizes.version (grid_for sizes) sizes.agents

-- the first block is of a smaller agent
abbrev pub IsOfLesserAgent : LabelBlock → LabelBlock → Type 0
IsOfLesserAgent a b = a.agent < b.agent

-- an entry that may follow these
abbrev pub IsNextEntry : Sizes → List Entry → Entry → Type 0
IsNextEntry sizes before = MayFollow Entry (IsEntryFor sizes) IsBefore before

-- the bytes begin with an expected line
abbrev pub BeginsWithLine : Due → List ℕ → Type 0
BeginsWithLine due = BeginsWith CertLine (IsLine due) (line_text (width_of due))

-- they begin with an entry that may follow these
abbrev pub BeginsWithEntry : Sizes → List Entry → List ℕ → Type 0
BeginsWithEntry sizes before = BeginsWith Entry (IsNextEntry sizes before) (entry_text sizes.width)

-- they begin with so many entries
abbrev pub BeginsWithEntries : Sizes → ℕ → List ℕ → Type 0
BeginsWithEntries sizes count =
    BeginsWith (List Entry) (AreInOrder Entry (IsEntryFor sizes) IsBefore count) (entries_text sizes.width)

-- they begin with a block that may follow these
abbrev pub BeginsWithBlock : Sizes → List LabelBlock → List ℕ → Type 0
BeginsWithBlock sizes before =
    BeginsWith LabelBlock (MayFollow LabelBlock (IsBlockFor sizes) IsOfLesserAgent before) (block_text sizes.width)

-- they begin with so many blocks
abbrev pub BeginsWithBlocks : Sizes → ℕ → List ℕ → Type 0
BeginsWithBlocks sizes count =
    BeginsWith (List LabelBlock) (AreInOrder LabelBlock (IsBlockFor sizes) IsOfLesserAgent count)
    (blocks_text sizes.width)

-- they begin with a node
abbrev pub BeginsWithNode : Sizes → List ℕ → Type 0
BeginsWithNode sizes = BeginsWith Node (IsNodeFor sizes) (node_text sizes.version sizes.width)
