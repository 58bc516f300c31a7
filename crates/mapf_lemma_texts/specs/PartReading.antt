-- What the results of a reader of parts say of the bytes that its source gave.
use Rattle.std.specs.Prelude.{◌≡◌, ℕ, ◌+◌, ◌≤◌, ◌^◌, Bool, true, false, List, [], ◌∷◌, ◌++◌, Option, Some, None, IfSome}
use Rattle.std.specs.Io.KnownBytes.{IsAtEnd}
use Rattle.mapf_certificate.specs.Buffered.{Buffered, spare}
use Rattle.mapf_certificate.specs.declared.cert.LinesFault.{LinesFault}
use Rattle.mapf_certificate.specs.Window.{Window, BeginsWith, IsNotTextMemory}
use Rattle.mapf_lemma_texts.specs.declared.due.Due.{Due}
use Rattle.mapf_lemma_texts.specs.declared.due.Due.TheVariants as dues
use Rattle.mapf_lemma_texts.specs.declared.line.LemmaLine.{LemmaLine}
use Rattle.mapf_lemma_texts.specs.declared.line.LemmaLine.TheVariants as lines
use Rattle.mapf_lemma_texts.specs.declared.part.Part.{Part}
use Rattle.mapf_lemma_texts.specs.declared.sizes.LineSizes.{LineSizes}
use Rattle.mapf_lemma_texts.specs.Due.{Admits, due_after, pending_at, lists_after}
use Rattle.mapf_lemma_texts.specs.Lines.{line_text}
use Rattle.mapf_lemma_texts.specs.Parts.{IsPart, first_line, more_text, part_text}
use Rattle.mapf_lemma_texts.specs.Ranges.{IsOneTo}
use Rattle.mapf_model.specs.Limits.{greatest_side, most_agents}
use Rattle.mapf_model.specs.Printed.{IsClaimInRange}
use Rattle.mapf_model.specs.declared.item.Claim.{Claim}

-- the sizes by which lines are judged after a part: the number of lists may have become known
pub record AreSizesAfter (old : LineSizes) (part : Part) (new : LineSizes) : Type 0 where
  pub width : new.width ≡ old.width
  pub height : new.height ≡ old.height
  pub agents : new.agents ≡ old.agents
  pub lists : new.lists ≡ lists_after old.lists part

-- what is left of a certificate: parts, each in its place, and the end
abbrev pub IsRest : LineSizes → Due → List Part → List ℕ → Type 0
IsRest sizes due [] bytes = (due ≡ dues.Tree 0) × (bytes ≡ line_text sizes.width lines.End)
IsRest sizes due (part ∷ parts) bytes =
    IsPart sizes part × Admits due (first_line part) × (later : LineSizes) × AreSizesAfter sizes part later
    × (after : List ℕ) × (bytes ≡ part_text sizes.width part ++ after) × IsRest later (due_after due part) parts after

-- how far a certificate was read: what is left in the buffer, what bounds the numbers of lines and what is claimed, if
-- the header was read, and which part comes next
pub record PartReading : Type 0 where
  pub width : ℕ
  pub height : ℕ
  pub buffer : Buffered
  pub header : Option (LineSizes × Claim)
  pub due : Due
  pub fault : Option LinesFault
  pub is_whole : Bool

-- what holds at any time
pub record IsPartReading (r : PartReading) : Type 0 where
  pub columns : (1 ≤ r.width) × (r.width ≤ greatest_side)
  pub rows : (1 ≤ r.height) × (r.height ≤ greatest_side)
  pub bounded : pending_at r.due + spare r.buffer ≤ 2 ^ 64
  pub faults : IfSome r.fault IsNotTextMemory

-- this holds, if no error was returned
abbrev pub IfUnfaulted : PartReading → Type 0 → Type 0
IfUnfaulted r P = r.fault ≡ None → P

-- this holds, if the header is expected: neither it nor an error was returned
abbrev pub IfHeaderDue : PartReading → Type 0 → Type 0
IfHeaderDue r P = r.fault ≡ None → r.header ≡ None → P

-- this holds, if a part or the end is expected: neither the end nor an error was returned
abbrev pub IfPartDue : PartReading → Type 0 → Type 0
IfPartDue r P = r.fault ≡ None → r.is_whole ≡ false → P

-- the bytes are what is left of a certificate
pub record IsRestAt (r : PartReading) (bytes : List ℕ) : Type 0 where
  pub sizes : LineSizes
  pub claim : Claim
  pub header : r.header ≡ Some (sizes, claim)
  pub parts : List Part
  pub rest : IsRest sizes r.due parts bytes

-- what is in the buffer and then still comes from the source spells these parts, each in its place, and the end. Of an
-- opaque source, such as a file, this never holds
pub record AwaitsParts (remaining : Option (List ℕ)) (r : PartReading) (parts : List Part) : Type 0 where
  pub sizes : LineSizes
  pub claim : Claim
  pub header : r.header ≡ Some (sizes, claim)
  pub bytes : List ℕ
  pub known : remaining ≡ Some bytes
  pub rest : IsRest sizes r.due parts (r.buffer.bytes ++ bytes)

-- the bytes are the lines of a part after this first one, and more
pub record FollowsFirst (A : Type 0) (wrap : A → Part) (sizes : LineSizes) (line : LemmaLine) (bytes : List ℕ)
    : Type 0 where
  pub value : A
  pub first : first_line (wrap value) ≡ line
  pub is : IsPart sizes (wrap value)
  pub rest : List ℕ
  pub spelled : bytes ≡ more_text sizes.width (wrap value) ++ rest

-- the lines of a part after this first one were taken
pub record CompletesPart (sizes : LineSizes) (had left : Option (List ℕ)) (old new : Buffered) (line : LemmaLine)
    (part : Part) : Type 0 where
  pub first : first_line part ≡ line
  pub is : IsPart sizes part
  pub window : Window had left old new (more_text sizes.width part)

-- a part was read: it is in range and in its place, and its lines were taken
pub record ReadsPart (had left : Option (List ℕ)) (old new : PartReading) (part : Part) : Type 0 where
  pub sizes : LineSizes
  pub claim : Claim
  pub header : old.header ≡ Some (sizes, claim)
  pub is : IsPart sizes part
  pub place : Admits old.due (first_line part)
  pub window : Window had left old.buffer new.buffer (part_text sizes.width part)
  pub later : LineSizes
  pub sizes_after : AreSizesAfter sizes part later
  pub header_after : new.header ≡ Some (later, claim)
  pub due : new.due ≡ due_after old.due part

-- a part was read, and it is the next one: it and what may follow it are what could come before it
pub record TakesPart (had left : Option (List ℕ)) (old new : PartReading) (part : Part) : Type 0 where
  pub read : ReadsPart had left old new part
  pub joins : (bytes : List ℕ) → had ≡ Some bytes → (parts : List Part) → AwaitsParts left new parts →
      AwaitsParts had old (part ∷ parts)

-- the end was read: nothing else was due, the last line was taken, and the source has ended
pub record ReadsEnd (had left : Option (List ℕ)) (old new : PartReading) : Type 0 where
  pub sizes : LineSizes
  pub claim : Claim
  pub header : old.header ≡ Some (sizes, claim)
  pub nothing_due : old.due ≡ dues.Tree 0
  pub window : Window had left old.buffer new.buffer (line_text sizes.width lines.End)
  pub ended : IsAtEnd left
  pub empty : new.buffer.bytes ≡ []

-- the end was read, and nothing else was left
pub record TakesEnd (had left : Option (List ℕ)) (old new : PartReading) : Type 0 where
  pub read : ReadsEnd had left old new
  pub whole : new.is_whole ≡ true
  pub joins : (bytes : List ℕ) → had ≡ Some bytes → AwaitsParts had old []

-- the first three lines
abbrev pub header_text : ℕ → ℕ → Claim → List ℕ
header_text width agents claim =
    line_text width lines.Title ++ (line_text width (lines.Agents agents) ++ line_text width (lines.Claim claim))

-- the bytes begin with a header
abbrev pub HasHeader : ℕ → List ℕ → Type 0
HasHeader width bytes =
    BeginsWith (ℕ × Claim) (λ h. IsOneTo most_agents h.0 × IsClaimInRange h.1) (λ h. header_text width h.0 h.1) bytes

-- the sizes by which the lines after the header are judged: no list is known
pub record AreFirstSizes (width height agents : ℕ) (sizes : LineSizes) : Type 0 where
  pub width_is : sizes.width ≡ width
  pub height_is : sizes.height ≡ height
  pub agents_are : sizes.agents ≡ agents
  pub no_lists : sizes.lists ≡ 0

-- the bytes spell a header, then these parts, each in its place, and the end
pub record IsLemmaText (width height : ℕ) (due : Due) (agents : ℕ) (claim : Claim) (parts : List Part)
    (bytes : List ℕ) : Type 0 where
  pub agents_in_range : IsOneTo most_agents agents
  pub claim_in_range : IsClaimInRange claim
  pub sizes : LineSizes
  pub first_sizes : AreFirstSizes width height agents sizes
  pub after : List ℕ
  pub spelled : bytes ≡ header_text width agents claim ++ after
  pub rest : IsRest sizes due parts after

-- what is in the buffer and then still comes from the source spells this header, then these parts, and the end
pub record AwaitsText (remaining : Option (List ℕ)) (r : PartReading) (agents : ℕ) (claim : Claim) (parts : List Part)
    : Type 0 where
  pub bytes : List ℕ
  pub known : remaining ≡ Some bytes
  pub text : IsLemmaText r.width r.height r.due agents claim parts (r.buffer.bytes ++ bytes)

-- a header was read: its three lines were taken; and it and what follows make a certificate, if the source reports its
-- bytes
pub record TakesHeader (had left : Option (List ℕ)) (old new : PartReading) (agents : ℕ) (claim : Claim) : Type 0 where
  pub agents_in_range : IsOneTo most_agents agents
  pub claim_in_range : IsClaimInRange claim
  pub sizes : LineSizes
  pub first_sizes : AreFirstSizes old.width old.height agents sizes
  pub header : new.header ≡ Some (sizes, claim)
  pub window : Window had left old.buffer new.buffer (header_text old.width agents claim)
  pub joins : (bytes : List ℕ) → had ≡ Some bytes → (parts : List Part) → AwaitsParts left new parts →
      AwaitsText had old agents claim parts
