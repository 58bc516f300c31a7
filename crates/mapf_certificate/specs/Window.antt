-- What a call takes from a buffer and the source behind it, and why it takes nothing.
use Rattle.std.specs.Prelude.{◌≡◌, ◌≢◌, ◌↔◌, ◌⊎◌, ◌+◌, ◌<◌, ◌≤◌, ℕ, Bool, true, false, List, [], ◌++◌, length, take}
use Rattle.std.specs.Prelude.{Option}
use Rattle.std.specs.Io.KnownBytes.{Consumes, IsAtEnd}
use Rattle.mapf_model.specs.Limits.{longest_cert_line}
use Rattle.mapf_fields.specs.Ends.{lacks_end}
use Rattle.mapf_certificate.specs.declared.buffer.NoLine.{NoLine}
use Rattle.mapf_certificate.specs.declared.buffer.NoLine.TheVariants as stops
use Rattle.mapf_certificate.specs.declared.cert.CertFault.TheVariants as texts
use Rattle.mapf_certificate.specs.declared.cert.LinesFault.{LinesFault}
use Rattle.mapf_certificate.specs.declared.cert.LinesFault.TheVariants.{Text, Device, TooLong, Memory}
use Rattle.mapf_certificate.specs.Buffered.{Buffered}

-- the old bytes, followed by those that were read, are those that were taken, followed by the new ones
pub record Window (had left : Option (List ℕ)) (old new : Buffered) (taken : List ℕ) : Type 0 where
  pub pulled : List ℕ
  pub source : Consumes had left pulled
  pub same : old.bytes ++ pulled ≡ taken ++ new.bytes
  pub within : old.left ≡ new.left + length pulled

-- no more bytes came than were left of the limit
pub record ComesWithin (had left : Option (List ℕ)) (buffer : Buffered) : Type 0 where
  pub pulled : List ℕ
  pub source : Consumes had left pulled
  pub within : length pulled ≤ buffer.left

-- more bytes came than were left of the limit, by one
pub record Exceeds (had left : Option (List ℕ)) (buffer : Buffered) : Type 0 where
  pub pulled : List ℕ
  pub source : Consumes had left pulled
  pub beyond : buffer.left < length pulled
  pub few : length pulled ≤ buffer.left + 1

-- at most one byte more than so many was read, and that byte was read if and only if this holds
pub record Pulls (had left : Option (List ℕ)) (most : ℕ) (TooMany : Type 0) : Type 0 where
  pub came : List ℕ
  pub source : Consumes had left came
  pub few : length came ≤ most + 1
  pub beyond : TooMany ↔ (most < length came)

-- no text of this kind begins with what was in the buffer, followed by what came; or nothing more comes, and that is no
-- such text
pub record Refuses (had left : Option (List ℕ)) (buffer : Buffered) (IsText : List ℕ → Type 0) : Type 0 where
  pub pulled : List ℕ
  pub source : Consumes had left pulled
  pub within : length pulled ≤ buffer.left
  pub wrong : ((more : List ℕ) → IsText ((buffer.bytes ++ pulled) ++ more) → ⊥)
      ⊎ (IsAtEnd left × (IsText (buffer.bytes ++ pulled) → ⊥))

-- why no text of this kind is read: there is none, or the source failed, or too many bytes came, or out of memory. The
-- source failed in the second case and in no other
abbrev pub Fails : Option (List ℕ) → Option (List ℕ) → Bool → Buffered → (List ℕ → Type 0) → LinesFault → Type 0
Fails had left failed buffer IsText (Text texts.Memory) = ⊥
Fails had left failed buffer IsText (Text _) = (failed ≡ false) × Refuses had left buffer IsText
Fails had left failed buffer IsText Device = (failed ≡ true) × ComesWithin had left buffer
Fails had left failed buffer IsText TooLong = (failed ≡ false) × Exceeds had left buffer
Fails had left failed buffer IsText Memory = (failed ≡ false) × ComesWithin had left buffer

-- the error isn't an error of the text that means out of memory
abbrev pub IsNotTextMemory : LinesFault → Type 0
IsNotTextMemory fault = fault ≢ Text texts.Memory

-- the error isn't one of the text
abbrev pub IsNoTextFault : LinesFault → Type 0
IsNoTextFault (Text fault) = ⊥
IsNoTextFault _ = Unit {0}

-- what stops a reader apart from the text: the source failed, or too many bytes came, or out of memory
abbrev pub StopsReader : Option (List ℕ) → Option (List ℕ) → Bool → Buffered → LinesFault → Type 0
StopsReader had left failed buffer (Text fault) = Unit {0}
StopsReader had left failed buffer Device = failed ≡ true
StopsReader had left failed buffer TooLong = Exceeds had left buffer
StopsReader had left failed buffer Memory = Unit {0}

-- the error is one of the text
abbrev pub IsTextFault : LinesFault → Type 0
IsTextFault (Text texts.Memory) = ⊥
IsTextFault (Text _) = Unit {0}
IsTextFault _ = ⊥

-- the error that reports why there is no line
abbrev pub Reports : NoLine → LinesFault → Type 0
Reports stops.Ended fault = IsTextFault fault
Reports stops.Overlong fault = IsTextFault fault
Reports stops.Device fault = fault ≡ Device
Reports stops.PastLimit fault = fault ≡ TooLong

-- the bytes begin with a spelled value
pub record BeginsWith (A : Type 0) (Is : A → Type 0) (text : A → List ℕ) (bytes : List ℕ) : Type 0 where
  pub value : A
  pub is : Is value
  pub rest : List ℕ
  pub spelled : bytes ≡ text value ++ rest

-- the source ended before a line did
pub record EndsEarly (had left : Option (List ℕ)) (old new : Buffered) : Type 0 where
  pub window : Window had left old new []
  pub ended : IsAtEnd left
  pub lacking : lacks_end new.bytes ≡ true

-- more bytes come before the end of a line than a line may have
pub record IsOverlong (had left : Option (List ℕ)) (old new : Buffered) : Type 0 where
  pub window : Window had left old new []
  pub many : longest_cert_line < length new.bytes
  pub lacking : lacks_end (take (longest_cert_line + 1) new.bytes) ≡ true

-- why there is no line
abbrev pub LacksLine : Option (List ℕ) → Option (List ℕ) → Bool → Buffered → Buffered → NoLine → Type 0
LacksLine had left failed old new stops.Ended = (failed ≡ false) × EndsEarly had left old new
LacksLine had left failed old new stops.Overlong = (failed ≡ false) × IsOverlong had left old new
LacksLine had left failed old new stops.Device = (failed ≡ true) × ComesWithin had left old
LacksLine had left failed old new stops.PastLimit = (failed ≡ false) × Exceeds had left old

-- why no bytes came
abbrev pub LacksBytes : Option (List ℕ) → Option (List ℕ) → Bool → Buffered → NoLine → Type 0
LacksBytes had left failed buffer stops.Ended = ⊥
LacksBytes had left failed buffer stops.Overlong = ⊥
LacksBytes had left failed buffer stops.Device = (failed ≡ true) × ComesWithin had left buffer
LacksBytes had left failed buffer stops.PastLimit = (failed ≡ false) × Exceeds had left buffer
