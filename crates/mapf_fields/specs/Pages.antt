-- What is written if bytes are gathered on a page first.
use Rattle.std.specs.Prelude.{◌≡◌, ℕ, List, ◌++◌, Option, Result, Ok, Err}
use Rattle.std.specs.Io.KnownBytes.{Appends}

-- the size of a page, in bytes
abbrev pub page_room : ℕ
page_room = 65536

-- the greatest number of bytes of a number with its separator: a number below 2^64 has at most 20 digits
abbrev pub field_room : ℕ
field_room = 21

-- of the bytes on the page and the text after them a prefix was written, and the rest is on the page now
pub record Passes (old new : Option (List ℕ)) (held left text : List ℕ) : Type 0 where
  pub gone : List ℕ
  pub same : held ++ text ≡ gone ++ left
  pub wrote : Appends old new gone

-- a prefix of the text was written
pub record WritesPrefix (old new : Option (List ℕ)) (text : List ℕ) : Type 0 where
  pub prefix : List ℕ
  pub rest : List ℕ
  pub same : text ≡ prefix ++ rest
  pub wrote : Appends old new prefix

-- the text was written, or the sink failed, and a prefix of it was written
abbrev pub WritesOrFails : {T E : Type 0} → Option (List ℕ) → Option (List ℕ) → List ℕ → Result T E → Type 0
WritesOrFails old new text (Ok done) = Appends old new text
WritesOrFails old new text (Err failed) = WritesPrefix old new text

-- of the bytes on the page, followed by the text, a prefix was written, and the rest is on the page; or the sink
-- failed, and a prefix of them was written
abbrev pub PassesOrFails : {T E : Type 0} → Option (List ℕ) → Option (List ℕ) → List ℕ → List ℕ → List ℕ → Result T E →
    Type 0
PassesOrFails old new held left text (Ok done) = Passes old new held left text
PassesOrFails old new held left text (Err failed) = WritesPrefix old new (held ++ text)
