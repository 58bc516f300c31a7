-- A reader and its source stay as they were.
use Rattle.std.specs.Prelude.{◌≡◌, ◌⊎◌, ◌<◌, ◌+◌, ℕ, false, List, ◌++◌, length, take}
use Rattle.mapf_model.specs.Limits.{longest_cert_line}
use Rattle.mapf_fields.specs.Ends.{lacks_end}
use Rattle.mapf_certificate.specs.Buffered.{Buffered}

-- a call left both the reader and its source as they were
abbrev pub IsUntouched : {R S : Type 0} → R → R → S → S → Type 0
IsUntouched old new source_old source_new = (new ≡ old) × (source_new ≡ source_old)

-- if the text that was taken was all in the buffer, the source is as it was, and what followed the text is left
abbrev pub TakesThere : {S : Type 0} → S → S → Buffered → Buffered → List ℕ → Type 0
TakesThere source_old source_new old new taken = (rest : List ℕ) → old.bytes ≡ taken ++ rest
    → (source_new ≡ source_old) × (new ≡ record { bytes = rest; left = old.left })

-- a whole line is in the buffer, or more than a line can hold
abbrev pub HasLine : Buffered → Type 0
HasLine buffer =
    (lacks_end (take (longest_cert_line + 1) buffer.bytes) ≡ false) ⊎ (longest_cert_line < length buffer.bytes)

-- if a line is in the buffer that isn't of the expected kind, the source is as it was
abbrev pub RefusesThere : {S : Type 0} → S → S → Buffered → (List ℕ → Type 0) → Type 0
RefusesThere source_old source_new buffer IsDue = HasLine buffer → (IsDue buffer.bytes → ⊥) → source_new ≡ source_old
