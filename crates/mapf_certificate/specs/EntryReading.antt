-- What the line of an entry, at the beginning of bytes, is read as.
use Rattle.std.specs.Prelude.{◌≡◌, ◌≤◌, ◌==◌, ℕ, List, [], ◌∷◌, ◌++◌, codes, length, drop, Result, Ok, Err}
use Rattle.std.specs.Prelude.{if◌then◌else◌}
use Rattle.std.specs.Option.{option_map_or}
use Rattle.mapf_model.specs.Limits.{greatest_cost}
use Rattle.mapf_model.specs.declared.label.Entry.{Entry}
use Rattle.mapf_model.specs.declared.label.Label.{Label}
use Rattle.mapf_model.specs.declared.label.Label.TheVariants as labels
use Rattle.mapf_fields.specs.Numbers.{◌>>=◌, strip, read_field, read_pair, in_range, read_cell}
use Rattle.mapf_fields.specs.declared.fault.LineFault.{LineFault}
use Rattle.mapf_fields.specs.declared.fault.LineFault.TheVariants.{Shape}
use Rattle.mapf_certificate.specs.declared.sizes.Sizes.{Sizes}

-- the label after the blank that bytes begin with, and what follows it
unfoldable pub read_label_front : List ℕ → Result (Label × List ℕ) LineFault
read_label_front bs =
    option_map_or (λ rest. Ok (labels.Never, rest)) (strip (codes " inf") bs)
    (read_field 32 bs >>= λ ticks. in_range 1 greatest_cost ticks.0 >>= λ n. Ok (labels.Ticks n, ticks.1))

-- what follows an LF
unfoldable pub read_line_end : List ℕ → Result (List ℕ) LineFault
read_line_end [] = Err Shape
read_line_end (b ∷ bs) = if b == 10 then Ok bs else Err Shape

-- the entry whose line bytes begin with, without its first word, and what follows the LF
unfoldable pub read_entry_parts : Sizes → List ℕ → Result (Entry × List ℕ) LineFault
read_entry_parts sizes bs = do
  at ← read_pair bs
  tick ← read_field 32 at.2
  label ← read_label_front tick.1
  rest ← read_line_end label.1
  cell ← read_cell sizes.width sizes.height at.0 at.1
  ticks ← in_range 0 greatest_cost tick.0
  Ok (record { cell = cell; tick = ticks; label = label.0 }, rest)

-- the entry whose line bytes begin with, and what follows the LF
unfoldable pub read_entry_front : Sizes → List ℕ → Result (Entry × List ℕ) LineFault
read_entry_front sizes bs = option_map_or (read_entry_parts sizes) (strip (codes "at") bs) (Err Shape)

-- the bytes begin with this text, of this length
pub record BeginsWithText (bytes text : List ℕ) (long : ℕ) : Type 0 where
  pub within : long ≤ length bytes
  pub same : bytes ≡ text ++ drop long bytes
