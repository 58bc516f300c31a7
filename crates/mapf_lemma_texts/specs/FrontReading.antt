-- What the lines of labels, at the beginning of bytes, are read as.
use Rattle.std.specs.Prelude.{ℕ, List, codes, Option, Result, Ok, Err}
use Rattle.std.specs.Option.{option_map_or}
use Rattle.mapf_model.specs.Limits.{greatest_cost}
use Rattle.mapf_lemmas.specs.declared.joint.JointState.TheVariants as states
use Rattle.mapf_fields.specs.declared.fault.LineFault.{LineFault}
use Rattle.mapf_fields.specs.declared.fault.LineFault.TheVariants.{Shape}
use Rattle.mapf_fields.specs.Numbers.{◌>>=◌, strip, read_field, read_pair, in_range, read_cell}
use Rattle.mapf_certificate.specs.EntryReading.{read_line_end}
use Rattle.mapf_lemma_texts.specs.declared.line.LemmaLine.{LemmaLine}
use Rattle.mapf_lemma_texts.specs.declared.line.LemmaLine.TheVariants as lines
use Rattle.mapf_lemma_texts.specs.declared.parts.AmountWord.{AmountWord}
use Rattle.mapf_lemma_texts.specs.declared.parts.AmountWord.TheVariants as amounts
use Rattle.mapf_lemma_texts.specs.declared.sizes.LineSizes.{LineSizes}
use Rattle.mapf_lemma_texts.specs.LineParts.{judge_amount}
use Rattle.mapf_lemma_texts.specs.Ranges.{greatest_label}

-- the amount after the blank that bytes begin with, whose number isn't judged yet, and what follows it
unfoldable pub read_amount_front : List ℕ → Result (AmountWord × List ℕ) LineFault
read_amount_front bs =
    option_map_or (λ rest. Ok (amounts.Infinite, rest)) (strip (codes " inf") bs)
    (read_field 32 bs >>= λ units. Ok (amounts.Units units.0, units.1))

-- the tick and the label at the end of the line of an entry, which aren't judged yet, and what follows its LF
unfoldable pub read_label_end : List ℕ → Result (Option ℕ × AmountWord × List ℕ) LineFault
read_label_end bs = do
  tick ← read_field 32 bs
  word ← read_amount_front tick.1
  rest ← read_line_end word.1
  Ok (tick.0, word.0, rest)

-- the label of a cell, after its word, and what follows the LF
unfoldable pub read_entry_front : LineSizes → List ℕ → Result (LemmaLine × List ℕ) LineFault
read_entry_front sizes bs = do
  at ← read_pair bs
  end ← read_label_end at.2
  cell ← read_cell sizes.width sizes.height at.0 at.1
  tick ← in_range 0 greatest_cost end.0
  label ← judge_amount greatest_label end.1
  Ok (lines.At (record { cell = cell; tick = tick; label = label }), end.2)

-- the label of two cells, after its word, and what follows the LF
unfoldable pub read_both_front : LineSizes → List ℕ → Result (LemmaLine × List ℕ) LineFault
read_both_front sizes bs = do
  one ← read_pair bs
  other ← read_pair one.2
  end ← read_label_end other.2
  first ← read_cell sizes.width sizes.height one.0 one.1
  second ← read_cell sizes.width sizes.height other.0 other.1
  tick ← in_range 0 greatest_cost end.0
  label ← judge_amount greatest_label end.1
  Ok (lines.JointAt (record { state = states.Both first second; tick = tick; label = label }), end.2)

-- the first, or the second if the first is none
abbrev pub or_other : {A : Type 0} → Result A LineFault → Result A LineFault → Result A LineFault
or_other (Ok x) other = Ok x
or_other (Err fault) other = other

-- the line of a label of one cell or of two, and what follows the LF
unfoldable pub read_label_front : LineSizes → List ℕ → Result (LemmaLine × List ℕ) LineFault
read_label_front sizes bs =
    option_map_or (λ rest. or_other (read_entry_front sizes rest) (read_both_front sizes rest)) (strip (codes "at") bs)
    (Err Shape)
