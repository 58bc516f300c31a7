-- Parts of a line of version 3, and how they are read one after another. The shape of the whole line is read first; the
-- ranges of its numbers are judged after that.
use Rattle.std.specs.Prelude.{ℕ, List, codes, Option, Some, None, Result, Ok, Err, if◌then◌else◌}
use Rattle.std.specs.Str.{bytes_eq}
use Rattle.std.specs.Option.{option_map_or}
use Rattle.mapf_model.specs.declared.label.Label.{Label}
use Rattle.mapf_model.specs.declared.label.Label.TheVariants as labels
use Rattle.mapf_fields.specs.declared.fault.LineFault.{LineFault}
use Rattle.mapf_fields.specs.declared.fault.LineFault.TheVariants.{Shape}
use Rattle.mapf_fields.specs.Numbers.{◌>>=◌, strip, read_field, read_last, read_pair, in_range, below, read_cell}
use Rattle.mapf_lemma_texts.specs.declared.parts.AmountWord.{AmountWord}
use Rattle.mapf_lemma_texts.specs.declared.parts.AmountWord.TheVariants as amounts

-- a part that other parts follow: how bytes that begin with it are read, with what follows it; and whether what was
-- read is in range, and which value it is
pub record Front (Raw Value : Type 0) : Type 0 where
  pub read : List ℕ → Result (Raw × List ℕ) LineFault
  pub judge : Raw → Result Value LineFault

-- the last part, or some last parts
pub record Back (Raw Value : Type 0) : Type 0 where
  pub read : List ℕ → Result Raw LineFault
  pub judge : Raw → Result Value LineFault

-- a line with these last parts, after its word
abbrev pub read_back : {Raw Value : Type 0} → Back Raw Value → List ℕ → Result Value LineFault
read_back back bs = back.read bs >>= back.judge

infixr 20 ◌&◌
-- a part, and then the last parts
abbrev pub ◌&◌ : {Raw Value Raws Values : Type 0} → Front Raw Value → Back Raws Values →
    Back (Raw × Raws) (Value × Values)
front & back = record {
  read = λ bs. front.read bs >>= λ p. back.read p.1 >>= λ raws. Ok (p.0, raws);
  judge = λ raw. front.judge raw.0 >>= λ value. back.judge raw.1 >>= λ values. Ok (value, values);
}

-- a number
abbrev pub number : (Option ℕ → Result ℕ LineFault) → Front (Option ℕ) ℕ
number judge_number = record { read = read_field 32; judge = judge_number }

-- a number at the end of a line
abbrev pub last_number : (Option ℕ → Result ℕ LineFault) → Back (Option ℕ) ℕ
last_number judge_number = record { read = read_last 32; judge = judge_number }

-- a cell
abbrev pub cell_part : ℕ → ℕ → Front (Option ℕ × Option ℕ) ℕ
cell_part width height = record {
  read = λ bs. read_pair bs >>= λ p. Ok ((p.0, p.1), p.2);
  judge = λ raw. read_cell width height raw.0 raw.1;
}

-- a cell at the end of a line
abbrev pub last_cell : ℕ → ℕ → Back (Option ℕ × Option ℕ) ℕ
last_cell width height = record {
  read = λ bs. read_field 32 bs >>= λ x. read_last 44 x.1 >>= λ y. Ok (x.0, y);
  judge = λ raw. read_cell width height raw.0 raw.1;
}

-- what follows the star of an agent that has arrived
unfoldable pub read_star : List ℕ → Result (List ℕ) LineFault
read_star bs = option_map_or (λ rest. Ok rest) (strip (codes " *") bs) (Err Shape)

-- the star of an agent that has arrived
abbrev pub star : Front (Unit {0}) (Unit {0})
star = record { read = λ bs. read_star bs >>= λ rest. Ok (tt, rest); judge = λ raw. Ok tt }

-- an amount, whose number isn't judged yet
unfoldable pub read_amount : List ℕ → Result AmountWord LineFault
read_amount bs =
    if bytes_eq bs (codes " inf") then Ok amounts.Infinite else
    read_last 32 bs >>= λ units. Ok (amounts.Units units)

-- its number judged
abbrev pub judge_amount : ℕ → AmountWord → Result Label LineFault
judge_amount most amounts.Infinite = Ok labels.Never
judge_amount most (amounts.Units units) = in_range 1 most units >>= λ n. Ok (labels.Ticks n)

-- an amount at the end of a line
abbrev pub last_amount : ℕ → Back AmountWord Label
last_amount most = record { read = read_amount; judge = judge_amount most }

-- the number of a price list, which isn't judged yet, or none
unfoldable pub read_list_number : List ℕ → Result (Option (Option ℕ)) LineFault
read_list_number bs =
    if bytes_eq bs (codes " -") then Ok None else read_last 32 bs >>= λ n. Ok (Some n)

-- it judged
abbrev pub judge_list_number : ℕ → Option (Option ℕ) → Result (Option ℕ) LineFault
judge_list_number lists None = Ok None
judge_list_number lists (Some number) = below lists number >>= λ n. Ok (Some n)

-- the number of a price list, or none, at the end of a line
abbrev pub last_list_number : ℕ → Back (Option (Option ℕ)) (Option ℕ)
last_list_number lists = record { read = read_list_number; judge = judge_list_number lists }
