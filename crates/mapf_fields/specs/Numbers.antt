-- Numbers in a line: how they are spelled, and what they are read as.
use Rattle.std.specs.Prelude.{◌≡◌, ℕ, ◌==◌, ◌&&◌, ◌^◌, ◌+◌, ◌*◌, ◌/◌, ◌%◌, Bool, true, false, not, nat_lt, nat_le, List}
use Rattle.std.specs.Prelude.{[], ◌∷◌, ◌++◌, length, drop, take_while, Option, Some, None, Result, Ok, Err}
use Rattle.std.specs.Prelude.{if◌then◌else◌}
use Rattle.std.specs.Char.{is_ascii_digit}
use Rattle.std.specs.Fmt.{decimal}
use Rattle.std.specs.Str.Parse.{digits_value}
use Rattle.mapf_fields.specs.declared.fault.LineFault.{LineFault}
use Rattle.mapf_fields.specs.declared.fault.LineFault.TheVariants.{Shape, Range}

-- a number after its separator, which is a blank or a comma
abbrev pub field : ℕ → ℕ → List ℕ
field mark n = mark ∷ decimal n

-- the column and the row of a cell
abbrev pub pair : ℕ → ℕ → List ℕ
pair width cell = field 32 (cell % width) ++ field 44 (cell / width)

infixl 10 ◌>>=◌
-- reads on with what was read; an error ends the reading
abbrev pub ◌>>=◌ : {A B E : Type 0} → Result A E → (A → Result B E) → Result B E
(Ok x) >>= f = f x
(Err e) >>= f = Err e

-- the result of a function, seen by view, is what reading gives
abbrev pub Gives : {X Y E : Type 0} → (X → Y) → Result X E → Result Y E → Type 0
Gives view (Ok x) read = read ≡ Ok (view x)
Gives view (Err e) read = read ≡ Err e

-- what follows a prefix
abbrev pub strip : List ℕ → List ℕ → Option (List ℕ)
strip [] xs = Some xs
strip (c ∷ p) [] = None
strip (c ∷ p) (x ∷ xs) = if c == x then strip p xs else None

-- not empty, and without a leading zero: one byte, or a first byte that isn't `0`
abbrev pub begins_well : List ℕ → Bool
begins_well [] = false
begins_well (c ∷ []) = true
begins_well (c ∷ cs) = not (c == 48)

-- the number that digits spell, None from 2^64 on
unfoldable pub small_value : List ℕ → Option ℕ
small_value ds = if nat_lt (digits_value 10 ds) (2 ^ 64) then Some (digits_value 10 ds) else None

-- the leading digits
abbrev pub front_digits : List ℕ → List ℕ
front_digits bs = take_while is_ascii_digit bs

-- what follows the leading digits
abbrev pub after_digits : List ℕ → List ℕ
after_digits bs = drop (length (front_digits bs)) bs

-- a number, None from 2^64 on, and what follows it
unfoldable pub read_number : List ℕ → Result (Option ℕ × List ℕ) LineFault
read_number bs =
    if begins_well (front_digits bs) then Ok (small_value (front_digits bs), after_digits bs) else Err Shape

-- a number with nothing after it
unfoldable pub read_whole : List ℕ → Result (Option ℕ) LineFault
read_whole bs = read_number bs >>= at_end
  where
    at_end : Option ℕ × List ℕ → Result (Option ℕ) LineFault
    at_end (number, []) = Ok number
    at_end (number, b ∷ bs) = Err Shape

-- a number after this byte
unfoldable pub read_field : ℕ → List ℕ → Result (Option ℕ × List ℕ) LineFault
read_field mark [] = Err Shape
read_field mark (b ∷ bs) = if b == mark then read_number bs else Err Shape

-- a number after this byte, at the end of a line
unfoldable pub read_last : ℕ → List ℕ → Result (Option ℕ) LineFault
read_last mark [] = Err Shape
read_last mark (b ∷ bs) = if b == mark then read_whole bs else Err Shape

-- a blank and a pair
unfoldable pub read_pair : List ℕ → Result (Option ℕ × Option ℕ × List ℕ) LineFault
read_pair bs = do
  x ← read_field 32 bs
  y ← read_field 44 x.1
  Ok (x.0, y.0, y.1)

-- a number in its range
abbrev pub in_range : ℕ → ℕ → Option ℕ → Result ℕ LineFault
in_range least most (Some n) = if nat_le least n && nat_le n most then Ok n else Err Range
in_range least most None = Err Range

-- a number below the bound
abbrev pub below : ℕ → Option ℕ → Result ℕ LineFault
below bound (Some n) = if nat_lt n bound then Ok n else Err Range
below bound None = Err Range

-- the cell of a pair
unfoldable pub read_cell : ℕ → ℕ → Option ℕ → Option ℕ → Result ℕ LineFault
read_cell width height x y = do
  column ← below width x
  row ← below height y
  Ok (row * width + column)
