-- Numbers: one or more digits, leading zeros allowed.
use Rattle.std.specs.Prelude.{◌≡◌, ℕ, ◌<◌, ◌≤◌, ◌^◌, true, List, length, Result, Ok, Err}
use Rattle.std.specs.Char.{is_ascii_digit}
use Rattle.std.specs.List.{list_all}
use Rattle.std.specs.Str.Parse.{digits_value}
use Rattle.mapf_text.specs.declared.number.NotNumber.{NotNumber}
use Rattle.mapf_text.specs.declared.number.NotNumber.TheVariants.{NoDigits, TooLarge}

-- one or more of 0 to 9
abbrev pub AreDigits : List ℕ → Type 0
AreDigits word = (0 < length word) × (list_all is_ascii_digit word ≡ true)

-- the digits of this number, in decimal
pub record SpellsNumber (word : List ℕ) (n : ℕ) : Type 0 where
  pub digits : AreDigits word
  pub value : digits_value 10 word ≡ n

-- the number of 32 bits that a word spells, or why there is none
abbrev pub NumberOf : List ℕ → Result ℕ NotNumber → Type 0
NumberOf word (Ok n) = SpellsNumber word n × (n < 2 ^ 32)
NumberOf word (Err NoDigits) = (n : ℕ) → SpellsNumber word n → ⊥
NumberOf word (Err TooLarge) = (n : ℕ) × SpellsNumber word n × (2 ^ 32 ≤ n)
