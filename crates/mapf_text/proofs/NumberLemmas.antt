-- Numbers: what parsing digits gives.
use Rattle.std.proofs.Common.{◌≡◌, ℕ, ◌<◌, ◌^◌, true, List, Err, rules, refl, arith}
use Rattle.std.specs.Char.{is_ascii_digit}
use Rattle.std.specs.List.{list_all}
use Rattle.std.specs.Str.{IsUtf8}
use Rattle.std.specs.Str.Parse.{digits_value, ParsesUnsigned}
use Rattle.std.proofs.lemmas.Str.Parse.{IsNumeralModel, numerals_by_value, parse_digits}
use Rattle.std.proofs.lemmas.Str.{IsUtf8-from_ascii}
use Rattle.std.proofs.lemmas.Fmt.{IsAscii-from_digits}
use Rattle.mapf_text.specs.Numbers.{AreDigits, SpellsNumber, NumberOf}
use Rattle.mapf_text.specs.declared.number.NotNumber.TheVariants.{TooLarge}

digits_model : IsNumeralModel (λ ds. list_all is_ascii_digit ds ≡ true) (digits_value 10)
digits_model = numerals_by_value _ (search rules)

-- digits are text
pub digits-text : (word : List ℕ) → AreDigits word → IsUtf8 word
digits-text word digits = IsUtf8-from_ascii word (IsAscii-from_digits word (digits_model.to word digits.1))

-- digits that `parse` refuses are too large
pub digits-refused : {E : Type 0} (word : List ℕ) (e : E) → AreDigits word → ParsesUnsigned 32 10 word (Err e) → NumberOf word (Err TooLarge)
digits-refused word e digits parsed =
    let refuses = parse_digits digits_model 32 word (Err e) parsed digits.1 in
    let small : digits_value 10 word < 2 ^ 32 → ⊥ = λ h. refuses (digits.0, h) in
    (digits_value 10 word, record { digits = digits; value = refl }, omega arith)

-- a word spells one number at most
pub number-unique : (word : List ℕ) (m n : ℕ) → SpellsNumber word m → SpellsNumber word n → m ≡ n
number-unique word m n spells_m spells_n = let a = spells_m.value in let b = spells_n.value in cc
