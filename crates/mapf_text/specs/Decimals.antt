-- Decimal text: an optional sign and digits, optionally a point and digits, optionally an exponent.
use Rattle.std.specs.Prelude.{◌≡◌, ◌⊎◌, ℕ, ◌==◌, ◌||◌, List, [], ◌∷◌, ◌++◌, Option, Some, None, codes, option_and_then}
use Rattle.std.specs.Prelude.{if◌then◌else◌}
use Rattle.std.specs.Char.{is_ascii_digit}
use Rattle.mapf_text.specs.Numbers.{AreDigits}

-- no sign, or one
abbrev pub IsSign : List ℕ → Type 0
IsSign sign = (sign ≡ []) ⊎ (sign ≡ codes "+") ⊎ (sign ≡ codes "-")

-- nothing, or a point and digits
abbrev pub IsFraction : List ℕ → Type 0
IsFraction part = (part ≡ []) ⊎ ((digits : List ℕ) × (part ≡ codes "." ++ digits) × AreDigits digits)

-- nothing, or `e` or `E`, an optional sign and digits
abbrev pub IsExponent : List ℕ → Type 0
IsExponent part =
    (part ≡ []) ⊎ ((sign digits : List ℕ) × ((part ≡ codes "e" ++ (sign ++ digits))
    ⊎ (part ≡ codes "E" ++ (sign ++ digits))) × IsSign sign × AreDigits digits)

-- an optional sign, digits, an optional fraction, an optional exponent
pub record IsDecimal (text : List ℕ) : Type 0 where
  pub sign : List ℕ
  pub digits : List ℕ
  pub fraction : List ℕ
  pub exponent : List ℕ
  pub parts : text ≡ sign ++ (digits ++ (fraction ++ exponent))
  pub is_sign : IsSign sign
  pub are_digits : AreDigits digits
  pub is_fraction : IsFraction fraction
  pub is_exponent : IsExponent exponent

-- what follows an optional sign
abbrev pub after_sign : List ℕ → List ℕ
after_sign [] = []
after_sign (b ∷ bs) = if (b == 43) || (b == 45) then bs else b ∷ bs

-- what follows the leading digits
abbrev pub drop_digits : List ℕ → List ℕ
drop_digits [] = []
drop_digits (b ∷ bs) = if is_ascii_digit b then drop_digits bs else b ∷ bs

-- what follows one or more digits
abbrev pub after_digits : List ℕ → Option (List ℕ)
after_digits [] = None
after_digits (b ∷ bs) = if is_ascii_digit b then Some (drop_digits bs) else None

-- what follows an optional point and digits
abbrev pub after_fraction : List ℕ → Option (List ℕ)
after_fraction [] = Some []
after_fraction (b ∷ bs) = if b == 46 then after_digits bs else Some (b ∷ bs)

-- what follows an optional exponent
abbrev pub after_exponent : List ℕ → Option (List ℕ)
after_exponent [] = Some []
after_exponent (b ∷ bs) = if (b == 101) || (b == 69) then after_digits (after_sign bs) else Some (b ∷ bs)

-- what follows the longest decimal text
unfoldable pub after_decimal : List ℕ → Option (List ℕ)
after_decimal text =
    option_and_then (λ a. option_and_then after_exponent (after_fraction a)) (after_digits (after_sign text))
