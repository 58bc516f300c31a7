-- Digits and the number that they spell.
use Rattle.std.proofs.Common.{◌≡◌, ℕ, ◌<◌, ◌≤◌, ◌^◌, ◌+◌, ◌*◌, ◌-◌, Bool, true, false, cond, zero, suc, nat_lt, List, [], ◌∷◌, length, get_or, take, drop, length-drop, Option, Some, None, Result, Ok, Err, arith, refl, sym, ap, ◌∙◌}
use Rattle.std.specs.Prelude.{take_while}
use Rattle.std.specs.Char.{is_ascii_digit, digit_value}
use Rattle.std.specs.Str.Parse.{digits_value, AllDigits}
use Rattle.std.proofs.lemmas.Str.Parse.{digit_from_value, digits_value-take-le}
use Rattle.std.proofs.lemmas.Int.Digits.{digits_value_more}
use Rattle.std.proofs.lemmas.List.Sums.{take_while-cons}
use Rattle.std.proofs.lemmas.List.{take_all, get_or-drop}
use Rattle.std.proofs.lemmas.Bool.{lt-ltb, ltb-true}
use Rattle.std.proofs.lemmas.Bool.Decides.{nat_tests}
use Rattle.mapf_fields.specs.declared.fault.LineFault.{LineFault}
use Rattle.mapf_fields.specs.declared.fault.LineFault.TheVariants.{Shape}
use Rattle.mapf_fields.specs.Numbers.{begins_well, small_value, front_digits, after_digits, read_number}

pub small : (ds : List ℕ) → digits_value 10 ds < 2 ^ 64 → small_value ds ≡ Some (digits_value 10 ds)
unfolding small_value
small ds h = let e : nat_lt (digits_value 10 ds) (2 ^ 64) ≡ true = lt-ltb _ _ h in rw e refl

pub large : (ds : List ℕ) → 2 ^ 64 ≤ digits_value 10 ds → small_value ds ≡ None
unfolding small_value
large ds h = by (nat_lt (digits_value 10 ds) (2 ^ 64)) refl
  where
    by : (b : Bool) → nat_lt (digits_value 10 ds) (2 ^ 64) ≡ b → cond (nat_lt (digits_value 10 ds) (2 ^ 64)) (Some (digits_value 10 ds)) None ≡ None
    by true e = let below = ltb-true _ _ e in absurd (omega arith)
    by false e = rw e refl

unit_value : (c : ℕ) → 48 ≤ c → c ≤ 57 → digit_value c ≡ c - 48
unit_value c low high = grind (arith, nat_tests)

-- if a prefix of the digits spells too large a number, all of them do
pub large_front : (ds : List ℕ) (i : ℕ) → 2 ^ 64 ≤ digits_value 10 (take i ds) → small_value ds ≡ None
large_front ds i h = large ds (omega (arith, digits_value-take-le 10 ds i (omega arith)))

digit_of_test : (c : ℕ) → is_ascii_digit c ≡ true → digit_value c < 10
digit_of_test c e = grind (arith, nat_tests)

pub AllDigits-front_digits : (bs : List ℕ) → AllDigits 10 (front_digits bs)
AllDigits-front_digits [] = tt
AllDigits-front_digits (b ∷ bs) = rw (take_while-cons is_ascii_digit b bs) (by (is_ascii_digit b) refl (AllDigits-front_digits bs))
  where
    by : (t : Bool) → is_ascii_digit b ≡ t → AllDigits 10 (front_digits bs) → AllDigits 10 (cond (is_ascii_digit b) (b ∷ take_while is_ascii_digit bs) [])
    by true e more = rw e (digit_of_test b e, more)
    by false e more = rw e tt

-- the first n bytes are digits
abbrev pub AreDigits : List ℕ → ℕ → Type 0
AreDigits bs n = (k : ℕ) → k < n → is_ascii_digit (get_or bs k 0) ≡ true

-- if the first n bytes are digits, they are the first n of the leading digits
pub take-front_digits : (bs : List ℕ) (n : ℕ) → AreDigits bs n → take n (front_digits bs) ≡ take n bs
take-front_digits [] n all = refl
take-front_digits (b ∷ bs) zero all = refl
take-front_digits (b ∷ bs) (suc n) all =
    let first : is_ascii_digit b ≡ true = all 0 (omega arith) in
    let more = take-front_digits bs n (λ k h. all (suc k) (omega arith)) in
    ap (take (suc n)) (take_while-cons is_ascii_digit b bs ∙ ap (λ t. cond t (b ∷ front_digits bs) []) first) ∙ ap (λ l. b ∷ l) more

-- if n digits are followed by no digit, there are n leading digits
pub length-front_digits : (bs : List ℕ) (n : ℕ) → AreDigits bs n → is_ascii_digit (get_or bs n 0) ≡ false → length (front_digits bs) ≡ n
length-front_digits [] zero all stop = refl
length-front_digits [] (suc n) all stop = let no : false ≡ true = all 0 (omega arith) in cc
length-front_digits (b ∷ bs) zero all stop = ap length (take_while-cons is_ascii_digit b bs ∙ ap (λ t. cond t (b ∷ front_digits bs) []) stop)
length-front_digits (b ∷ bs) (suc n) all stop =
    let first : is_ascii_digit b ≡ true = all 0 (omega arith) in
    let more = length-front_digits bs n (λ k h. all (suc k) (omega arith)) stop in
    ap length (take_while-cons is_ascii_digit b bs ∙ ap (λ t. cond t (b ∷ front_digits bs) []) first) ∙ ap suc more

-- if n digits are followed by no digit, their value is that of the leading digits
pub front_value : (bs : List ℕ) (n value : ℕ) → AreDigits bs n → is_ascii_digit (get_or bs n 0) ≡ false → value ≡ digits_value 10 (take n bs) → value < 2 ^ 64 → Some value ≡ small_value (front_digits bs)
front_value bs n value all stop is fits =
    let many = length-front_digits bs n all stop in
    let same : take n bs ≡ front_digits bs = sym (take-front_digits bs n all) ∙ take_all n (front_digits bs) (omega arith) in
    let whole : value ≡ digits_value 10 (front_digits bs) = is ∙ ap (digits_value 10) same in
    ap Some whole ∙ sym (small (front_digits bs) (omega arith))

-- the value of one digit more
pub value_next : (bs : List ℕ) (i : ℕ) → i < length bs → is_ascii_digit (get_or bs i 0) ≡ true → (48 ≤ get_or bs i 0) × (digits_value 10 (take (i + 1) bs) ≡ digits_value 10 (take i bs) * 10 + (get_or bs i 0 - 48))
value_next bs i inside digit =
    let range = digit_from_value (get_or bs i 0) (digit_of_test (get_or bs i 0) digit) in
    let unit = unit_value (get_or bs i 0) range.0 range.1 in
    (range.0, digits_value_more 10 bs i inside ∙ ap (λ u. digits_value 10 (take i bs) * 10 + u) unit)

-- if the first n digits spell too large a number, so do the leading digits
pub front_large : (bs : List ℕ) (n : ℕ) → AreDigits bs n → 2 ^ 64 ≤ digits_value 10 (take n bs) → None ≡ small_value (front_digits bs)
front_large bs n all h =
    let same = ap (digits_value 10) (take-front_digits bs n all) in
    let large : 2 ^ 64 ≤ digits_value 10 (take n (front_digits bs)) = omega (arith, same) in
    sym (large_front (front_digits bs) n large)

-- digits without a leading zero, that no other follows, are read as the number that they spell
digits_front : (bs : List ℕ) (n value : ℕ) (rest : List ℕ) → rest ≡ take (length bs - n) (drop n bs) → begins_well (take n bs) ≡ true → AreDigits bs n → is_ascii_digit (get_or rest 0 0) ≡ false → value ≡ digits_value 10 (take n bs) → value < 2 ^ 64 → read_number bs ≡ Ok (Some value, rest)
unfolding read_number
digits_front bs n value rest follows well all stop is fits =
    let after : rest ≡ drop n bs = follows ∙ take_all (length bs - n) (drop n bs) (omega (arith, length-drop n bs)) in
    let next : get_or bs n 0 ≡ get_or rest 0 0 = ap (λ k. get_or bs k 0) (omega arith) ∙ sym (get_or-drop n bs 0 0) ∙ ap (λ l. get_or l 0 0) (sym after) in
    let stop' : is_ascii_digit (get_or bs n 0) ≡ false = ap is_ascii_digit next ∙ stop in
    let many = length-front_digits bs n all stop' in
    let front : front_digits bs ≡ take n bs = sym (take_all n (front_digits bs) (omega (arith, many))) ∙ take-front_digits bs n all in
    let spelled = front_value bs n value all stop' is fits in
    let begins : begins_well (front_digits bs) ≡ true = ap begins_well front ∙ well in
    let left : after_digits bs ≡ rest = ap (λ k. drop k bs) many ∙ sym after in
    let read : Result (Option ℕ × List ℕ) LineFault = cond true (Ok (small_value (front_digits bs), after_digits bs)) (Err Shape) in
    let well_read : cond (begins_well (front_digits bs)) (Ok (small_value (front_digits bs), after_digits bs)) (Err Shape) ≡ read = ap (λ b. cond b (Ok (small_value (front_digits bs), after_digits bs)) (Err Shape)) begins in
    let value_read : read ≡ Ok (Some value, after_digits bs) = ap (λ v. Ok (v, after_digits bs)) (sym spelled) in
    well_read ∙ value_read ∙ ap (λ r. Ok (Some value, r)) left

-- a byte is in its range if it is a digit
digit_range : (b : ℕ) → is_ascii_digit b ≡ true → (48 ≤ b) × (b ≤ 57)
digit_range b digit = digit_from_value b (digit_of_test b digit)

pub one_front : (bs : List ℕ) (n : ℕ) (rest : List ℕ) → 1 ≤ length bs → rest ≡ take (length bs - 1) (drop 1 bs) → is_ascii_digit (get_or bs 0 0) ≡ true → is_ascii_digit (get_or rest 0 0) ≡ false → n ≡ get_or bs 0 0 - 48 → read_number bs ≡ Ok (Some n, rest)
one_front [] n rest some after digit stop is = absurd (omega arith)
one_front (b ∷ bs) n rest some after digit stop is =
    let (low, step) = value_next (b ∷ bs) 0 (omega arith) digit in
    digits_front (b ∷ bs) 1 n rest after refl all stop (omega (arith, step, is)) (omega (arith, digit_range b digit, is))
  where
    all : AreDigits (b ∷ bs) 1
    all zero h = digit
    all (suc k) h = absurd (omega arith)

pub two_front : (bs : List ℕ) (n : ℕ) (rest : List ℕ) → 2 ≤ length bs → rest ≡ take (length bs - 2) (drop 2 bs) → begins_well (take 2 bs) ≡ true → is_ascii_digit (get_or bs 0 0) ≡ true → is_ascii_digit (get_or bs 1 0) ≡ true → is_ascii_digit (get_or rest 0 0) ≡ false
    → n ≡ (get_or bs 0 0 - 48) * 10 + (get_or bs 1 0 - 48) → read_number bs ≡ Ok (Some n, rest)
two_front [] n rest many after well first second stop is = absurd (omega arith)
two_front (t ∷ []) n rest many after well first second stop is = absurd (omega arith)
two_front (t ∷ u ∷ bs) n rest many after well first second stop is =
    let (low1, step1) = value_next (t ∷ u ∷ bs) 0 (omega arith) first in
    let (low2, step2) = value_next (t ∷ u ∷ bs) 1 (omega arith) second in
    digits_front (t ∷ u ∷ bs) 2 n rest after well all stop (omega (arith, step1, step2, is)) (omega (arith, digit_range t first, digit_range u second, is))
  where
    all : AreDigits (t ∷ u ∷ bs) 2
    all zero h = first
    all (suc zero) h = second
    all (suc (suc k)) h = absurd (omega arith)

pub three_front : (bs : List ℕ) (n : ℕ) (rest : List ℕ) → 3 ≤ length bs → rest ≡ take (length bs - 3) (drop 3 bs) → begins_well (take 3 bs) ≡ true → is_ascii_digit (get_or bs 0 0) ≡ true → is_ascii_digit (get_or bs 1 0) ≡ true → is_ascii_digit (get_or bs 2 0) ≡ true
    → is_ascii_digit (get_or rest 0 0) ≡ false → n ≡ ((get_or bs 0 0 - 48) * 10 + (get_or bs 1 0 - 48)) * 10 + (get_or bs 2 0 - 48) → read_number bs ≡ Ok (Some n, rest)
three_front [] n rest many after well first second third stop is = absurd (omega arith)
three_front (h ∷ []) n rest many after well first second third stop is = absurd (omega arith)
three_front (h ∷ t ∷ []) n rest many after well first second third stop is = absurd (omega arith)
three_front (h ∷ t ∷ u ∷ bs) n rest many after well first second third stop is =
    let (low1, step1) = value_next (h ∷ t ∷ u ∷ bs) 0 (omega arith) first in
    let (low2, step2) = value_next (h ∷ t ∷ u ∷ bs) 1 (omega arith) second in
    let (low3, step3) = value_next (h ∷ t ∷ u ∷ bs) 2 (omega arith) third in
    digits_front (h ∷ t ∷ u ∷ bs) 3 n rest after well all stop (omega (arith, step1, step2, step3, is)) (omega (arith, digit_range h first, digit_range t second, digit_range u third, is))
  where
    all : AreDigits (h ∷ t ∷ u ∷ bs) 3
    all zero k = first
    all (suc zero) k = second
    all (suc (suc zero)) k = third
    all (suc (suc (suc j))) k = absurd (omega arith)
