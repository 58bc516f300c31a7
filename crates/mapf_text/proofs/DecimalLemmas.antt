-- Decimal text: what is read is spelled so, and what is spelled so is read.
use Rattle.std.proofs.Common.{◌≡◌, ◌-◌, ◌+◌, ℕ, ◌≤◌, Bool, true, false, not, cond, List, [], ◌∷◌, ◌++◌, codes, get_or, drop, Option, Some, None, MatchOption, refl, sym, ap, ◌∙◌, suc, arith, inl, inr, le_refl}
use Rattle.std.specs.Prelude.{◌==◌, ◌||◌, option_and_then}
use Rattle.std.specs.Char.{is_ascii_digit}
use Rattle.std.specs.List.{list_all, position_from}
use Rattle.std.proofs.lemmas.Option.{MatchOption-at_some, MatchOption-at_none}
use Rattle.std.proofs.lemmas.List.{append-nil, append_assoc}
use Rattle.std.proofs.lemmas.Bool.{and_parts, eqb-true}
use Rattle.std.proofs.lemmas.Bool.Decides.{nat_tests}
use Rattle.mapf_text.specs.Numbers.{AreDigits}
use Rattle.mapf_text.specs.Decimals.{IsSign, IsFraction, IsExponent, IsDecimal, after_sign, drop_digits, after_digits, after_fraction, after_exponent, after_decimal}

-- what the result of a search for a byte that is no digit, from place n on, says of what follows the digits
abbrev AfterDigits : List ℕ → ℕ → Option ℕ → Type 0
AfterDigits text n found = MatchOption found (drop_digits text ≡ []) (λ i. (n ≤ i) × (drop_digits text ≡ drop (i - n) text))

after_digits_at : (text : List ℕ) (n : ℕ) → AfterDigits text n (position_from (λ b. not (is_ascii_digit b)) n text)
after_digits_at [] n = refl
after_digits_at (b ∷ bs) n = by (is_ascii_digit b) refl (position_from (λ b. not (is_ascii_digit b)) (n + 1) bs) (after_digits_at bs (n + 1))
  where
    by : (t : Bool) → is_ascii_digit b ≡ t → (r : Option ℕ) → AfterDigits bs (n + 1) r → AfterDigits (b ∷ bs) n (cond (not t) (Some n) r)
    by false is r rest = let none : n - n ≡ 0 = omega arith in rw (none, is) (le_refl n, refl)
    by true is None rest = rw is rest
    by true is (Some i) (above, rest) = let one : i - n ≡ suc (i - (n + 1)) = omega arith in rw (one, is) (omega arith, rest)

pub digits-none : (text : List ℕ) → position_from (λ b. not (is_ascii_digit b)) 0 text ≡ None → drop_digits text ≡ []
digits-none text e = MatchOption-at_none _ _ e (after_digits_at text 0)

pub digits-some : (text : List ℕ) (at : ℕ) → position_from (λ b. not (is_ascii_digit b)) 0 text ≡ Some at → drop_digits text ≡ drop at text
digits-some text at e =
    let all : at - 0 ≡ at = omega arith in
    rw all at ((MatchOption-at_some _ _ at e (after_digits_at text 0)).1)

-- what is read

sign-taken : (text : List ℕ) → (sign : List ℕ) × IsSign sign × (text ≡ sign ++ after_sign text)
sign-taken [] = ([], inl refl, refl)
sign-taken (b ∷ bs) = by (b == 43) refl (b == 45) refl
  where
    by : (p : Bool) → (b == 43) ≡ p → (m : Bool) → (b == 45) ≡ m → (sign : List ℕ) × IsSign sign × (b ∷ bs ≡ sign ++ cond (p || m) bs (b ∷ bs))
    by true is m also = let plus : b ≡ 43 = eqb-true b 43 is in (codes "+", inr (inl refl), rw plus refl)
    by false is true also = let minus : b ≡ 45 = eqb-true b 45 also in (codes "-", inr (inr refl), rw minus refl)
    by false is false also = ([], inl refl, refl)

digits-dropped : (text : List ℕ) → (digits : List ℕ) × (list_all is_ascii_digit digits ≡ true) × (text ≡ digits ++ drop_digits text)
digits-dropped [] = ([], refl, refl)
digits-dropped (b ∷ bs) = by (is_ascii_digit b) refl (digits-dropped bs)
  where
    by : (t : Bool) → is_ascii_digit b ≡ t → (digits : List ℕ) × (list_all is_ascii_digit digits ≡ true) × (bs ≡ digits ++ drop_digits bs)
        → (digits : List ℕ) × (list_all is_ascii_digit digits ≡ true) × (b ∷ bs ≡ digits ++ cond t (drop_digits bs) (b ∷ bs))
    by true is (digits, all, e) = (b ∷ digits, rw is all, ap (λ l. b ∷ l) e)
    by false is rest = ([], refl, refl)

digits-taken : (text rest : List ℕ) → after_digits text ≡ Some rest → (digits : List ℕ) × AreDigits digits × (text ≡ digits ++ rest)
digits-taken [] rest e = cc
digits-taken (b ∷ bs) rest e = by (is_ascii_digit b) refl e
  where
    by : (t : Bool) → is_ascii_digit b ≡ t → cond t (Some (drop_digits bs)) None ≡ Some rest → (digits : List ℕ) × AreDigits digits × (b ∷ bs ≡ digits ++ rest)
    by true is e =
        let (digits, all, same) = digits-dropped bs in
        let back : drop_digits bs ≡ rest = cc in
        (b ∷ digits, (omega arith, rw is all), ap (λ l. b ∷ l) (rw back at same))
    by false is e = cc

fraction-taken : (text rest : List ℕ) → after_fraction text ≡ Some rest → (part : List ℕ) × IsFraction part × (text ≡ part ++ rest)
fraction-taken [] rest e = let none : [] ≡ rest = cc in ([], inl refl, none)
fraction-taken (b ∷ bs) rest e = by (b == 46) refl e
  where
    by : (t : Bool) → (b == 46) ≡ t → cond t (after_digits bs) (Some (b ∷ bs)) ≡ Some rest → (part : List ℕ) × IsFraction part × (b ∷ bs ≡ part ++ rest)
    by true is e =
        let (digits, are, same) = digits-taken bs rest e in
        let point : b ≡ 46 = eqb-true b 46 is in
        (codes "." ++ digits, inr (digits, refl, are), rw point (ap (λ l. 46 ∷ l) same))
    by false is e = let all : b ∷ bs ≡ rest = cc in ([], inl refl, all)

exponent-taken : (text rest : List ℕ) → after_exponent text ≡ Some rest → (part : List ℕ) × IsExponent part × (text ≡ part ++ rest)
exponent-taken [] rest e = let none : [] ≡ rest = cc in ([], inl refl, none)
exponent-taken (b ∷ bs) rest e = by (b == 101) refl (b == 69) refl e
  where
    marked : after_digits (after_sign bs) ≡ Some rest → (sign digits : List ℕ) × IsSign sign × AreDigits digits × (bs ≡ (sign ++ digits) ++ rest)
    marked e =
        let (sign, is_sign, before) = sign-taken bs in
        let (digits, are, after) = digits-taken (after_sign bs) rest e in
        (sign, digits, is_sign, are, before ∙ ap (λ l. sign ++ l) after ∙ sym (append_assoc sign digits rest))

    by : (l : Bool) → (b == 101) ≡ l → (u : Bool) → (b == 69) ≡ u → cond (l || u) (after_digits (after_sign bs)) (Some (b ∷ bs)) ≡ Some rest → (part : List ℕ) × IsExponent part × (b ∷ bs ≡ part ++ rest)
    by true is u also e =
        let (sign, digits, is_sign, are, same) = marked e in
        let mark : b ≡ 101 = eqb-true b 101 is in
        (codes "e" ++ (sign ++ digits), inr (sign, digits, inl refl, is_sign, are), rw mark (ap (λ l. 101 ∷ l) same))
    by false is true also e =
        let (sign, digits, is_sign, are, same) = marked e in
        let mark : b ≡ 69 = eqb-true b 69 also in
        (codes "E" ++ (sign ++ digits), inr (sign, digits, inr refl, is_sign, are), rw mark (ap (λ l. 69 ∷ l) same))
    by false is false also e = let all : b ∷ bs ≡ rest = cc in ([], inl refl, all)

through : {A B : Type 0} {P : Type 0} (f : A → Option B) (o : Option A) (y : B) → option_and_then f o ≡ Some y → ((x : A) → o ≡ Some x → f x ≡ Some y → P) → P
through f None y e more = cc
through f (Some x) y e more = more x refl e

-- what is read to its end is decimal text
pub decimal-taken : (text : List ℕ) → after_decimal text ≡ Some [] → IsDecimal text
unfolding after_decimal
decimal-taken text e =
    through _ (after_digits (after_sign text)) [] e (λ a digits_read more.
    through _ (after_fraction a) [] more (λ b fraction_read exponent_read.
    let (sign, is_sign, before) = sign-taken text in
    let (digits, are_digits, middle) = digits-taken (after_sign text) a digits_read in
    let (fraction, is_fraction, after) = fraction-taken a b fraction_read in
    let (exponent, is_exponent, last) = exponent-taken b [] exponent_read in
    record {
      sign = sign;
      digits = digits;
      fraction = fraction;
      exponent = exponent;
      parts = before ∙ ap (λ l. sign ++ l) (middle ∙ ap (λ l. digits ++ l) (after ∙ ap (λ l. fraction ++ l) (last ∙ append-nil exponent)));
      is_sign = is_sign;
      are_digits = are_digits;
      is_fraction = is_fraction;
      is_exponent = is_exponent;
    }))

-- what is spelled

-- no digit follows
abbrev Stops : List ℕ → Type 0
Stops rest = is_ascii_digit (get_or rest 0 0) ≡ false

digits-dropped-again : (digits rest : List ℕ) → list_all is_ascii_digit digits ≡ true → Stops rest → drop_digits (digits ++ rest) ≡ rest
digits-dropped-again [] [] all stops = refl
digits-dropped-again [] (b ∷ bs) all stops = rw stops refl
digits-dropped-again (d ∷ ds) rest all stops =
    let (first, more) = and_parts (is_ascii_digit d) (list_all is_ascii_digit ds) all in
    rw first (digits-dropped-again ds rest more stops)

digits-again : (digits rest : List ℕ) → AreDigits digits → Stops rest → after_digits (digits ++ rest) ≡ Some rest
digits-again [] rest (some, all) stops = absurd (omega arith)
digits-again (d ∷ ds) rest (some, all) stops =
    let (first, more) = and_parts (is_ascii_digit d) (list_all is_ascii_digit ds) all in
    rw first (ap Some (digits-dropped-again ds rest more stops))

no_sign : (d : ℕ) → is_ascii_digit d ≡ true → ((d == 43) || (d == 45)) ≡ false
no_sign d is = grind (arith, nat_tests)

sign-again : (sign digits rest : List ℕ) → IsSign sign → AreDigits digits → after_sign (sign ++ (digits ++ rest)) ≡ digits ++ rest
sign-again sign [] rest is (some, all) = absurd (omega arith)
sign-again sign (d ∷ ds) rest (inl none) (some, all) =
    let (first, more) = and_parts (is_ascii_digit d) (list_all is_ascii_digit ds) all in
    let no = no_sign d first in
    rw (none, no) refl
sign-again sign (d ∷ ds) rest (inr (inl plus)) are = rw plus refl
sign-again sign (d ∷ ds) rest (inr (inr minus)) are = rw minus refl

marked-again : (sign digits : List ℕ) → IsSign sign → AreDigits digits → after_digits (after_sign (sign ++ digits)) ≡ Some []
marked-again sign digits is_sign are =
    let all : digits ++ [] ≡ digits = append-nil digits in
    let sign_read = rw all at (sign-again sign digits [] is_sign are) in
    let digits_read = rw all at (digits-again digits [] are refl) in
    rw sign_read digits_read

exponent-again : (part : List ℕ) → IsExponent part → after_exponent part ≡ Some []
exponent-again part (inl none) = rw none refl
exponent-again part (inr (sign, digits, inl mark, is_sign, are)) = rw mark (marked-again sign digits is_sign are)
exponent-again part (inr (sign, digits, inr mark, is_sign, are)) = rw mark (marked-again sign digits is_sign are)

exponent-stops : (part : List ℕ) → IsExponent part → Stops part × ((get_or part 0 0 == 46) ≡ false)
exponent-stops part (inl none) = rw none (refl, refl)
exponent-stops part (inr (sign, digits, inl mark, is_sign, are)) = rw mark (refl, refl)
exponent-stops part (inr (sign, digits, inr mark, is_sign, are)) = rw mark (refl, refl)

fraction-stops : (part rest : List ℕ) → IsFraction part → Stops rest → Stops (part ++ rest)
fraction-stops part rest (inl none) stops = rw none stops
fraction-stops part rest (inr (digits, point, are)) stops = rw point refl

fraction-again : (part rest : List ℕ) → IsFraction part → Stops rest → (get_or rest 0 0 == 46) ≡ false → after_fraction (part ++ rest) ≡ Some rest
fraction-again part [] (inl none) stops other = rw none refl
fraction-again part (b ∷ bs) (inl none) stops other = rw (none, other) refl
fraction-again part rest (inr (digits, point, are)) stops other = rw point (digits-again digits rest are stops)

-- decimal text is read to its end
pub decimal-again : (text : List ℕ) → IsDecimal text → after_decimal text ≡ Some []
unfolding after_decimal
decimal-again text is =
    let (stops, no_point) = exponent-stops is.exponent is.is_exponent in
    let sign : after_sign (is.sign ++ (is.digits ++ (is.fraction ++ is.exponent))) ≡ is.digits ++ (is.fraction ++ is.exponent) = sign-again is.sign is.digits (is.fraction ++ is.exponent) is.is_sign is.are_digits in
    let digits : after_digits (is.digits ++ (is.fraction ++ is.exponent)) ≡ Some (is.fraction ++ is.exponent) = digits-again is.digits (is.fraction ++ is.exponent) is.are_digits (fraction-stops is.fraction is.exponent is.is_fraction stops) in
    let fraction : after_fraction (is.fraction ++ is.exponent) ≡ Some is.exponent = fraction-again is.fraction is.exponent is.is_fraction stops no_point in
    let exponent : after_exponent is.exponent ≡ Some [] = exponent-again is.exponent is.is_exponent in
    rw (is.parts, sign, digits) (ap (option_and_then after_exponent) fraction ∙ exponent)
