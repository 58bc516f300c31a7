-- Numbers in a line: what is read is spelled so, and what is spelled so is read.
use Rattle.std.proofs.Common.{◌≡◌, ℕ, ◌<◌, ◌≤◌, ◌^◌, ◌+◌, ◌*◌, ◌/◌, ◌%◌, ◌&&◌, Bool, true, false, not, cond, nat_lt, nat_le, List, [], ◌∷◌, ◌++◌, length, get_or, drop, Option, Some, None, Result, Ok, Err, suc, zero, arith, refl, sym, ap, subst, ◌∙◌, inl, inr, ◌⊎◌, append-nil, append_assoc, take-append-drop, length-drop}
use Rattle.std.proofs.Math.Seq.{drop-append_seam}
use Rattle.std.specs.Prelude.{◌==◌, take_while}
use Rattle.std.specs.Char.{is_ascii_digit, digit_value}
use Rattle.std.specs.Fmt.{decimal}
use Rattle.std.specs.Str.Parse.{digits_value, AllDigits}
use Rattle.std.proofs.lemmas.Str.Parse.{IsNumeralModel, numerals_by_value, tells_digits, digit_from_value}
use Rattle.std.proofs.lemmas.Fmt.{decimal-digits_value, digits_decimal, digits_value-decimal, decimal_nonempty, first_decimal, decimal_digit}
use Rattle.std.proofs.lemmas.List.Sums.{take_while-cons}
use Rattle.std.proofs.lemmas.List.Folds.{length-prefix_len}
use Rattle.std.proofs.lemmas.Nat.{mul-add-lt, div-mul-add, mod-mul-add, rows}
use Rattle.std.proofs.lemmas.Bool.{and_parts, lt-ltb, ltb-true, le-leb, leb-true, eq-eqb, eqb-true}
use Rattle.std.proofs.lemmas.Bool.Decides.{nat_tests}
use Rattle.std.proofs.lemmas.Grind.{common_steps}
use Rattle.mapf_fields.specs.declared.fault.LineFault.{LineFault}
use Rattle.mapf_fields.specs.declared.fault.LineFault.TheVariants.{Shape, Range}
use Rattle.mapf_fields.specs.Numbers.{field, pair, begins_well, small_value, front_digits, after_digits, read_number, read_field, read_last, read_pair, read_whole, in_range, below, read_cell}
use Rattle.mapf_fields.proofs.Binds.{guarded, through, same_ok, ok_pair_parts}
use Rattle.mapf_fields.proofs.Digits.{AllDigits-front_digits, small}

own : IsNumeralModel (AllDigits 10) (digits_value 10)
own = numerals_by_value _ tells_digits

begins-length : (ds : List ℕ) → begins_well ds ≡ true → 0 < length ds
begins-length [] e = cc
begins-length (d ∷ ds) e = omega arith

begins-zero : (ds : List ℕ) → begins_well ds ≡ true → get_or ds 0 0 ≡ 48 → length ds ≡ 1
begins-zero [] e z = cc
begins-zero (d ∷ []) e z = refl
begins-zero (d ∷ c ∷ ds) e z = let t = eq-eqb d 48 z in let f : not true ≡ true = ap not (sym t) ∙ e in cc

begins-decimal : (ds : List ℕ) → 0 < length ds → (length ds ≡ 1) ⊎ (48 < get_or ds 0 0) → begins_well ds ≡ true
begins-decimal [] more h = absurd (omega arith)
begins-decimal (d ∷ []) more h = refl
begins-decimal (d ∷ c ∷ ds) more (inl one) = absurd (omega arith)
begins-decimal (d ∷ c ∷ ds) more (inr h) = grind (arith, common_steps)

decimal-begins : (n : ℕ) → n < 2 ^ 64 → (length (decimal n) ≡ 1) ⊎ (48 < get_or (decimal n) 0 0)
decimal-begins zero fits = inl (ap length (decimal_digit 0 (omega arith)))
decimal-begins (suc n) fits = inr (first_decimal (suc n) (omega arith) fits)

-- the digits that a list begins with, and the rest, are the list
digits_and_rest : (bs : List ℕ) → bs ≡ front_digits bs ++ after_digits bs
digits_and_rest bs = sym (ap (λ n. front_digits bs ++ drop n bs) (length-prefix_len is_ascii_digit bs) ∙ take-append-drop _ bs)

some_value : (ds : List ℕ) (n : ℕ) → small_value ds ≡ Some n → (digits_value 10 ds ≡ n) × (n < 2 ^ 64)
unfolding small_value
some_value ds n e = by (nat_lt (digits_value 10 ds) (2 ^ 64)) refl e
  where
    by : (b : Bool) → nat_lt (digits_value 10 ds) (2 ^ 64) ≡ b → cond b (Some (digits_value 10 ds)) None ≡ Some n → (digits_value 10 ds ≡ n) × (n < 2 ^ 64)
    by true t h = let same : digits_value 10 ds ≡ n = cc in (same, let below = ltb-true _ _ t in omega arith)
    by false t h = cc

-- a number that was read is spelled so
pub number_takes : (bs rest : List ℕ) (n : ℕ) → read_number bs ≡ Ok (Some n, rest) → (bs ≡ decimal n ++ rest) × (n < 2 ^ 64)
unfolding read_number
number_takes bs rest n e =
    let ds = front_digits bs in
    let (begins, parts) = guarded (begins_well ds) Shape _ _ e in
    let (value, after) = ok_pair_parts (small_value ds) (Some n) (after_digits bs) rest parts in
    let (same, fits) = some_value ds n value in
    let small' : digits_value 10 ds < 2 ^ 64 = omega arith in
    let spelled = decimal-digits_value own ds (AllDigits-front_digits bs) (begins-length ds begins) (begins-zero ds begins) small' in
    let word : ds ≡ decimal n = sym spelled ∙ ap decimal same in
    (digits_and_rest bs ∙ ap (λ w. w ++ after_digits bs) word ∙ ap (λ r. decimal n ++ r) after, fits)

-- a list that doesn't begin with a digit
abbrev pub IsPastDigits : List ℕ → Type 0
IsPastDigits [] = Unit {0}
IsPastDigits (c ∷ cs) = is_ascii_digit c ≡ false

digit_test : (c : ℕ) → digit_value c < 10 → is_ascii_digit c ≡ true
digit_test c h = let range = digit_from_value c h in grind (arith, nat_tests)

front-append : (ds rest : List ℕ) → AllDigits 10 ds → IsPastDigits rest → front_digits (ds ++ rest) ≡ ds
front-append [] [] all past = refl
front-append [] (c ∷ cs) all past = take_while-cons is_ascii_digit c cs ∙ ap (λ b. cond b (c ∷ take_while is_ascii_digit cs) []) past
front-append (d ∷ ds) rest all past =
    let more = front-append ds rest all.1 past in
    take_while-cons is_ascii_digit d (ds ++ rest) ∙ ap (λ b. cond b (d ∷ take_while is_ascii_digit (ds ++ rest)) []) (digit_test d all.0) ∙ ap (λ l. d ∷ l) more

-- a number's spelling is read
pub number_again : (n : ℕ) (rest : List ℕ) → n < 2 ^ 64 → IsPastDigits rest → read_number (decimal n ++ rest) ≡ Ok (Some n, rest)
unfolding read_number
number_again n rest fits past =
    let front : front_digits (decimal n ++ rest) ≡ decimal n = front-append (decimal n) rest (digits_decimal own n fits) past in
    let after : after_digits (decimal n ++ rest) ≡ rest = ap (λ w. drop (length w) (decimal n ++ rest)) front ∙ drop-append_seam (decimal n) rest in
    let begins : begins_well (front_digits (decimal n ++ rest)) ≡ true = ap begins_well front ∙ begins-decimal (decimal n) (decimal_nonempty n fits) (decimal-begins n fits) in
    let is = digits_value-decimal own n fits in
    let fits' : digits_value 10 (decimal n) < 2 ^ 64 = omega arith in
    let value : small_value (front_digits (decimal n ++ rest)) ≡ Some n = ap small_value front ∙ small (decimal n) fits' ∙ ap Some is in
    ap (λ b. cond b (Ok (small_value (front_digits (decimal n ++ rest)), after_digits (decimal n ++ rest))) (Err Shape)) begins ∙ ap (λ v. Ok (v, after_digits (decimal n ++ rest))) value ∙ ap (λ r. Ok (Some n, r)) after

pub field_takes : (mark : ℕ) (bs rest : List ℕ) (n : ℕ) → read_field mark bs ≡ Ok (Some n, rest) → (bs ≡ field mark n ++ rest) × (n < 2 ^ 64)
unfolding read_field
field_takes mark [] rest n e = cc
field_takes mark (b ∷ bs) rest n e =
    let (same, more) = guarded (b == mark) Shape _ _ e in
    let (tail, fits) = number_takes bs rest n more in
    let first = eqb-true b mark same in
    (ap (λ m. m ∷ bs) first ∙ ap (λ t. mark ∷ t) tail, fits)

pub field_again : (mark n : ℕ) (rest : List ℕ) → n < 2 ^ 64 → IsPastDigits rest → read_field mark (field mark n ++ rest) ≡ Ok (Some n, rest)
unfolding read_field
field_again mark n rest fits past = ap (λ b. cond b (read_number (decimal n ++ rest)) (Err Shape)) (eq-eqb mark mark refl) ∙ number_again n rest fits past

pub whole_takes : (bs : List ℕ) (n : ℕ) → read_whole bs ≡ Ok (Some n) → (bs ≡ decimal n) × (n < 2 ^ 64)
unfolding read_whole
whole_takes bs n e = through (read_number bs) _ (Some n) e (λ p read more. by p.0 p.1 read more)
  where
    by : (number : Option ℕ) (rest : List ℕ) → read_number bs ≡ Ok (number, rest) → elim rest as (λ _. Result (Option ℕ) LineFault) [ [] ↦ Ok number | c ∷ cs ↦ Err Shape ] ≡ Ok (Some n) → (bs ≡ decimal n) × (n < 2 ^ 64)
    by number [] read more =
        let value = same_ok number (Some n) more in
        let (spelled, fits) = number_takes bs [] n (read ∙ ap (λ v. Ok (v, [])) value) in
        (spelled ∙ append-nil (decimal n), fits)
    by number (c ∷ cs) read more = cc

pub whole_again : (n : ℕ) → n < 2 ^ 64 → read_whole (decimal n) ≡ Ok (Some n)
unfolding read_whole
whole_again n fits =
    let again : read_number (decimal n) ≡ Ok (Some n, []) = ap read_number (sym (append-nil (decimal n))) ∙ number_again n [] fits tt in
    rw again refl

-- what is read where these are the leading digits
number_of_front : (bs ds rest : List ℕ) → front_digits bs ≡ ds → after_digits bs ≡ rest → begins_well ds ≡ true → read_number bs ≡ Ok (small_value ds, rest)
unfolding read_number
number_of_front bs ds rest front after begins =
    ap (λ b. cond b (Ok (small_value (front_digits bs), after_digits bs)) (Err Shape)) (ap begins_well front ∙ begins)
    ∙ ap (λ w. Ok (small_value w, after_digits bs)) front ∙ ap (λ r. Ok (small_value ds, r)) after

-- digits of which the first isn't a `0` before others are read whole
pub whole_digits : (bs : List ℕ) → AllDigits 10 bs → begins_well bs ≡ true → read_whole bs ≡ Ok (small_value bs)
unfolding read_whole
whole_digits bs all begins =
    let front : front_digits bs ≡ bs = ap front_digits (sym (append-nil bs)) ∙ front-append bs [] all tt in
    let after : after_digits bs ≡ [] = ap (λ w. drop (length w) bs) front ∙ ap (drop (length bs)) (sym (append-nil bs)) ∙ drop-append_seam bs [] in
    let read : read_number bs ≡ Ok (small_value bs, []) = number_of_front bs bs [] front after begins in
    rw read refl

number_spelled : (bs : List ℕ) (number : Option ℕ) → read_number bs ≡ Ok (number, []) → AllDigits 10 bs × (begins_well bs ≡ true) × (number ≡ small_value bs)
unfolding read_number
number_spelled bs number read =
    let (begins, same) = guarded (begins_well (front_digits bs)) Shape _ _ read in
    let (number_is, after) = ok_pair_parts (small_value (front_digits bs)) number (after_digits bs) [] same in
    let front : bs ≡ front_digits bs = digits_and_rest bs ∙ ap (λ r. front_digits bs ++ r) after ∙ append-nil (front_digits bs) in
    (subst (AllDigits 10) (sym front) (AllDigits-front_digits bs), ap begins_well front ∙ begins, sym number_is ∙ ap small_value (sym front))

-- what is read whole is a number, also from 2^64 on
pub whole_spelled : (bs : List ℕ) (number : Option ℕ) → read_whole bs ≡ Ok number → AllDigits 10 bs × (begins_well bs ≡ true) × (number ≡ small_value bs)
unfolding read_whole
whole_spelled bs number e = through (read_number bs) _ number e (λ p read more. by p.0 p.1 read more)
  where
    by : (value : Option ℕ) (rest : List ℕ) → read_number bs ≡ Ok (value, rest) → elim rest as (λ _. Result (Option ℕ) LineFault) [ [] ↦ Ok value | c ∷ cs ↦ Err Shape ] ≡ Ok number → AllDigits 10 bs × (begins_well bs ≡ true) × (number ≡ small_value bs)
    by value [] read more = number_spelled bs number (read ∙ ap (λ v. Ok (v, [])) (same_ok value number more))
    by value (c ∷ cs) read more = cc

pub last_takes : (mark : ℕ) (bs : List ℕ) (n : ℕ) → read_last mark bs ≡ Ok (Some n) → (bs ≡ field mark n) × (n < 2 ^ 64)
unfolding read_last
last_takes mark [] n e = cc
last_takes mark (b ∷ bs) n e =
    let (same, more) = guarded (b == mark) Shape _ _ e in
    let (tail, fits) = whole_takes bs n more in
    (ap (λ m. m ∷ bs) (eqb-true b mark same) ∙ ap (λ t. mark ∷ t) tail, fits)

pub last_again : (mark n : ℕ) → n < 2 ^ 64 → read_last mark (field mark n) ≡ Ok (Some n)
unfolding read_last
last_again mark n fits = ap (λ b. cond b (read_whole (decimal n)) (Err Shape)) (eq-eqb mark mark refl) ∙ whole_again n fits

-- a number in its range

pub below_takes : (bound : ℕ) (v : Option ℕ) (n : ℕ) → below bound v ≡ Ok n → (v ≡ Some n) × (n < bound)
below_takes bound None n e = cc
below_takes bound (Some m) n e =
    let (inside, same) = guarded (nat_lt m bound) Range (Ok m) n e in
    let is = same_ok m n same in
    (ap Some is, let less = ltb-true m bound inside in omega arith)

pub below_again : (bound n : ℕ) → n < bound → below bound (Some n) ≡ Ok n
below_again bound n h = let inside : nat_lt n bound ≡ true = lt-ltb n bound h in rw inside refl

-- the number that digits spell isn't below a bound that refuses it
pub below_refused : (bound : ℕ) (ds : List ℕ) (fault : LineFault) → bound < 2 ^ 64 → below bound (small_value ds) ≡ Err fault → bound ≤ digits_value 10 ds
unfolding small_value
below_refused bound ds fault few e = by (nat_lt (digits_value 10 ds) (2 ^ 64)) refl e
  where
    great : (b : Bool) → nat_lt (digits_value 10 ds) bound ≡ b → cond b (Ok (digits_value 10 ds)) (Err Range) ≡ Err fault → bound ≤ digits_value 10 ds
    great true t h = absurd cc
    great false t h = grind (arith, nat_tests)

    by : (b : Bool) → nat_lt (digits_value 10 ds) (2 ^ 64) ≡ b → below bound (cond b (Some (digits_value 10 ds)) None) ≡ Err fault → bound ≤ digits_value 10 ds
    by true t h = great (nat_lt (digits_value 10 ds) bound) refl h
    by false t h = grind (arith, nat_tests)

pub range_takes : (least most : ℕ) (v : Option ℕ) (n : ℕ) → in_range least most v ≡ Ok n → (v ≡ Some n) × (least ≤ n) × (n ≤ most)
range_takes least most None n e = cc
range_takes least most (Some m) n e =
    let (inside, same) = guarded (nat_le least m && nat_le m most) Range (Ok m) n e in
    let (above, under) = and_parts (nat_le least m) (nat_le m most) inside in
    let is = same_ok m n same in
    (ap Some is, let a = leb-true least m above in omega arith, let b = leb-true m most under in omega arith)

pub range_again : (least most n : ℕ) → least ≤ n → n ≤ most → in_range least most (Some n) ≡ Ok n
range_again least most n above under =
    let a : nat_le least n ≡ true = le-leb least n above in
    let b : nat_le n most ≡ true = le-leb n most under in
    rw (a, b) refl

cell-parts : (width height x y : ℕ) → x < width → y < height → ((y * width + x) % width ≡ x) × ((y * width + x) / width ≡ y) × (y * width + x < width * height)
cell-parts width height x y left up = (mod-mul-add y width x left, div-mul-add y width x left, mul-add-lt y width x height up left)

pub cell_takes : (width height : ℕ) (x y : Option ℕ) (cell : ℕ) → read_cell width height x y ≡ Ok cell → (x ≡ Some (cell % width)) × (y ≡ Some (cell / width)) × (cell < width * height)
unfolding read_cell
cell_takes width height x y cell e =
    through (below width x) _ cell e (λ column first more.
    through (below height y) _ cell more (λ row second made.
    let (x-is, left) = below_takes width x column first in
    let (y-is, up) = below_takes height y row second in
    let is = same_ok (row * width + column) cell made in
    let (col, line, inside) = cell-parts width height column row left up in
    let P : ℕ → Type 0 = λ c. (x ≡ Some (c % width)) × (y ≡ Some (c / width)) × (c < width * height) in
    subst P is (x-is ∙ ap Some (sym col), y-is ∙ ap Some (sym line), inside)))

pub row-below : (width height cell : ℕ) → cell < width * height → cell / width < height
row-below width height cell inside = grind (arith, common_steps, rows)

pub cell_again : (width height cell : ℕ) → 0 < width → cell < width * height → read_cell width height (Some (cell % width)) (Some (cell / width)) ≡ Ok cell
unfolding read_cell
cell_again width height cell some inside =
    let column : cell % width < width = omega arith in
    let a = below_again width (cell % width) column in
    let b = below_again height (cell / width) (row-below width height cell inside) in
    let same : (cell / width) * width + cell % width ≡ cell = grind (arith, common_steps) in
    rw (a, b) (ap Ok same)

pub pair_takes : (bs : List ℕ) (p : Option ℕ × Option ℕ × List ℕ) (width height cell : ℕ) → read_pair bs ≡ Ok p → read_cell width height p.0 p.1 ≡ Ok cell → (bs ≡ pair width cell ++ p.2) × (cell < width * height)
unfolding read_pair
pair_takes bs p width height cell e ranged =
    through (read_field 32 bs) _ p e (λ x first more.
    through (read_field 44 x.1) _ p more (λ y second made.
    let whole = same_ok _ p made in
    let (x-is, y-is, inside) = cell_takes width height p.0 p.1 cell ranged in
    let first' : read_field 32 bs ≡ Ok (Some (cell % width), x.1) = first ∙ ap (λ v. Ok (v, x.1)) (ap (λ q. q.0) whole ∙ x-is) in
    let second' : read_field 44 x.1 ≡ Ok (Some (cell / width), p.2) = second ∙ ap (λ v. Ok (v, y.1)) (ap (λ q. q.1) whole ∙ y-is) ∙ ap (λ r. Ok (Some (cell / width), r)) (ap (λ q. q.2) whole) in
    let (text, _) = field_takes 32 bs x.1 (cell % width) first' in
    let (rest, _) = field_takes 44 x.1 p.2 (cell / width) second' in
    (text ∙ ap (λ r. field 32 (cell % width) ++ r) rest ∙ sym (append_assoc (field 32 (cell % width)) (field 44 (cell / width)) p.2), inside)))

pub pair_again : (width cell : ℕ) (rest : List ℕ) → cell % width < 2 ^ 64 → cell / width < 2 ^ 64 → IsPastDigits rest → read_pair (pair width cell ++ rest) ≡ Ok (Some (cell % width), Some (cell / width), rest)
unfolding read_pair
pair_again width cell rest column row past =
    let a : read_field 32 (pair width cell ++ rest) ≡ Ok (Some (cell % width), field 44 (cell / width) ++ rest) =
    ap (read_field 32) (append_assoc (field 32 (cell % width)) (field 44 (cell / width)) rest) ∙ field_again 32 (cell % width) (field 44 (cell / width) ++ rest) column refl in
    let b = field_again 44 (cell / width) rest row past in
    rw (a, b) refl

pub field_below : (mark bound : ℕ) (bs : List ℕ) (p : Option ℕ × List ℕ) (n : ℕ) → read_field mark bs ≡ Ok p → below bound p.0 ≡ Ok n → (bs ≡ field mark n ++ p.1) × (n < bound)
field_below mark bound bs p n e ranged =
    let (is, less) = below_takes bound p.0 n ranged in
    ((field_takes mark bs p.1 n (e ∙ ap (λ v. Ok (v, p.1)) is)).0, less)

pub field_range : (mark least most : ℕ) (bs : List ℕ) (p : Option ℕ × List ℕ) (n : ℕ) → read_field mark bs ≡ Ok p → in_range least most p.0 ≡ Ok n → (bs ≡ field mark n ++ p.1) × (least ≤ n) × (n ≤ most)
field_range mark least most bs p n e ranged =
    let (is, above, under) = range_takes least most p.0 n ranged in
    ((field_takes mark bs p.1 n (e ∙ ap (λ v. Ok (v, p.1)) is)).0, above, under)

pub last_below : (mark bound : ℕ) (bs : List ℕ) (v : Option ℕ) (n : ℕ) → read_last mark bs ≡ Ok v → below bound v ≡ Ok n → (bs ≡ field mark n) × (n < bound)
last_below mark bound bs v n e ranged =
    let (is, less) = below_takes bound v n ranged in
    ((last_takes mark bs n (e ∙ ap Ok is)).0, less)

pub last_range : (mark least most : ℕ) (bs : List ℕ) (v : Option ℕ) (n : ℕ) → read_last mark bs ≡ Ok v → in_range least most v ≡ Ok n → (bs ≡ field mark n) × (least ≤ n) × (n ≤ most)
last_range mark least most bs v n e ranged =
    let (is, above, under) = range_takes least most v n ranged in
    ((last_takes mark bs n (e ∙ ap Ok is)).0, above, under)

pub number_shorter : (bs rest : List ℕ) (v : Option ℕ) → read_number bs ≡ Ok (v, rest) → length rest ≤ length bs
unfolding read_number
number_shorter bs rest v e =
    let (begins, parts) = guarded (begins_well (front_digits bs)) Shape _ _ e in
    let (value, after) = ok_pair_parts _ v (after_digits bs) rest parts in
    omega (arith, ap length after, length-drop (length (front_digits bs)) bs)

pub field_shorter : (mark : ℕ) (bs rest : List ℕ) (v : Option ℕ) → read_field mark bs ≡ Ok (v, rest) → length rest < length bs
unfolding read_field
field_shorter mark [] rest v e = cc
field_shorter mark (b ∷ bs) rest v e =
    let (same, more) = guarded (b == mark) Shape _ _ e in
    omega (arith, number_shorter bs rest v more)
