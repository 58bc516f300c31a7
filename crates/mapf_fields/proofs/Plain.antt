-- Lines without LF, and how long they are.
use Rattle.std.proofs.Common.{◌≡◌, ℕ, ◌<◌, ◌≤◌, ◌^◌, ◌+◌, ◌/◌, ◌%◌, ◌*◌, ◌&&◌, true, not, List, [], ◌∷◌, ◌++◌, length, refl, ap, subst, ◌∙◌, arith, length-append, ◌==◌}
use Rattle.std.specs.Fmt.{decimal}
use Rattle.std.specs.Str.Parse.{AllDigits}
use Rattle.std.proofs.lemmas.Str.Parse.{digit_from_value}
use Rattle.std.proofs.lemmas.Fmt.{decimal_is_IsNumeral, length-decimal-le}
use Rattle.std.proofs.lemmas.List.Folds.{list_all-append}
use Rattle.std.proofs.lemmas.Bool.{and_parts}
use Rattle.std.proofs.lemmas.Bool.Decides.{nat_tests}
use Rattle.mapf_fields.specs.Numbers.{field, pair}
use Rattle.mapf_fields.specs.Ends.{lacks_end}
use Rattle.mapf_fields.proofs.Fields.{row-below}

pub lacks-append : (a b : List ℕ) → lacks_end a ≡ true → lacks_end b ≡ true → lacks_end (a ++ b) ≡ true
lacks-append a b p q = list_all-append (λ c. not (c == 10)) a b ∙ ap (λ t. t && lacks_end b) p ∙ q

-- no LF, and not longer than this
pub record IsPlain (most : ℕ) (bs : List ℕ) : Type 0 where
  pub ends : lacks_end bs ≡ true
  pub short : length bs ≤ most

pub plain-append : (j k : ℕ) (bs cs : List ℕ) → IsPlain j bs → IsPlain k cs → IsPlain (j + k) (bs ++ cs)
plain-append j k bs cs p q = record {
  ends = lacks-append bs cs p.ends q.ends;
  short = omega (arith, length-append bs cs, p.short, q.short);
}

pub plain-more : (j k : ℕ) (bs : List ℕ) → j ≤ k → IsPlain j bs → IsPlain k bs
plain-more j k bs h p = record { ends = p.ends; short = omega (arith, p.short) }

pub digits_lack : (ds : List ℕ) → AllDigits 10 ds → lacks_end ds ≡ true
digits_lack [] all = refl
digits_lack (d ∷ ds) all =
    let range = digit_from_value d all.0 in
    let no : not (d == 10) ≡ true = grind (arith, nat_tests) in
    ap (λ t. t && lacks_end ds) no ∙ digits_lack ds all.1

pub plain-field : (mark k n : ℕ) → not (mark == 10) ≡ true → 0 < k → n < 10 ^ k → n < 2 ^ 64 → IsPlain (k + 1) (field mark n)
plain-field mark k n clear some small fits = record {
  ends = ap (λ t. t && lacks_end (decimal n)) clear ∙ digits_lack (decimal n) (decimal_is_IsNumeral n fits).0.1;
  short = omega (arith, length-decimal-le k n some small fits);
}

pub plain-pair : (width height cell : ℕ) → 1 ≤ width → width ≤ 2048 → height ≤ 2048 → cell < width * height → IsPlain 10 (pair width cell)
plain-pair width height cell some narrow low inside =
    let row = row-below width height cell inside in
    let column : cell % width < width = omega arith in
    plain-append 5 5 _ _ (plain-field 32 4 (cell % width) refl (omega arith) (omega arith) (omega arith)) (plain-field 44 4 (cell / width) refl (omega arith) (omega arith) (omega arith))

pub plain-word : (word : List ℕ) (k : ℕ) → lacks_end word ≡ true → length word ≡ k → IsPlain k word
plain-word word k e l = record { ends = e; short = omega arith }

-- the text before the first LF, and the text after it
pub same_front : (a b xs ys : List ℕ) → lacks_end a ≡ true → lacks_end b ≡ true → a ++ (10 ∷ xs) ≡ b ++ (10 ∷ ys) → (a ≡ b) × (xs ≡ ys)
same_front [] [] xs ys p q e = (refl, cc)
same_front [] (b ∷ bs) xs ys p q e =
    let first : b ≡ 10 = cc in
    let no : (not (10 == 10) && lacks_end bs) ≡ true = subst (λ (c : ℕ). (not (c == 10) && lacks_end bs) ≡ true) first q in
    cc
same_front (a ∷ as') [] xs ys p q e =
    let first : a ≡ 10 = cc in
    let no : (not (10 == 10) && lacks_end as') ≡ true = subst (λ (c : ℕ). (not (c == 10) && lacks_end as') ≡ true) first p in
    cc
same_front (a ∷ as') (b ∷ bs) xs ys p q e =
    let first : a ≡ b = cc in
    let tail : as' ++ (10 ∷ xs) ≡ bs ++ (10 ∷ ys) = cc in
    let more = same_front as' bs xs ys (and_parts (not (a == 10)) (lacks_end as') p).1 (and_parts (not (b == 10)) (lacks_end bs) q).1 tail in
    let front = more.0 in
    (cc, more.1)

pub some_of : (word rest : List ℕ) → 0 < length word → 0 < length (word ++ rest)
some_of word rest h = omega (arith, length-append word rest)
