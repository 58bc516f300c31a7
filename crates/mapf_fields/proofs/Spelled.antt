-- How small numbers are spelled.
use Rattle.std.proofs.Common.{◌≡◌, ℕ, zero, suc, ◌<◌, ◌≤◌, ◌+◌, ◌/◌, ◌%◌, Bool, true, false, ◌&&◌, nat_lt, List, [], ◌∷◌, ◌++◌, length, get_or, take, arith, refl, sym, ap, subst, ◌∙◌, length-append, append_assoc}
use Rattle.std.proofs.Math.Seq.{take-append-add}
use Rattle.std.specs.Fmt.{decimal}
use Rattle.std.specs.Str.{bytes_eq}
use Rattle.std.proofs.lemmas.Bool.{ltb-true, ltb-false}
use Rattle.std.proofs.lemmas.Slice.Eq.{bytes_eq-Decides}
use Rattle.std.proofs.lemmas.Fmt.{decimal_digit, decimal_step}
use Rattle.mapf_fields.specs.Numbers.{field}
use Rattle.mapf_fields.specs.Spellings.{IsSpelling}

pub one_digit : (n : ℕ) → n < 10 → (48 + n) ∷ [] ≡ decimal n
one_digit n small = sym (decimal_digit n small)

pub two_digits : (n : ℕ) → 10 ≤ n → n < 100 → (48 + n / 10) ∷ ((48 + n % 10) ∷ []) ≡ decimal n
two_digits n low small = sym (decimal_step n low (omega arith) ∙ ap (λ t. t ++ ((48 + n % 10) ∷ [])) (decimal_digit (n / 10) (omega arith)))

pub three_digits : (n : ℕ) → 100 ≤ n → n < 1000 → (48 + n / 100) ∷ ((48 + n / 10 % 10) ∷ ((48 + n % 10) ∷ [])) ≡ decimal n
three_digits n low small =
    let front = two_digits (n / 10) (omega arith) (omega arith) in
    let first : n / 10 / 10 ≡ n / 100 = omega arith in
    ap (λ h. (48 + h) ∷ ((48 + n / 10 % 10) ∷ ((48 + n % 10) ∷ []))) (sym first)
    ∙ ap (λ t. t ++ ((48 + n % 10) ∷ [])) front ∙ sym (decimal_step n (omega arith) (omega arith))

-- a word for a number, by whether it is below 10 and whether it is below 100
abbrev word_by : Bool → Bool → ℕ → List ℕ
word_by true hundred n = (48 + n) ∷ (0 ∷ (0 ∷ (1 ∷ [])))
word_by false true n = (48 + n / 10) ∷ ((48 + n % 10) ∷ (0 ∷ (2 ∷ [])))
word_by false false n = (48 + n / 100) ∷ ((48 + n / 10 % 10) ∷ ((48 + n % 10) ∷ (3 ∷ [])))

abbrev word_of : ℕ → List ℕ
word_of n = word_by (nat_lt n 10) (nat_lt n 100) n

word_spells : (n : ℕ) → n < 1000 → IsSpelling n (word_of n)
word_spells n small = by (nat_lt n 10) (nat_lt n 100) refl refl
  where
    by : (ten hundred : Bool) → nat_lt n 10 ≡ ten → nat_lt n 100 ≡ hundred → IsSpelling n (word_by ten hundred n)
    by true hundred e f = (one_digit n (ltb-true _ _ e), omega arith)
    by false true e f = (two_digits n (ltb-false _ _ e) (ltb-true _ _ f), omega arith)
    by false false e f = (three_digits n (ltb-false _ _ f) small, omega arith)

and_both : (a b : Bool) → (a && b) ≡ true → (a ≡ true) × (b ≡ true)
and_both true b e = (refl, e)
and_both false b e = cc

-- the words are those of the numbers from n on
unfoldable pub are_words : ℕ → List (List ℕ) → Bool
are_words n [] = true
are_words n (word ∷ words) = bytes_eq word (word_of n) && are_words (suc n) words

word_at : (words : List (List ℕ)) (from : ℕ) → are_words from words ≡ true → (n : ℕ) → n < length words → get_or words n [] ≡ word_of (from + n)
unfolding are_words
word_at [] from are n inside = absurd (omega arith)
word_at (word ∷ words) from are zero inside =
    let tests = and_both (bytes_eq word (word_of from)) (are_words (suc from) words) are in
    let here : from ≡ from + 0 = omega arith in
    (bytes_eq-Decides word (word_of from)).0 tests.0 ∙ ap word_of here
word_at (word ∷ words) from are (suc n) inside =
    let tests = and_both (bytes_eq word (word_of from)) (are_words (suc from) words) are in
    let there : suc from + n ≡ from + suc n = omega arith in
    word_at words (suc from) tests.1 n (omega arith) ∙ ap word_of there

-- in a table of the words of the numbers below 1000 each has its spelling
pub spelled : (words : List (List ℕ)) → are_words 0 words ≡ true → length words ≡ 1000 → (n : ℕ) → n < 1000 → IsSpelling n (get_or words n [])
spelled words are all n small =
    let same : 0 + n ≡ n = omega arith in
    subst (IsSpelling n) (sym (word_at words 0 are n (omega arith) ∙ ap word_of same)) (word_spells n small)

-- where a spelling follows a separator, and the bytes after its digits are taken off
pub field_of : (held word : List ℕ) (mark n used : ℕ) → used ≡ length held → IsSpelling n word → take (used + 1 + get_or word 3 0) ((held ++ mark ∷ []) ++ word) ≡ held ++ field mark n
field_of held word mark n used all is =
    let start = held ++ mark ∷ [] in
    let count = get_or word 3 0 in
    let end : used + 1 + count ≡ length start + count = omega (arith, length-append held (mark ∷ [])) in
    ap (λ k. take k (start ++ word)) end ∙ take-append-add start word count ∙ ap (λ t. start ++ t) is.0 ∙ append_assoc held (mark ∷ []) (decimal n)
