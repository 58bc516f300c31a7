-- Words: the first one of a line, and the blanks before it.
use Rattle.std.proofs.Common.{◌≡◌, ℕ, ◌≤◌, ◌+◌, ◌-◌, Bool, true, false, not, cond, List, [], ◌∷◌, length, get_or, take, drop, Option, Some, None, MatchOption, unwrap_or, refl, ◌∙◌, suc, arith, le_refl}
use Rattle.std.proofs.lemmas.Option.{MatchOption-at_some, MatchOption-at_none}
use Rattle.std.specs.List.{position_or_len, position_from}
use Rattle.mapf_text.specs.Words.{is_blank, words_of}

-- blanks at the beginning of a line are ignored
pub words-blank : (b : ℕ) (bs : List ℕ) → is_blank b ≡ true → words_of (b ∷ bs) ≡ words_of bs
unfolding words_of
words-blank b [] is = rw is refl
words-blank b (c ∷ bs) is = rw is refl

-- what the result of a search for a byte that is no blank, from place n on, says of the words
abbrev FirstFilled : List ℕ → ℕ → Option ℕ → Type 0
FirstFilled line n found = MatchOption found (words_of line ≡ []) (λ i. (n ≤ i) × (words_of line ≡ words_of (drop (i - n) line)) × (is_blank (get_or (drop (i - n) line) 0 32) ≡ false))

first_filled : (line : List ℕ) (n : ℕ) → FirstFilled line n (position_from (λ b. not (is_blank b)) n line)
unfolding words_of
first_filled [] n = refl
first_filled (b ∷ bs) n = by (is_blank b) refl (position_from (λ b. not (is_blank b)) (n + 1) bs) refl (first_filled bs (n + 1))
  where
    by : (t : Bool) → is_blank b ≡ t → (r : Option ℕ) → position_from (λ b. not (is_blank b)) (n + 1) bs ≡ r → FirstFilled bs (n + 1) r → FirstFilled (b ∷ bs) n (cond (not t) (Some n) r)
    by false is r found rest = let none : n - n ≡ 0 = omega arith in rw none (le_refl n, refl, is)
    by true is None found rest = words-blank b bs is ∙ rest
    by true is (Some i) found (above, rest, filled) =
        let one : i - n ≡ suc (i - (n + 1)) = omega arith in
        rw one (omega arith, words-blank b bs is ∙ rest, filled)

-- a word goes on to the next blank
word-whole : (b : ℕ) (bs : List ℕ) (k : ℕ) → is_blank b ≡ false → k ≡ position_or_len is_blank bs → words_of (b ∷ bs) ≡ (b ∷ take k bs) ∷ words_of (drop k bs)
unfolding words_of
word-whole b [] k is e = rw (e, is) refl
word-whole b (c ∷ cs) k is e = by (is_blank c) refl (position_or_len is_blank cs) (λ word. word-whole c cs (position_or_len is_blank cs) word refl) e
  where
    by : (t : Bool) → is_blank c ≡ t → (j : ℕ) → (is_blank c ≡ false → words_of (c ∷ cs) ≡ (c ∷ take j cs) ∷ words_of (drop j cs)) → k ≡ cond (not t) (1 + j) 0
        → words_of (b ∷ c ∷ cs) ≡ (b ∷ take k (c ∷ cs)) ∷ words_of (drop k (c ∷ cs))
    by true blank j rest e = rw (e, is, blank) refl
    by false word j rest e =
        let more : k ≡ suc j = omega arith in
        rw (more, is, word, rest word) refl

-- where a search from place n on ends
position-len : (p : ℕ → Bool) (xs : List ℕ) (n end : ℕ) → end ≡ n + length xs → unwrap_or (position_from p n xs) end ≡ n + position_or_len p xs
position-len p [] n end e = e
position-len p (x ∷ xs) n end e = by (p x) (λ k. position-len p xs (n + 1) end k)
  where
    by : (t : Bool) → (end ≡ (n + 1) + length xs → unwrap_or (position_from p (n + 1) xs) end ≡ (n + 1) + position_or_len p xs)
        → unwrap_or (cond t (Some n) (position_from p (n + 1) xs)) end ≡ n + cond (not t) (1 + position_or_len p xs) 0
    by true rest = omega arith
    by false rest = rest (omega arith) ∙ omega arith

-- a blank line has no words
pub words-none : (line : List ℕ) → position_from (λ b. not (is_blank b)) 0 line ≡ None → words_of line ≡ []
words-none line e = MatchOption-at_none _ _ e (first_filled line 0)

word-cut : (line : List ℕ) (end : ℕ) → is_blank (get_or line 0 32) ≡ false → end ≡ unwrap_or (position_from is_blank 0 line) (length line) → words_of line ≡ take end line ∷ words_of (drop end line)
word-cut [] end is e = cc
word-cut (b ∷ bs) end is e =
    let more : end ≡ suc (position_or_len is_blank bs) = rw is at e ∙ position-len is_blank bs 1 (suc (length bs)) (omega arith) ∙ omega arith in
    rw more (word-whole b bs _ is refl)

-- the first word of a line, from its first byte that is no blank on
pub words-cut : (line : List ℕ) (at end : ℕ) → position_from (λ b. not (is_blank b)) 0 line ≡ Some at → end ≡ unwrap_or (position_from is_blank 0 (drop at line)) (length (drop at line)) → words_of line ≡ take end (drop at line) ∷ words_of (drop end (drop at line))
words-cut line at end found e =
    let all : at - 0 ≡ at = omega arith in
    let (above, same, filled) = rw all at (MatchOption-at_some _ _ at found (first_filled line 0)) in
    same ∙ word-cut (drop at line) end filled e
