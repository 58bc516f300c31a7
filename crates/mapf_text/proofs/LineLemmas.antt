-- Lines: the first one, and its line end.
use Rattle.std.proofs.Common.{◌≡◌, ℕ, ◌≤◌, ◌+◌, ◌-◌, Bool, true, false, cond, List, [], ◌∷◌, ◌++◌, take, drop, map, Option, Some, None, MatchOption, refl, ap, ◌∙◌, suc, arith, le_refl}
use Rattle.std.specs.Prelude.{◌==◌}
use Rattle.std.specs.List.{position_from}
use Rattle.std.proofs.lemmas.Option.{MatchOption-at_some, MatchOption-at_none}
use Rattle.mapf_text.specs.Lines.{cut_lines, without_return, lines_of}

-- what the result of a search for an LF from place n on says of the lines
abbrev FirstLine : List ℕ → ℕ → Option ℕ → Type 0
FirstLine text n found = MatchOption found (cut_lines text ≡ text ∷ []) (λ i. (n ≤ i) × (cut_lines text ≡ take (i - n) text ∷ cut_lines (drop (suc (i - n)) text)))

first_line : (b : ℕ) (bs : List ℕ) (n : ℕ) → FirstLine (b ∷ bs) n (position_from (λ b. b == 10) n (b ∷ bs))
first_line b [] n = by (b == 10) refl
  where
    by : (t : Bool) → (b == 10) ≡ t → FirstLine (b ∷ []) n (position_from (λ b. b == 10) n (b ∷ []))
    by true is = let none : n - n ≡ 0 = omega arith in rw (is, none) (le_refl n, refl)
    by false is = rw is refl
first_line b (c ∷ cs) n = by (b == 10) refl (position_from (λ b. b == 10) (n + 1) (c ∷ cs)) refl (first_line c cs (n + 1))
  where
    by : (t : Bool) → (b == 10) ≡ t → (r : Option ℕ) → position_from (λ b. b == 10) (n + 1) (c ∷ cs) ≡ r → FirstLine (c ∷ cs) (n + 1) r → FirstLine (b ∷ c ∷ cs) n (position_from (λ b. b == 10) n (b ∷ c ∷ cs))
    by true is r found rest = let none : n - n ≡ 0 = omega arith in rw (is, none) (le_refl n, refl)
    by false is None found rest = rw (is, found, rest) refl
    by false is (Some i) found (above, rest) = let one : i - n ≡ suc (i - (n + 1)) = omega arith in rw (is, found, rest, one) (omega arith, refl)

-- a text without LF is one line
pub lines-whole : (b : ℕ) (bs : List ℕ) → position_from (λ b. b == 10) 0 (b ∷ bs) ≡ None → lines_of (b ∷ bs) ≡ without_return (b ∷ bs) ∷ []
unfolding lines_of
lines-whole b bs none = ap (map without_return) (MatchOption-at_none _ _ none (first_line b bs 0))

from_start : (text : List ℕ) (i : ℕ) → cut_lines text ≡ take (i - 0) text ∷ cut_lines (drop (suc (i - 0)) text) → cut_lines text ≡ take i text ∷ cut_lines (drop (i + 1) text)
from_start text i e =
    let all : i - 0 ≡ i = omega arith in
    let next : i + 1 ≡ suc i = omega arith in
    rw next (rw all at e)

-- the first line ends before the first LF
pub lines-cut : (text : List ℕ) (i : ℕ) → position_from (λ b. b == 10) 0 text ≡ Some i → lines_of text ≡ without_return (take i text) ∷ lines_of (drop (i + 1) text)
unfolding lines_of
lines-cut [] i found = cc
lines-cut (b ∷ bs) i found = ap (map without_return) (from_start (b ∷ bs) i (MatchOption-at_some _ _ i found (first_line b bs 0)).1)

-- a text has lines unless it is empty
pub lines-empty : lines_of [] ≡ []
unfolding lines_of
lines-empty = refl

-- a CR at the end is taken away, and no other byte
pub without_return-append : (front : List ℕ) (b : ℕ) → without_return (front ++ (b ∷ [])) ≡ cond (b == 13) front (front ++ (b ∷ []))
without_return-append [] b = refl
without_return-append (x ∷ []) b = by (b == 13) refl
  where
    by : (t : Bool) → (b == 13) ≡ t → x ∷ cond (b == 13) [] (b ∷ []) ≡ cond (b == 13) (x ∷ []) (x ∷ b ∷ [])
    by true is = rw is refl
    by false is = rw is refl
without_return-append (x ∷ y ∷ ys) b = ap (λ l. x ∷ l) (without_return-append (y ∷ ys) b) ∙ by (b == 13) refl
  where
    by : (t : Bool) → (b == 13) ≡ t → x ∷ cond (b == 13) (y ∷ ys) ((y ∷ ys) ++ (b ∷ [])) ≡ cond (b == 13) (x ∷ y ∷ ys) ((x ∷ y ∷ ys) ++ (b ∷ []))
    by true is = rw is refl
    by false is = rw is refl

-- a line by its last byte: a CR is dropped
pub without_return-last : (line front : List ℕ) (b : ℕ) → line ≡ front ++ (b ∷ []) → without_return line ≡ cond (b == 13) front line
without_return-last line front b e = rw e (without_return-append front b)
