-- The place of the first LF.
use Rattle.std.proofs.Common.{◌≡◌, ℕ, ◌<◌, ◌≤◌, ◌+◌, ◌-◌, ◌&&◌, Bool, true, false, not, List, [], ◌∷◌, ◌++◌, length, take, drop, Option, Some, None, MatchOption, refl, sym, ap, subst, ◌∙◌, arith, suc, le_refl, ◌==◌, zero, IfSome, append_assoc}
use Rattle.std.specs.List.{position_from}
use Rattle.std.proofs.lemmas.Bool.{and_parts, eqb-true, not-true}
use Rattle.std.proofs.lemmas.Option.{MatchOption-at_some, MatchOption-at_none}
use Rattle.std.proofs.lemmas.Option.{some_pair_parts}
use Rattle.std.proofs.Math.Seq.{take-append_seam, drop-append-add}
use Rattle.std.proofs.lemmas.List.{take-append-drop, length-take-le, length-take}
use Rattle.mapf_fields.specs.Ends.{IsCut, lacks_end, cut}

-- where an LF is found, counted from n
abbrev EndAt : List ℕ → ℕ → ℕ → Type 0
EndAt bs n i = (n ≤ i) × (i - n < length bs) × IsCut bs (take (i - n) bs) (drop (suc (i - n)) bs)

end_from : (bs : List ℕ) (n : ℕ) → MatchOption (position_from (λ b. b == 10) n bs) (lacks_end bs ≡ true) (EndAt bs n)
end_from [] n = refl
end_from (b ∷ bs) n = by (b == 10) refl (position_from (λ c. c == 10) (n + 1) bs) refl (end_from bs (n + 1))
  where
    by : (t : Bool) → (b == 10) ≡ t → (r : Option ℕ) → position_from (λ c. c == 10) (n + 1) bs ≡ r → MatchOption r (lacks_end bs ≡ true) (EndAt bs (n + 1))
        → MatchOption (position_from (λ c. c == 10) n (b ∷ bs)) (lacks_end (b ∷ bs) ≡ true) (EndAt (b ∷ bs) n)
    by true t r is h =
        let none : n - n ≡ 0 = omega arith in
        let first = eqb-true b 10 t in
        rw (t, none) (le_refl n, omega arith, record { same = ap (λ c. c ∷ bs) first; whole = refl })
    by false t None is h = rw (t, is) h
    by false t (Some i) is (above, inside, found) =
        let one : i - n ≡ suc (i - (n + 1)) = omega arith in
        rw (t, is, one) (omega arith, omega arith, record { same = ap (λ l. b ∷ l) found.same; whole = ap (λ c. not c && lacks_end (take (i - (n + 1)) bs)) t ∙ found.whole })

pub end_is : (bs : List ℕ) (r : Option ℕ) → r ≡ position_from (λ b. b == 10) 0 bs → MatchOption r (lacks_end bs ≡ true) (λ n. (n < length bs) × IsCut bs (take n bs) (drop (n + 1) bs))
end_is bs None e = MatchOption-at_none _ _ (sym e) (end_from bs 0)
end_is bs (Some i) e =
    let (low, inside, found) = MatchOption-at_some _ _ i (sym e) (end_from bs 0) in
    let same : i - 0 ≡ i = omega arith in
    let next : suc i ≡ i + 1 = omega arith in
    let P : ℕ → Type 0 = λ k. IsCut bs (take k bs) (drop (suc k) bs) in
    let Q : ℕ → Type 0 = λ k. IsCut bs (take i bs) (drop k bs) in
    (omega arith, subst Q next (subst P same found))

cut_lacking : (l rest : List ℕ) → lacks_end l ≡ true → cut (l ++ (10 ∷ rest)) ≡ Some (l, rest)
cut_lacking [] rest e = refl
cut_lacking (c ∷ cs) rest e =
    let (unlike, more) = and_parts (not (c == 10)) (lacks_end cs) e in
    let other : (c == 10) ≡ false = not-true (c == 10) unlike in
    rw (other, cut_lacking cs rest more) refl

-- what is cut off is the first line
pub cut_is : (bs line rest : List ℕ) → IsCut bs line rest → cut bs ≡ Some (line, rest)
cut_is bs line rest found = ap cut found.same ∙ cut_lacking line rest found.whole

pub cut_none : (bs : List ℕ) → lacks_end bs ≡ true → cut bs ≡ None
cut_none [] e = refl
cut_none (c ∷ cs) e =
    let (unlike, more) = and_parts (not (c == 10)) (lacks_end cs) e in
    let other : (c == 10) ≡ false = not-true (c == 10) unlike in
    rw (other, cut_none cs more) refl

-- what is cut off is a line
pub cut_takes : (bs line rest : List ℕ) → cut bs ≡ Some (line, rest) → IsCut bs line rest
cut_takes bs line rest e = by (position_from (λ b. b == 10) 0 bs) refl (end_is bs _ refl)
  where
    by : (r : Option ℕ) → position_from (λ b. b == 10) 0 bs ≡ r → MatchOption r (lacks_end bs ≡ true) (λ n. (n < length bs) × IsCut bs (take n bs) (drop (n + 1) bs)) → IsCut bs line rest
    by None is lacks = let none : ◌≡◌ {A = Option (List ℕ × List ℕ)} None (Some (line, rest)) = sym (cut_none bs lacks) ∙ e in cc
    by (Some n) is (inside, found) =
        let (front, back) = some_pair_parts (take n bs) line (drop (n + 1) bs) rest (sym (cut_is bs _ _ found) ∙ e) in
        record { same = found.same ∙ ap (λ l. l ++ (10 ∷ drop (n + 1) bs)) front ∙ ap (λ r. line ++ (10 ∷ r)) back; whole = ap lacks_end (sym front) ∙ found.whole }

-- a text with an LF doesn't lack one
pub has_end : (front rest : List ℕ) → lacks_end (front ++ (10 ∷ rest)) ≡ true → ⊥
has_end [] rest e = cc
has_end (c ∷ cs) rest e = has_end cs rest (and_parts (not (c == 10)) (lacks_end (cs ++ (10 ∷ rest))) e).1

-- also in its first bytes, where the line is short
pub has_end_soon : (front rest : List ℕ) (n : ℕ) → length front < n → lacks_end (take n (front ++ (10 ∷ rest))) ≡ true → ⊥
has_end_soon front rest zero h e = absurd (omega arith)
has_end_soon [] rest (suc n) h e = cc
has_end_soon (c ∷ cs) rest (suc n) h e = has_end_soon cs rest n (omega arith) (and_parts (not (c == 10)) (lacks_end (take n (cs ++ (10 ∷ rest)))) e).1

-- a line and what follows its LF, by the length of the line
pub at_place : (bs line rest : List ℕ) → bs ≡ line ++ (10 ∷ rest) → (take (length line) bs ≡ line) × (drop (length line + 1) bs ≡ rest)
at_place bs line rest e = (ap (take (length line)) e ∙ take-append_seam line (10 ∷ rest), ap (drop (length line + 1)) e ∙ drop-append-add line (10 ∷ rest) 1)

-- the first line of a prefix is that of the whole text
pub first_of_front : (bs : List ℕ) (m n : ℕ) → (n < length (take m bs)) × IsCut (take m bs) (take n (take m bs)) (drop (n + 1) (take m bs)) → (n < length bs) × IsCut bs (take n bs) (drop (n + 1) bs)
first_of_front bs m n (inside, found) =
    let line = take n (take m bs) in
    let rest = drop (n + 1) (take m bs) ++ drop m bs in
    let all : bs ≡ line ++ (10 ∷ rest) = sym (take-append-drop m bs) ∙ ap (λ l. l ++ drop m bs) found.same ∙ append_assoc line (10 ∷ drop (n + 1) (take m bs)) (drop m bs) in
    let many : length line ≡ n = length-take-le n (take m bs) (omega arith) in
    let (front, back) = at_place bs line rest all in
    let P : ℕ → Type 0 = λ k. (take k bs ≡ line) × (drop (k + 1) bs ≡ rest) in
    let (front', back') = subst P many (front, back) in
    (omega (arith, length-take m bs), record { same = all ∙ ap (λ l. l ++ (10 ∷ rest)) (sym front') ∙ ap (λ r. take n bs ++ (10 ∷ r)) (sym back'); whole = ap lacks_end front' ∙ found.whole })

pub place : (bs : List ℕ) (m : ℕ) (r : Option ℕ) → MatchOption r (lacks_end (take m bs) ≡ true) (λ n. (n < length (take m bs)) × IsCut (take m bs) (take n (take m bs)) (drop (n + 1) (take m bs)))
    → IfSome r (λ n. (n < length bs) × IsCut bs (take n bs) (drop (n + 1) bs))
place bs m None h = tt
place bs m (Some n) h = first_of_front bs m n h
