use Rattle.std.proofs.Common.{◌≡◌, ℕ, List, ◌∷◌, not, length, take, drop, Option, Some, unwrap_or, sym}
use Rattle.std.specs.List.{position_from}
use Rattle.std.proofs.lemmas.List.{take_rest}
use Rattle.mapf_text.specs.Words.{is_blank, words_of}
use Rattle.mapf_text.proofs.WordLemmas.{words-none, words-cut}
use Rattle.mapf_text.proofs.word.next_word.Goals as goal

pub returns-in_default : goal.returns-in_default
returns-in_default c = words-none c.args.line.now (sym c.in_default.ensures.place)

cut : (line filled front back : List ℕ) (at end : ℕ) (blank : Option ℕ) → Some at ≡ position_from (λ b. not (is_blank b)) 0 line → filled ≡ drop at line → blank ≡ position_from is_blank 0 filled → end ≡ unwrap_or blank (length filled) → front ≡ take end filled → back ≡ drop end filled → words_of line ≡ front ∷ words_of back
cut line filled front back at end blank found same stop e before after =
    let of_line = rw (stop, same) at e in
    rw (before, after, same) (words-cut line at end (sym found) of_line)

pub returns : goal.returns
returns c = cut c.args.line.now _ _ _ c.in-Some.start _ _ c.in-Some.ensures.place (take_rest c.args.line.now c.in-Some.start) c.first_blank.ensures.place c.unwrap_or-end.ensures c.split_at.ensures.front c.split_at.ensures.back
