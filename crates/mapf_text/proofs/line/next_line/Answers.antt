use Rattle.std.proofs.Common.{◌≡◌, ◌==◌, ◌+◌, ◌-◌, ℕ, List, [], ◌∷◌, true, false, length, take, drop, None, Some, suc, sym, arith}
use Rattle.std.proofs.lemmas.Bool.{eqb-true}
use Rattle.std.specs.List.{position_from}
use Rattle.std.proofs.lemmas.List.{take_rest}
use Rattle.mapf_text.specs.Lines.{lines_of, without_return}
use Rattle.mapf_text.proofs.LineLemmas.{lines-empty, lines-whole, lines-cut}
use Rattle.mapf_text.proofs.line.next_line.Goals as goal

empty : (text : List ℕ) → true ≡ (length text == 0) → lines_of text ≡ []
empty [] is = lines-empty
empty (b ∷ bs) is = let never : suc (length bs) ≡ 0 = eqb-true (suc (length bs)) 0 (sym is) in absurd (omega arith)

whole : (text line : List ℕ) → false ≡ (length text == 0) → position_from (λ b. b == 10) 0 text ≡ None → line ≡ without_return text → lines_of text ≡ line ∷ lines_of []
whole [] line some none is = let never : false ≡ true = some in cc
whole (b ∷ bs) line some none is = rw (is, lines-empty) (lines-whole b bs none)

cut : (text line : List ℕ) (at : ℕ) → position_from (λ b. b == 10) 0 text ≡ Some at → line ≡ without_return (take at text) → lines_of text ≡ line ∷ lines_of (take (length text - (at + 1)) (drop (at + 1) text))
cut text line at found is = rw (take_rest text (at + 1), is) (lines-cut text at found)

pub returns-then-is_empty-clause-lines : goal.returns-then-is_empty-clause-lines
returns-then-is_empty-clause-lines c = empty c.args.text.now c.if-is_empty.ensures

pub returns-in-None-clause-lines : goal.returns-in-None-clause-lines
returns-in-None-clause-lines c = whole c.args.text.now _ c.if-is_empty.ensures (sym c.in-None.ensures.place) c.without_return.ensures

pub returns-in-Some-clause-lines : goal.returns-in-Some-clause-lines
returns-in-Some-clause-lines c = cut c.args.text.now _ c.in-Some.at (sym c.in-Some.ensures.place) c.without_return-in-Some.ensures
