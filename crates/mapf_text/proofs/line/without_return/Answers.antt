use Rattle.std.proofs.Common.{◌≡◌, ◌≢◌, ◌==◌, ℕ, List, [], ◌∷◌, ◌++◌, true, false, sym}
use Rattle.std.proofs.lemmas.Bool.{eq-eqb, ne_eqb}
use Rattle.mapf_text.specs.Lines.{without_return}
use Rattle.mapf_text.proofs.LineLemmas.{without_return-last}
use Rattle.mapf_text.proofs.line.without_return.Goals as goal

return_at : (line front : List ℕ) (b : ℕ) → line ≡ front ++ (b ∷ []) → b ≡ 13 → front ≡ without_return line
return_at line front b e is = let yes : (b == 13) ≡ true = eq-eqb b 13 is in sym (rw yes at (without_return-last line front b e))

no_return_at : (line front : List ℕ) (b : ℕ) → line ≡ front ++ (b ∷ []) → b ≢ 13 → line ≡ without_return line
no_return_at line front b e is = let no : (b == 13) ≡ false = ne_eqb b 13 is in sym (rw no at (without_return-last line front b e))

pub returns-then-last-eq13 : goal.returns-then-last-eq13
returns-then-last-eq13 c = return_at c.args.line.now c.in-Some.front.now c.in-Some.last.now c.in-Some.ensures.cases.0 c.if-last-eq13.true

pub returns-else-last-eq13 : goal.returns-else-last-eq13
returns-else-last-eq13 c = no_return_at c.args.line.now c.in-Some.front.now c.in-Some.last.now c.in-Some.ensures.cases.0 c.if-last-eq13.false
