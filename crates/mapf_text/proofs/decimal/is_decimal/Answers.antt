use Rattle.std.proofs.Common.{◌≡◌, ◌↔◌, ◌==◌, ℕ, Bool, true, false, List, [], ◌∷◌, Some, None, IsTrue, length, suc, sym, ◌∙◌, arith}
use Rattle.std.proofs.lemmas.Bool.{ne_eqb}
use Rattle.mapf_text.specs.Decimals.{IsDecimal, after_decimal}
use Rattle.mapf_text.proofs.DecimalLemmas.{decimal-taken, decimal-again}
use Rattle.mapf_text.proofs.decimal.is_decimal.Goals as goal

at_end : (text rest : List ℕ) (empty : Bool) → Some rest ≡ after_decimal text → empty ≡ (length rest == 0) → IsTrue empty ↔ IsDecimal text
at_end text [] empty e is = (λ yes. decimal-taken text (sym e), λ decimal. is)
at_end text (b ∷ bs) empty e is =
    let more : (suc (length bs) == 0) ≡ false = ne_eqb (suc (length bs)) 0 (λ h. omega arith) in
    (λ yes. let no_rest : empty ≡ false = is ∙ more in let both : empty ≡ true = yes in cc, λ decimal. let all = decimal-again text decimal in cc)

never : (text : List ℕ) → None ≡ after_decimal text → IsDecimal text → IsTrue false
never text e decimal = let all = decimal-again text decimal in cc

pub returns-in-Some : goal.returns-in-Some
returns-in-Some c = at_end c.args.word.now c.in-Some.rest.now _ c.in-Some.ensures c.is_empty.ensures

pub returns-in-None : goal.returns-in-None
returns-in-None c = (λ yes. let both : false ≡ true = yes in cc, λ decimal. never c.args.word.now c.in-None.ensures decimal)
