-- Texts that are written one after another.
use Rattle.std.proofs.Common.{◌≡◌, ℕ, zero, suc, ◌+◌, ◌<◌, List, [], ◌∷◌, ◌++◌, Bor, length, take, get_or, append_assoc, append-nil, refl, sym, ap, ◌∙◌, arith}
use Rattle.std.proofs.lemmas.List.{take_more}
use Rattle.mapf_json.specs.Written.{joined}

joined_append : (texts more : List (Bor (List ℕ))) → joined (texts ++ more) ≡ joined texts ++ joined more
joined_append [] more = refl
joined_append (text ∷ texts) more = ap (λ t. text.now ++ t) (joined_append texts more) ∙ sym (append_assoc text.now (joined texts) (joined more))

-- after one more text
pub joined_more : (texts : List (Bor (List ℕ))) (i : ℕ) (d : Bor (List ℕ)) → i < length texts → joined (take (i + 1) texts) ≡ joined (take i texts) ++ (get_or texts i d).now
joined_more texts i d within =
    ap joined (take_more texts i d within) ∙ joined_append (take i texts) (get_or texts i d ∷ [])
    ∙ ap (λ t. joined (take i texts) ++ t) (append-nil (get_or texts i d).now)

-- all of them are those before one, this one and the others
pub joined_around : (texts : List (Bor (List ℕ))) (i : ℕ) (d : Bor (List ℕ)) → i < length texts → (rest : List ℕ) × (joined texts ≡ joined (take i texts) ++ ((get_or texts i d).now ++ rest))
joined_around [] i d within = absurd (omega (arith, within))
joined_around (text ∷ texts) zero d within = (joined texts, refl)
joined_around (text ∷ texts) (suc i) d within =
    let (rest, same) = joined_around texts i d (omega arith) in
    (rest, ap (λ t. text.now ++ t) same ∙ sym (append_assoc text.now (joined (take i texts)) ((get_or texts i d).now ++ rest)))
