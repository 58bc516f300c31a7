-- What the line that tells of a refusal has in common with the refusal's own line.
use Rattle.std.proofs.Common.{◌≡◌, ℕ, List, [], ◌∷◌, ◌++◌, Bool, Option, Result, Ok, Err, OnErr, OnOk, Some, slice_get, codes, drop, sym, ap, ◌∙◌, subst, arith}
use Rattle.std.specs.Io.KnownBytes.{Appends}
use Rattle.std.specs.Result.{is_err}
use Rattle.std.proofs.lemmas.List.{append_assoc, append_cancel_left, append_cancel_right, append-nil, take-append-drop}
use Rattle.std.proofs.lemmas.Option.{same_Some}
use Rattle.mapf_app.specs.FaultLines.{memory_line}
use Rattle.mapf_app.specs.Told.{BeginsRefused, Gets, bound_text, defect_text, message_text, number_text, rest_text}
use Rattle.mapf_app.specs.declared.line.Line.{Line}
use Rattle.mapf_app.proofs.SolveLemmas.{WritesFront}

-- what a line says after its words stands before its end
split_rest : (line : Line) (end : List ℕ) → rest_text line end ≡ rest_text line [] ++ end
split_rest line end =
    five (defect_text line.defect) (number_text line.numbers.0) (number_text line.numbers.1) (number_text line.numbers.2) (bound_text line.bound)
  where
    five : (a b c d e : List ℕ) → a ++ (b ++ (c ++ (d ++ (e ++ end)))) ≡ (a ++ (b ++ (c ++ (d ++ (e ++ []))))) ++ end
    five a b c d e =
        ap (λ t. a ++ (b ++ (c ++ (d ++ t)))) (ap (λ t. t ++ end) (sym (append-nil e)))
        ∙ ap (λ t. a ++ (b ++ (c ++ t))) (sym (append_assoc d (e ++ []) end))
        ∙ ap (λ t. a ++ (b ++ t)) (sym (append_assoc c (d ++ (e ++ [])) end))
        ∙ ap (λ t. a ++ t) (sym (append_assoc b (c ++ (d ++ (e ++ []))) end))
        ∙ sym (append_assoc a (b ++ (c ++ (d ++ (e ++ [])))) end)

-- a code and what follows it in a line, before another end
pub same_code : (line : Line) (code end : List ℕ) → BeginsRefused line.words.now → message_text line ≡ codes "refused " ++ (code ++ (10 ∷ [])) → drop 8 line.words.now ++ rest_text line end ≡ code ++ end
same_code line code end begins says =
    let rest = drop 8 line.words.now in
    let words : line.words.now ≡ codes "refused " ++ rest = sym (take-append-drop 8 line.words.now) ∙ ap (λ t. t ++ rest) begins in
    let own : codes "refused " ++ (rest ++ rest_text line (10 ∷ [])) ≡ codes "refused " ++ (code ++ (10 ∷ [])) =
    sym (append_assoc (codes "refused ") rest (rest_text line (10 ∷ []))) ∙ ap (λ w. w ++ rest_text line (10 ∷ [])) (sym words) ∙ says in
    let after : rest ++ rest_text line (10 ∷ []) ≡ code ++ (10 ∷ []) = append_cancel_left (codes "refused ") _ _ own in
    let front : rest ++ rest_text line [] ≡ code =
    append_cancel_right _ _ (10 ∷ []) (append_assoc rest (rest_text line []) (10 ∷ []) ∙ ap (λ t. rest ++ t) (sym (split_rest line (10 ∷ []))) ∙ after) in
    ap (λ t. rest ++ t) (split_rest line end) ∙ sym (append_assoc rest (rest_text line []) end) ∙ ap (λ t. t ++ end) front

-- want of memory has no line of a refusal
pub memory_not_refused : (rest : List ℕ) → memory_line ≡ codes "refused " ++ rest → ⊥
memory_not_refused rest is =
    let apart : Some 70 ≡ Some 114 = ap (λ (text : List ℕ). slice_get text 0) is in
    let differ : 70 ≡ 114 = same_Some 70 114 apart in
    omega (arith, differ)

-- a sink to which a text was written, or a prefix before it failed
pub gets : {T E : Type 0} (r : Result T E) (failed : Bool) (old new : Option (List ℕ)) (text : List ℕ) → failed ≡ is_err r → OnOk r (Appends old new text) → OnErr r (WritesFront old new text) → Gets failed old new text
gets (Ok x) failed old new text is wrote front = subst (λ (b : Bool). Gets b old new text) (sym is) wrote
gets (Err e) failed old new text is wrote (n, few, w) = subst (λ (b : Bool). Gets b old new text) (sym is) (n, w)
