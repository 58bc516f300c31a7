-- What is taken from the buffer alone.
use Rattle.std.proofs.Common.{◌≡◌, ℕ, ◌≤◌, inl, inr, Bool, true, false, List, [], ◌∷◌, ◌++◌, length, take, refl, sym, ap, subst, ◌∙◌, arith, append_assoc}
use Rattle.std.specs.List.{flat_map}
use Rattle.std.proofs.lemmas.Grind.{flat_map-append}
use Rattle.std.proofs.lemmas.List.{append-nil, take_all}
use Rattle.mapf_fields.specs.Ends.{IsCut, lacks_end}
use Rattle.mapf_fields.proofs.Cuts.{has_end_soon}
use Rattle.mapf_fields.proofs.Plain.{same_front}
use Rattle.mapf_certificate.specs.declared.line.CertLine.{CertLine}
use Rattle.mapf_certificate.specs.declared.tree_line.Due.{Due}
use Rattle.mapf_certificate.specs.Buffered.{Buffered}
use Rattle.mapf_certificate.specs.Certificates.{line_text}
use Rattle.mapf_certificate.specs.Lines.{IsLine, width_of, words}
use Rattle.mapf_certificate.specs.Untouched.{HasLine, TakesThere}
use Rattle.mapf_certificate.proofs.PlainLines.{plain_line}

lacks_line : (x : Buffered) → lacks_end (take 65 x.bytes) ≡ true → length x.bytes ≤ 64 → HasLine x → ⊥
lacks_line x lacks short (inl found) = cc
lacks_line x lacks short (inr long) = absurd (omega arith)

-- no line is there where none was found and more may be kept
pub no_line_there : (x y : Buffered) (front : List ℕ) (n : ℕ) → front ≡ take n y.bytes → length y.bytes ≤ n → length y.bytes ≤ 64 → lacks_end (take 65 front) ≡ true → y ≡ x → HasLine x → ⊥
no_line_there x y front n is whole short lacks same has =
    lacks_line y (ap (λ l. lacks_end (take 65 l)) (sym (is ∙ take_all n y.bytes whole)) ∙ lacks) short (subst HasLine (sym same) has)

-- a text that begins with a line has one
pub line_there : (due : Due) (line : CertLine) (x : Buffered) (rest : List ℕ) → IsLine due line → x.bytes ≡ line_text (width_of due) line ++ rest → HasLine x
line_there due line x rest is e = inl (by (lacks_end (take 65 x.bytes)) refl)
  where
    front : x.bytes ≡ words (width_of due) line ++ (10 ∷ rest)
    front = e ∙ append_assoc (words (width_of due) line) (10 ∷ []) rest

    by : (b : Bool) → lacks_end (take 65 x.bytes) ≡ b → lacks_end (take 65 x.bytes) ≡ false
    by false same = same
    by true same =
        let short = (plain_line due line is).short in
        absurd (has_end_soon (words (width_of due) line) rest 65 (omega arith) (ap (λ l. lacks_end (take 65 l)) (sym front) ∙ same))

-- what follows it is what follows the first line
pub rest_there : (due : Due) (line : CertLine) (bytes first after rest : List ℕ) → IsLine due line → IsCut bytes first after → bytes ≡ line_text (width_of due) line ++ rest → after ≡ rest
rest_there due line bytes first after rest is found e =
    let word = words (width_of due) line in
    (same_front first word after rest found.whole (plain_line due line is).ends (sym found.same ∙ e ∙ append_assoc word (10 ∷ []) rest)).1

-- two texts, one after the other
pub there-trans : {S : Type 0} (s0 s1 s2 : S) (x y z : Buffered) (t u : List ℕ) → TakesThere s0 s1 x y t → TakesThere s1 s2 y z u → TakesThere s0 s2 x z (t ++ u)
there-trans s0 s1 s2 x y z t u first second = λ rest e.
    let (one, mid) = first (u ++ rest) (e ∙ append_assoc t u rest) in
    let (two, last) = second rest (ap (λ b. b.bytes) mid) in
    (two ∙ one, last ∙ ap (λ b. let r : Buffered = record { bytes = rest; left = b.left } in r) mid)

-- one more value's text
pub there-more : {S A : Type 0} (text : A → List ℕ) (s0 s1 s2 : S) (x y z : Buffered) (values : List A) (value : A) → TakesThere s0 s1 x y (flat_map text values) → TakesThere s1 s2 y z (text value) → TakesThere s0 s2 x z (flat_map text (values ++ (value ∷ [])))
there-more text s0 s1 s2 x y z values value first second =
    let same : flat_map text (values ++ (value ∷ [])) ≡ flat_map text values ++ text value = flat_map-append text values (value ∷ []) ∙ ap (λ l. flat_map text values ++ l) (append-nil (text value)) in
    subst (TakesThere s0 s2 x z) (sym same) (there-trans s0 s1 s2 x y z (flat_map text values) (text value) first second)
