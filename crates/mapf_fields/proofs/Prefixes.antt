-- Texts that are written in parts.
use Rattle.std.proofs.Common.{◌≡◌, ℕ, List, [], ◌++◌, Option, Result, Ok, Err, OnErr, OnOk, length, take, drop, take-append-drop, append_assoc, append-nil, refl, sym, ap, ◌∙◌, subst, ◌≤◌, length-append, arith}
use Rattle.std.proofs.lemmas.List.{take_at}
use Rattle.std.specs.Result.{IsErr, IsErrAnd}
use Rattle.std.specs.Io.KnownBytes.{Appends}
use Rattle.std.proofs.KnownBytes.{Appends-trans, Appends-nil}
use Rattle.mapf_fields.specs.Pages.{Passes, WritesPrefix, WritesOrFails, PassesOrFails}

pub from_take : (a b : Option (List ℕ)) (t : List ℕ) (n : ℕ) → Appends a b (take n t) → WritesPrefix a b t
from_take a b t n w = record { prefix = take n t; rest = drop n t; same = sym (take-append-drop n t); wrote = w }

-- nothing was written, and the text is on the page
pub holds : (a : Option (List ℕ)) (held text : List ℕ) → Passes a a held (held ++ text) text
holds a held text = record { gone = []; same = refl; wrote = Appends-nil a }

-- the bytes on the page were written, and then the text
pub passes_all : (a b c : Option (List ℕ)) (held text : List ℕ) → Appends a b held → Appends b c text → Passes a c held [] text
passes_all a b c held text w v = record { gone = held ++ text; same = sym (append-nil (held ++ text)); wrote = Appends-trans a b c held text w v }

pub passes_trans : (a b c : Option (List ℕ)) (h i j t u : List ℕ) → Passes a b h i t → Passes b c i j u → Passes a c h j (t ++ u)
passes_trans a b c h i j t u p q = record {
  gone = p.gone ++ q.gone;
  same = sym (append_assoc h t u) ∙ ap (λ x. x ++ u) p.same ∙ append_assoc p.gone i u ∙ ap (λ x. p.gone ++ x) q.same ∙ sym (append_assoc p.gone q.gone j);
  wrote = Appends-trans a b c p.gone q.gone p.wrote q.wrote;
}

-- a prefix of the next text, and so of both
pub prefix_after : (a b c : Option (List ℕ)) (h i t u : List ℕ) → Passes a b h i t → WritesPrefix b c (i ++ u) → WritesPrefix a c (h ++ (t ++ u))
prefix_after a b c h i t u p w = record {
  prefix = p.gone ++ w.prefix;
  rest = w.rest;
  same = sym (append_assoc h t u) ∙ ap (λ x. x ++ u) p.same ∙ append_assoc p.gone i u ∙ ap (λ x. p.gone ++ x) w.same ∙ sym (append_assoc p.gone w.prefix w.rest);
  wrote = Appends-trans a b c p.gone w.prefix p.wrote w.wrote;
}

-- a prefix of the first text is one of both
pub prefix_before : (a b : Option (List ℕ)) (t u : List ℕ) → WritesPrefix a b t → WritesPrefix a b (t ++ u)
prefix_before a b t u w = record { prefix = w.prefix; rest = w.rest ++ u; same = ap (λ x. x ++ u) w.same ∙ append_assoc w.prefix w.rest u; wrote = w.wrote }

pub prefix_held : (a b : Option (List ℕ)) (h t u : List ℕ) → WritesPrefix a b (h ++ t) → WritesPrefix a b (h ++ (t ++ u))
prefix_held a b h t u w = subst (WritesPrefix a b) (append_assoc h t u) (prefix_before a b (h ++ t) u w)

-- the same where the first text is a word and digits
pub prefix_digits : (a b : Option (List ℕ)) (h word digits u : List ℕ) → WritesPrefix a b (h ++ (word ++ digits)) → WritesPrefix a b (h ++ (word ++ (digits ++ u)))
prefix_digits a b h word digits u w = subst (λ t. WritesPrefix a b (h ++ t)) (append_assoc word digits u) (prefix_held a b h (word ++ digits) u w)

-- a prefix of the next text after one of which all was written
pub prefix_next : (a b c : Option (List ℕ)) (t u : List ℕ) → Appends a b t → WritesPrefix b c u → WritesPrefix a c (t ++ u)
prefix_next a b c t u p w = record {
  prefix = t ++ w.prefix;
  rest = w.rest;
  same = ap (λ x. t ++ x) w.same ∙ sym (append_assoc t w.prefix w.rest);
  wrote = Appends-trans a b c t w.prefix p w.wrote;
}

-- the same for the result of the last of several calls
pub passes_then : {T E : Type 0} (r : Result T E) (a b c : Option (List ℕ)) (h i j t u : List ℕ) → Passes a b h i t → PassesOrFails b c i j u r → PassesOrFails a c h j (t ++ u) r
passes_then (Ok x) a b c h i j t u p q = passes_trans a b c h i j t u p q
passes_then (Err e) a b c h i j t u p w = prefix_after a b c h i t u p w

-- the same after a word and digits
pub digits_then : {T E : Type 0} (r : Result T E) (a b c : Option (List ℕ)) (h i j word digits u : List ℕ) → Passes a b h i (word ++ digits) → PassesOrFails b c i j u r → PassesOrFails a c h j (word ++ (digits ++ u)) r
digits_then r a b c h i j word digits u p q = subst (λ t. PassesOrFails a c h j t r) (append_assoc word digits u) (passes_then r a b c h i j (word ++ digits) u p q)

-- where a call failed
pub fails : {T E : Type 0} (Q : E → Type 0) (r : Result T E) (a b : Option (List ℕ)) (held left text : List ℕ) → IsErrAnd r Q → WritesPrefix a b (held ++ text) → PassesOrFails a b held left text r
fails Q (Ok x) a b held left text is w = absurd is
fails Q (Err e) a b held left text is w = w

-- a clause about Ok holds of each call that failed
pub no_end : {T E : Type 0} (P : Type 0) (r : Result T E) → IsErr r → OnOk r P
no_end P (Ok x) is = absurd cc
no_end P (Err e) is = tt

-- where the bytes on the page are written first
pub passes_unheld : {T E : Type 0} (r : Result T E) (a b c : Option (List ℕ)) (held left text : List ℕ) → Appends a b held → left ≡ [] → OnOk r (Appends b c text) → OnErr r ((n : ℕ) × (n ≤ length text) × Appends b c (take n text)) → PassesOrFails a c held left text r
passes_unheld (Ok x) a b c held left text w none v e = subst (λ l. Passes a c held l text) (sym none) (passes_all a b c held text w v)
passes_unheld (Err e) a b c held left text w none v n = prefix_next a b c held text w (from_take b c text n.0 n.2)

-- what `write_all` reports
pub written : {T E : Type 0} (r : Result T E) (a b : Option (List ℕ)) (text : List ℕ) → OnOk r (Appends a b text) → OnErr r ((n : ℕ) × (n ≤ length text) × Appends a b (take n text)) → WritesOrFails a b text r
written (Ok x) a b text w n = w
written (Err e) a b text w n = from_take a b text n.0 n.2

-- the same of a call that failed before the last
pub write_fails : {T E : Type 0} (Q : E → Type 0) (r : Result T E) (a b : Option (List ℕ)) (text : List ℕ) → IsErrAnd r Q → WritesPrefix a b text → WritesOrFails a b text r
write_fails Q (Ok x) a b text is w = absurd is
write_fails Q (Err e) a b text is w = w

-- where the last bytes on the page are written
pub finish : {T E : Type 0} (r : Result T E) (a b c : Option (List ℕ)) (left text : List ℕ) → Passes a b [] left text → WritesOrFails b c left r → WritesOrFails a c text r
finish (Ok x) a b c left text p w = subst (Appends a c) (sym p.same) (Appends-trans a b c p.gone left p.wrote w)
finish (Err e) a b c left text p w = subst (WritesPrefix a c) (sym p.same) (prefix_next a b c p.gone left p.wrote w)

-- the text was written
pub to_ok : {T E : Type 0} (r : Result T E) (a b : Option (List ℕ)) (text : List ℕ) (P : Type 0) → (Appends a b text → P) → WritesOrFails a b text r → OnOk r P
to_ok (Ok x) a b text P says w = says w
to_ok (Err e) a b text P says w = tt

-- or the first so many bytes of it
pub to_err : {T E : Type 0} (r : Result T E) (a b : Option (List ℕ)) (text : List ℕ) (P : Type 0) → ((n : ℕ) → n ≤ length text → Appends a b (take n text) → P) → WritesOrFails a b text r → OnErr r P
to_err (Ok x) a b text P says w = tt
to_err (Err e) a b text P says w = says (length w.prefix) (omega (arith, ap length w.same, length-append w.prefix w.rest))
    (subst (Appends a b) (sym (ap (take (length w.prefix)) w.same ∙ take_at w.prefix w.rest (length w.prefix) refl)) w.wrote)

-- a text of some kind was written
pub to_some : {T E : Type 0} (r : Result T E) (a b : Option (List ℕ)) (text : List ℕ) (P : List ℕ → Type 0) → P text → WritesOrFails a b text r → OnOk r ((t : List ℕ) × P t × Appends a b t)
to_some r a b text P is w = to_ok r a b text ((t : List ℕ) × P t × Appends a b t) (λ v. (text, is, v)) w

-- or the first so many bytes of it
pub to_take : {T E : Type 0} (r : Result T E) (a b : Option (List ℕ)) (text : List ℕ) (P : List ℕ → Type 0) → P text → WritesOrFails a b text r → OnErr r ((t : List ℕ) × P t × (n : ℕ) × (n ≤ length t) × Appends a b (take n t))
to_take r a b text P is w = to_err r a b text ((t : List ℕ) × P t × (n : ℕ) × (n ≤ length t) × Appends a b (take n t)) (λ n low v. (text, is, n, low, v)) w

-- where no room could be made for the text
pub fails_first : {T E : Type 0} (Q : E → Type 0) (r : Result T E) (a b : Option (List ℕ)) (held left text : List ℕ) → IsErrAnd r Q → WritesPrefix a b (held ++ []) → PassesOrFails a b held left text r
fails_first Q r a b held left text is w = fails Q r a b held left text is (prefix_held a b held [] text w)

-- where the first of two texts failed
pub fails_before : {T E : Type 0} (Q : E → Type 0) (r : Result T E) (a b : Option (List ℕ)) (held left t u : List ℕ) → IsErrAnd r Q → WritesPrefix a b (held ++ t) → PassesOrFails a b held left (t ++ u) r
fails_before Q r a b held left t u is w = fails Q r a b held left (t ++ u) is (prefix_held a b held t u w)

-- where the second of them failed
pub fails_after : {T E : Type 0} (Q : E → Type 0) (r : Result T E) (a b c : Option (List ℕ)) (held mid left t u : List ℕ) → IsErrAnd r Q → Passes a b held mid t → WritesPrefix b c (mid ++ u) → PassesOrFails a c held left (t ++ u) r
fails_after Q r a b c held mid left t u is p w = fails Q r a c held left (t ++ u) is (prefix_after a b c held mid t u p w)

-- where room was made on the page, the text is put there
pub then_pushed : (a b : Option (List ℕ)) (held mid left text : List ℕ) → Passes a b held mid [] → left ≡ mid ++ text → Passes a b held left text
then_pushed a b held mid left text p same = subst (λ l. Passes a b held l text) (sym same) (passes_trans a b b held mid (mid ++ text) [] text p (holds b mid text))

-- where the last bytes on the page are written, and some were on it before the text
pub finish_held : {T E : Type 0} (r : Result T E) (a b c : Option (List ℕ)) (held left text : List ℕ) → Passes a b held left text → WritesOrFails b c left r → WritesOrFails a c (held ++ text) r
finish_held (Ok x) a b c held left text p w = subst (Appends a c) (sym p.same) (Appends-trans a b c p.gone left p.wrote w)
finish_held (Err e) a b c held left text p w = subst (WritesPrefix a c) (sym p.same) (prefix_next a b c p.gone left p.wrote w)

-- the same of a text by another name
pub same_prefix : (a b : Option (List ℕ)) (held t u : List ℕ) → t ≡ u → WritesPrefix a b (held ++ t) → WritesPrefix a b (held ++ u)
same_prefix a b held t u same w = subst (λ x. WritesPrefix a b (held ++ x)) same w

pub same_passes : (a b : Option (List ℕ)) (held left t u : List ℕ) → t ≡ u → Passes a b held left t → Passes a b held left u
same_passes a b held left t u same p = subst (λ x. Passes a b held left x) same p

pub same_or : {T E : Type 0} (r : Result T E) (a b : Option (List ℕ)) (held left t u : List ℕ) → t ≡ u → PassesOrFails a b held left t r → PassesOrFails a b held left u r
same_or r a b held left t u same p = subst (λ x. PassesOrFails a b held left x r) same p

-- where the first part of a text failed, and the page was empty before
pub start_fails : {T E : Type 0} (Q : E → Type 0) (r : Result T E) (a b : Option (List ℕ)) (held t u : List ℕ) → IsErrAnd r Q → held ≡ [] → WritesPrefix a b (held ++ t) → WritesOrFails a b (t ++ u) r
start_fails Q r a b held t u is none w = write_fails Q r a b (t ++ u) is (prefix_before a b t u (subst (λ h. WritesPrefix a b (h ++ t)) none w))

-- where the next part failed
pub middle_fails : {T E : Type 0} (Q : E → Type 0) (r : Result T E) (a b c : Option (List ℕ)) (held mid t u v : List ℕ) → IsErrAnd r Q → held ≡ [] → Passes a b held mid t → WritesPrefix b c (mid ++ u) → WritesOrFails a c (t ++ (u ++ v)) r
middle_fails Q r a b c held mid t u v is none p w =
    write_fails Q r a c (t ++ (u ++ v)) is (subst (λ h. WritesPrefix a c (h ++ (t ++ (u ++ v)))) none (prefix_after a b c held mid t (u ++ v) p (prefix_held b c mid u v w)))

-- two parts, and then the last part with the bytes that are on the page
pub finish_last : {T E : Type 0} (r : Result T E) (a b c d : Option (List ℕ)) (held i j t u v : List ℕ) → held ≡ [] → Passes a b held i t → Passes b c i j u → WritesOrFails c d (j ++ v) r → WritesOrFails a d (t ++ (u ++ v)) r
finish_last (Ok x) a b c d held i j t u v none p q w =
    let both = passes_trans a b c held i j t u p q in
    subst (Appends a d) (sym (append_assoc both.gone j v) ∙ ap (λ x. x ++ v) (sym both.same) ∙ ap (λ h. (h ++ (t ++ u)) ++ v) none ∙ append_assoc t u v) (Appends-trans a c d both.gone (j ++ v) both.wrote w)
finish_last (Err e) a b c d held i j t u v none p q w =
    let both = passes_trans a b c held i j t u p q in
    subst (WritesPrefix a d) (sym (append_assoc both.gone j v) ∙ ap (λ x. x ++ v) (sym both.same) ∙ ap (λ h. (h ++ (t ++ u)) ++ v) none ∙ append_assoc t u v) (prefix_next a c d both.gone (j ++ v) both.wrote w)

pub same_finish : {T E : Type 0} (r : Result T E) (a b : Option (List ℕ)) (held t u : List ℕ) → t ≡ u → WritesOrFails a b (held ++ t) r → WritesOrFails a b (held ++ u) r
same_finish r a b held t u same w = subst (λ x. WritesOrFails a b (held ++ x) r) same w

pub same_text : {T E : Type 0} (r : Result T E) (a b : Option (List ℕ)) (t u : List ℕ) → t ≡ u → WritesOrFails a b t r → WritesOrFails a b u r
same_text r a b t u same w = subst (λ x. WritesOrFails a b x r) same w

-- where the page was empty before
pub passes_from_none : (a b : Option (List ℕ)) (held left t : List ℕ) → held ≡ [] → Passes a b held left t → Passes a b [] left t
passes_from_none a b held left t none p = subst (λ h. Passes a b h left t) none p

pub prefix_from_none : (a b : Option (List ℕ)) (held t : List ℕ) → held ≡ [] → WritesPrefix a b (held ++ t) → WritesPrefix a b t
prefix_from_none a b held t none w = subst (λ h. WritesPrefix a b (h ++ t)) none w
