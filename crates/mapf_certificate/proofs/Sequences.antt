-- Values that are spelled one after another.
use Rattle.std.proofs.Common.{◌≡◌, ℕ, ◌<◌, ◌≤◌, ◌-◌, List, [], ◌∷◌, ◌++◌, length, All, AllPairs, Option, Some, refl, sym, ap, subst, ◌∙◌, arith, append_assoc, length-append, get_or, slice_get, inl, inr}
use Rattle.std.specs.List.{flat_map}
use Rattle.std.proofs.lemmas.List.Elements.{All-head, All-tail, All-append, All-cons, All-nil}
use Rattle.std.proofs.lemmas.List.Quantifiers.{all_pairs_push}
use Rattle.std.proofs.lemmas.Bool.{cases_lt}
use Rattle.std.proofs.lemmas.Grind.{flat_map-append}
use Rattle.std.proofs.lemmas.List.{append-nil}
use Rattle.std.proofs.lemmas.Option.{get_or_from_slice_get, slice_get_within}
use Rattle.std.proofs.Math.ListN.{get_or-append}
use Rattle.std.proofs.Math.Seq.{get_or-append_seam}
use Rattle.mapf_certificate.specs.Bounded.{AreInOrder, AreSpelledApart, MayFollow}
use Rattle.mapf_certificate.specs.Buffered.{Buffered}
use Rattle.mapf_certificate.specs.Window.{Window, BeginsWith}
use Rattle.mapf_certificate.proofs.Windows.{Window-trans}
use Rattle.mapf_model.proofs.PlaceLemmas.{All-later}

module _ {A : Type 0} (Is : A → Type 0) (text : A → List ℕ) (spelled : AreSpelledApart A Is text) where
  first : (a b : A) (as' bs : List A) (s t : List ℕ) → All Is (a ∷ as') → All Is (b ∷ bs) → flat_map text (a ∷ as') ++ s ≡ flat_map text (b ∷ bs) ++ t → (a ≡ b) × (flat_map text as' ++ s ≡ flat_map text bs ++ t)
  first a b as' bs s t p q e = spelled.apart a b (flat_map text as' ++ s) (flat_map text bs ++ t) (All-head Is a as' p) (All-head Is b bs q)
      (sym (append_assoc (text a) (flat_map text as') s) ∙ e ∙ append_assoc (text b) (flat_map text bs) t)

  -- a list that begins another
  pub begun : (front all : List A) (s t : List ℕ) → All Is front → All Is all → length front ≤ length all → flat_map text front ++ s ≡ flat_map text all ++ t
      → (others : List A) × (all ≡ front ++ others) × (s ≡ flat_map text others ++ t)
  begun [] all s t p q h e = (all, refl, e)
  begun (a ∷ as') [] s t p q h e = absurd (omega arith)
  begun (a ∷ as') (b ∷ bs) s t p q h e =
      let (same, more) = first a b as' bs s t p q e in
      let (others, all, rest) = begun as' bs s t (All-tail Is a as' p) (All-tail Is b bs q) (omega arith) more in
      (others, ap (λ l. b ∷ l) all ∙ ap (λ (c : A). c ∷ (as' ++ others)) (sym same), rest)

  -- two lists of one length
  pub same_list : (xs ys : List A) (s t : List ℕ) → All Is xs → All Is ys → length xs ≡ length ys → flat_map text xs ++ s ≡ flat_map text ys ++ t → (xs ≡ ys) × (s ≡ t)
  same_list [] [] s t p q h e = (refl, e)
  same_list [] (y ∷ ys) s t p q h e = absurd (omega arith)
  same_list (x ∷ xs) [] s t p q h e = absurd (omega arith)
  same_list (x ∷ xs) (y ∷ ys) s t p q h e =
      let (same, more) = first x y xs ys s t p q e in
      let (rest, tail) = same_list xs ys s t (All-tail Is x xs p) (All-tail Is y ys q) (omega arith) more in
      (ap (λ (c : A). c ∷ xs) same ∙ ap (λ l. y ∷ l) rest, tail)

-- what follows a prefix of a list in order may follow it
pub follows : {A : Type 0} (Is : A → Type 0) (R : A → A → Type 0) (front others : List A) (x : A) → All Is (front ++ (x ∷ others)) → AllPairs R (front ++ (x ∷ others)) → MayFollow A Is R front x
follows {A = A} Is R front others x each rising = (
  All-head Is x others (All-later Is front (x ∷ others) each),
  λ k d inside.
      let all = front ++ (x ∷ others) in
      let here : R (get_or all k d) (get_or all (length front) d) = rising k (length front) d inside (omega (arith, length-append front (x ∷ others))) in
      let P : A → Type 0 = λ a. R a (get_or all (length front) d) in
      let Q : A → Type 0 = λ b. R (get_or front k d) b in
      subst Q (get_or-append_seam front x others d) (subst P (get_or-append front (x ∷ others) d k inside) here),
)

-- the values that were taken so far
pub record Taken (A : Type 0) (Is : A → Type 0) (R : A → A → Type 0) (values : List A) : Type 0 where
  pub each : All Is values
  pub rising : AllPairs R values

pub taken_more : (A : Type 0) (Is : A → Type 0) (R : A → A → Type 0) (values new : List A) (x : A) → Taken A Is R values → MayFollow A Is R values x → new ≡ values ++ (x ∷ []) → Taken A Is R new
taken_more A Is R values new x taken (is, after) grown = subst (Taken A Is R) (sym grown) (record {
  each = All-append Is values (x ∷ []) taken.each (All-cons Is x [] is (All-nil Is));
  rising = all_pairs_push R values x taken.rising after;
})

-- if fewer values were taken than the list has, the text goes on with one that may follow
pub goes_on : (A : Type 0) (Is : A → Type 0) (R : A → A → Type 0) (text : A → List ℕ) (spelled : AreSpelledApart A Is text) (count : ℕ) (values : List A) (more : List ℕ) → Taken A Is R values → length values < count
    → BeginsWith (List A) (AreInOrder A Is R count) (flat_map text) (flat_map text values ++ more) → BeginsWith A (MayFollow A Is R values) text more
goes_on A Is R text spelled count values more taken less begins = by (begun Is text spelled values begins.value more begins.rest taken.each begins.is.each (omega (arith, begins.is.many)) begins.spelled)
  where
    by : (others : List A) × (begins.value ≡ values ++ others) × (more ≡ flat_map text others ++ begins.rest) → BeginsWith A (MayFollow A Is R values) text more
    by ([], all, rest) = absurd (omega (arith, begins.is.many, ap length all, length-append values []))
    by (x ∷ others, all, rest) = record {
      value = x;
      is = follows Is R values others x (subst (All Is) all begins.is.each) (subst (AllPairs R) all begins.is.rising);
      rest = flat_map text others ++ begins.rest;
      spelled = rest ∙ append_assoc (text x) (flat_map text others) begins.rest;
    }

-- in a list in order the last decides, of what holds of all before those that it holds of
pub last_decides : {A : Type 0} (R : A → A → Type 0) (P : A → Type 0) (xs : List A) (l : A) → ((a b : A) → R a b → P b → P a) → AllPairs R xs → slice_get xs (length xs - 1) ≡ Some l → (P l → All P xs) × (All P xs → P l)
last_decides {A = A} R P xs l closed rising e = (
  λ h k d inside. elim (cases_lt k (length xs - 1)) [
    | inl before ↦ closed _ _ (rising k (length xs - 1) d before (omega arith)) (subst P (sym (get_or_from_slice_get xs (length xs - 1) l d e)) h)
    | inr last ↦
        let same : length xs - 1 ≡ k = omega arith in
        let Q : ℕ → Type 0 = λ n. P (get_or xs n d) in
        subst Q same (subst P (sym (get_or_from_slice_get xs (length xs - 1) l d e)) h)
  ],
  λ all. subst P (get_or_from_slice_get xs (length xs - 1) l l e) (all (length xs - 1) l (slice_get_within xs (length xs - 1) l e)),
)

-- one more value was taken
pub window_more : {A : Type 0} (text : A → List ℕ) (a b c : Option (List ℕ)) (x y z : Buffered) (values new : List A) (v : A) → Window a b x y (flat_map text values) → Window b c y z (text v) → new ≡ values ++ (v ∷ []) → Window a c x z (flat_map text new)
window_more text a b c x y z values new v first second grown =
    let same : flat_map text values ++ text v ≡ flat_map text new = ap (λ l. flat_map text values ++ l) (sym (append-nil (text v))) ∙ sym (flat_map-append text values (v ∷ [])) ∙ ap (flat_map text) (sym grown) in
    subst (Window a c x z) same (Window-trans a b c x y z (flat_map text values) (text v) first second)
