-- Why a line isn't one that may come there, and what is taken from the buffer alone.
use Rattle.std.proofs.Common.{◌≡◌, ℕ, ◌≤◌, Bool, true, false, List, refl, [], ◌∷◌, ◌++◌, length, take, Option, sym, ap, subst, ◌∙◌, arith, inl, inr, append_assoc}
use Rattle.std.proofs.lemmas.List.{take-append-le}
use Rattle.mapf_fields.specs.Ends.{IsCut, lacks_end}
use Rattle.mapf_fields.proofs.Cuts.{has_end, has_end_soon}
use Rattle.mapf_fields.proofs.Plain.{same_front}
use Rattle.mapf_certificate.specs.declared.buffer.NoLine.{NoLine}
use Rattle.mapf_certificate.specs.declared.buffer.NoLine.TheVariants as stops
use Rattle.mapf_certificate.specs.declared.cert.LinesFault.{LinesFault}
use Rattle.mapf_certificate.specs.Buffered.{Buffered}
use Rattle.mapf_certificate.specs.Untouched.{HasLine}
use Rattle.mapf_certificate.specs.Window.{Window, Refuses, Fails, EndsEarly, IsOverlong, LacksLine, Reports}
use Rattle.mapf_certificate.proofs.Windows.{Fails-text}
use Rattle.mapf_lemma_texts.specs.declared.line.LemmaLine.{LemmaLine}
use Rattle.mapf_lemma_texts.specs.declared.sizes.LinePlace.{LinePlace}
use Rattle.mapf_lemma_texts.specs.Lines.{IsLine, words, width_of, line_text}
use Rattle.mapf_lemma_texts.specs.Beginnings.{BeginsWithLine}
use Rattle.mapf_lemma_texts.proofs.PlainLines.{plain_line}

refused_early : (place : LinePlace) (a b : Option (List ℕ)) (x y : Buffered) → EndsEarly a b x y → Refuses a b x (BeginsWithLine place)
refused_early place a b x y early = record {
  pulled = early.window.pulled;
  source = early.window.source;
  within = omega (arith, early.window.within);
  wrong = inr (
    early.ended,
    λ is.
        let all : y.bytes ≡ words (width_of place) is.value ++ (10 ∷ is.rest) = sym early.window.same ∙ is.spelled ∙ append_assoc (words (width_of place) is.value) (10 ∷ []) is.rest in
        has_end (words (width_of place) is.value) is.rest (sym (ap lacks_end all) ∙ early.lacking),
  );
}

refused_overlong : (place : LinePlace) (a b : Option (List ℕ)) (x y : Buffered) → IsOverlong a b x y → Refuses a b x (BeginsWithLine place)
refused_overlong place a b x y long = record {
  pulled = long.window.pulled;
  source = long.window.source;
  within = omega (arith, long.window.within);
  wrong = inl (λ more is.
      let word = words (width_of place) is.value in
      let all : y.bytes ++ more ≡ word ++ (10 ∷ is.rest) = ap (λ l. l ++ more) (sym long.window.same) ∙ is.spelled ∙ append_assoc word (10 ∷ []) is.rest in
      let many : 65 ≤ length y.bytes = omega (arith, long.many) in
      let short = (plain_line place is.value is.is).short in
      has_end_soon word is.rest 65 (omega arith) (ap (λ l. lacks_end (take 65 l)) (sym all) ∙ ap lacks_end (take-append-le 65 y.bytes more many) ∙ long.lacking));
}

-- the first line isn't one that may come there
pub refused_line : (place : LinePlace) (a b : Option (List ℕ)) (x y : Buffered) (line rest : List ℕ) → Window a b x y [] → IsCut y.bytes line rest → ((l : LemmaLine) → IsLine place l → line ≡ words (width_of place) l → ⊥)
    → Refuses a b x (BeginsWithLine place)
refused_line place a b x y line rest window found never = record {
  pulled = window.pulled;
  source = window.source;
  within = omega (arith, window.within);
  wrong = inl (λ more is.
      let front : line ++ (10 ∷ (rest ++ more)) ≡ words (width_of place) is.value ++ (10 ∷ is.rest) = sym (append_assoc line (10 ∷ rest) more) ∙ ap (λ l. l ++ more) (sym found.same) ∙ ap (λ l. l ++ more) (sym window.same) ∙ is.spelled ∙ append_assoc (words (width_of place) is.value) (10 ∷ []) is.rest in
      never is.value is.is (same_front line (words (width_of place) is.value) (rest ++ more) is.rest found.whole (plain_line place is.value is.is).ends front).0);
}

-- why there is no line is why there is none that may come there
pub lacking : (place : LinePlace) (a b : Option (List ℕ)) (failed : Bool) (x y : Buffered) (why : NoLine) (fault : LinesFault) → LacksLine a b failed x y why → Reports why fault → Fails a b failed x (BeginsWithLine place) fault
lacking place a b failed x y stops.Ended fault early is = Fails-text a b failed x (BeginsWithLine place) fault is early.0 (refused_early place a b x y early.1)
lacking place a b failed x y stops.Overlong fault long is = Fails-text a b failed x (BeginsWithLine place) fault is long.0 (refused_overlong place a b x y long.1)
lacking place a b failed x y stops.Device fault device is = subst (Fails a b failed x (BeginsWithLine place)) (sym is) device
lacking place a b failed x y stops.PastLimit fault more is = subst (Fails a b failed x (BeginsWithLine place)) (sym is) more

-- a text that begins with a line has one
pub line_there : (place : LinePlace) (line : LemmaLine) (x : Buffered) (rest : List ℕ) → IsLine place line → x.bytes ≡ line_text (width_of place) line ++ rest → HasLine x
line_there place line x rest is e = inl (by (lacks_end (take 65 x.bytes)) refl)
  where
    front : x.bytes ≡ words (width_of place) line ++ (10 ∷ rest)
    front = e ∙ append_assoc (words (width_of place) line) (10 ∷ []) rest

    by : (b : Bool) → lacks_end (take 65 x.bytes) ≡ b → lacks_end (take 65 x.bytes) ≡ false
    by false same = same
    by true same =
        let short = (plain_line place line is).short in
        absurd (has_end_soon (words (width_of place) line) rest 65 (omega arith) (ap (λ l. lacks_end (take 65 l)) (sym front) ∙ same))

-- what follows it is what follows the first line
pub rest_there : (place : LinePlace) (line : LemmaLine) (bytes first after rest : List ℕ) → IsLine place line → IsCut bytes first after → bytes ≡ line_text (width_of place) line ++ rest → after ≡ rest
rest_there place line bytes first after rest is found e =
    let word = words (width_of place) line in
    (same_front first word after rest found.whole (plain_line place line is).ends (sym found.same ∙ e ∙ append_assoc word (10 ∷ []) rest)).1
