-- Why a line isn't one of the expected kind.
use Rattle.std.proofs.Common.{◌≡◌, ℕ, ◌<◌, ◌≤◌, ◌+◌, Bool, true, List, [], ◌∷◌, ◌++◌, length, take, drop, Option, Some, None, MatchOption, IfNone, min, sym, ap, subst, ◌∙◌, arith, inl, inr, append_assoc}
use Rattle.std.specs.Io.KnownBytes.{IsAtEnd}
use Rattle.std.proofs.lemmas.Bool.{cases_lt}
use Rattle.std.proofs.lemmas.List.{take-append-le, take_all}
use Rattle.mapf_fields.specs.Ends.{IsCut, lacks_end}
use Rattle.mapf_fields.proofs.Cuts.{has_end, has_end_soon}
use Rattle.mapf_fields.proofs.Plain.{same_front}
use Rattle.mapf_certificate.specs.declared.buffer.NoLine.{NoLine}
use Rattle.mapf_certificate.specs.declared.buffer.NoLine.TheVariants as stops
use Rattle.mapf_certificate.specs.declared.cert.LinesFault.{LinesFault}
use Rattle.mapf_certificate.specs.declared.line.CertLine.{CertLine}
use Rattle.mapf_certificate.specs.declared.tree_line.Due.{Due}
use Rattle.mapf_certificate.specs.Buffered.{Buffered}
use Rattle.mapf_certificate.specs.Lines.{IsLine, words, width_of}
use Rattle.mapf_certificate.specs.Window.{Window, Refuses, Fails, EndsEarly, IsOverlong, LacksLine, LacksBytes, Reports}
use Rattle.mapf_certificate.specs.Bounded.{BeginsWithLine}
use Rattle.mapf_certificate.proofs.PlainLines.{plain_line}
use Rattle.mapf_certificate.proofs.Windows.{Fails-text, Window-trans, ComesWithin-after, Exceeds-after}

pub refused_early : (due : Due) (a b : Option (List ℕ)) (x y : Buffered) → EndsEarly a b x y → Refuses a b x (BeginsWithLine due)
refused_early due a b x y early = record {
  pulled = early.window.pulled;
  source = early.window.source;
  within = omega (arith, early.window.within);
  wrong = inr (
    early.ended,
    λ is.
        let all : y.bytes ≡ words (width_of due) is.value ++ (10 ∷ is.rest) = sym early.window.same ∙ is.spelled ∙ append_assoc (words (width_of due) is.value) (10 ∷ []) is.rest in
        has_end (words (width_of due) is.value) is.rest (sym (ap lacks_end all) ∙ early.lacking),
  );
}

pub refused_overlong : (due : Due) (a b : Option (List ℕ)) (x y : Buffered) → IsOverlong a b x y → Refuses a b x (BeginsWithLine due)
refused_overlong due a b x y long = record {
  pulled = long.window.pulled;
  source = long.window.source;
  within = omega (arith, long.window.within);
  wrong = inl (λ more is.
      let word = words (width_of due) is.value in
      let all : y.bytes ++ more ≡ word ++ (10 ∷ is.rest) = ap (λ l. l ++ more) (sym long.window.same) ∙ is.spelled ∙ append_assoc word (10 ∷ []) is.rest in
      let many : 65 ≤ length y.bytes = omega (arith, long.many) in
      let short = (plain_line due is.value is.is).short in
      has_end_soon word is.rest 65 (omega arith) (ap (λ l. lacks_end (take 65 l)) (sym all) ∙ ap lacks_end (take-append-le 65 y.bytes more many) ∙ long.lacking));
}

-- the first line isn't of the expected kind
pub refused_line : (due : Due) (a b : Option (List ℕ)) (x y : Buffered) (line rest : List ℕ) → Window a b x y [] → IsCut y.bytes line rest → ((l : CertLine) → IsLine due l → line ≡ words (width_of due) l → ⊥) → Refuses a b x (BeginsWithLine due)
refused_line due a b x y line rest window found never = record {
  pulled = window.pulled;
  source = window.source;
  within = omega (arith, window.within);
  wrong = inl (λ more is.
      let front : line ++ (10 ∷ (rest ++ more)) ≡ words (width_of due) is.value ++ (10 ∷ is.rest) = sym (append_assoc line (10 ∷ rest) more) ∙ ap (λ l. l ++ more) (sym found.same) ∙ ap (λ l. l ++ more) (sym window.same) ∙ is.spelled ∙ append_assoc (words (width_of due) is.value) (10 ∷ []) is.rest in
      never is.value is.is (same_front line (words (width_of due) is.value) (rest ++ more) is.rest found.whole (plain_line due is.value is.is).ends front).0);
}

pub early : (a b c : Option (List ℕ)) (x y z : Buffered) → Window a b x y [] → Window b c y z [] → IsAtEnd c → z.bytes ≡ y.bytes → length y.bytes ≤ 64 → (front : List ℕ) → front ≡ y.bytes → lacks_end (take 65 front) ≡ true → EndsEarly a c x z
early a b c x y z first second ended same short front is lacks = record {
  window = Window-trans a b c x y z [] [] first second;
  ended = ended;
  lacking = ap lacks_end (same ∙ sym (take_all 65 y.bytes (omega arith))) ∙ ap (λ l. lacks_end (take 65 l)) (sym is) ∙ lacks;
}

pub stopped : (a b c : Option (List ℕ)) (failed : Bool) (x y z : Buffered) (why : NoLine) → Window a b x y [] → LacksBytes b c failed y why → LacksLine a c failed x z why
stopped a b c failed x y z stops.Ended first lacks = absurd lacks
stopped a b c failed x y z stops.Overlong first lacks = absurd lacks
stopped a b c failed x y z stops.Device first lacks = (lacks.0, ComesWithin-after a b c x y [] first lacks.1)
stopped a b c failed x y z stops.PastLimit first lacks = (lacks.0, Exceeds-after a b c x y [] first lacks.1)

-- why there is no line is why there is none of the expected kind
pub lacking : (due : Due) (a b : Option (List ℕ)) (failed : Bool) (x y : Buffered) (why : NoLine) (fault : LinesFault) → LacksLine a b failed x y why → Reports why fault → Fails a b failed x (BeginsWithLine due) fault
lacking due a b failed x y stops.Ended fault early is = Fails-text a b failed x (BeginsWithLine due) fault is early.0 (refused_early due a b x y early.1)
lacking due a b failed x y stops.Overlong fault long is = Fails-text a b failed x (BeginsWithLine due) fault is long.0 (refused_overlong due a b x y long.1)
lacking due a b failed x y stops.Device fault device is = subst (Fails a b failed x (BeginsWithLine due)) (sym is) device
lacking due a b failed x y stops.PastLimit fault more is = subst (Fails a b failed x (BeginsWithLine due)) (sym is) more

front_is : (bs : List ℕ) (m : ℕ) → m ≡ min (length bs) 65 → take 65 bs ≡ take m bs
front_is bs m e = elim (cases_lt 65 (length bs)) [
  | inl more ↦ ap (λ k. take k bs) (let same : 65 ≡ m = omega arith in same)
  | inr few ↦ take_all 65 bs few ∙ sym (take_all m bs (omega arith))
]

pub no_place : (bs : List ℕ) (m : ℕ) (r : Option ℕ) → m ≡ min (length bs) 65 → MatchOption r (lacks_end (take m bs) ≡ true) (λ n. (n < length (take m bs)) × IsCut (take m bs) (take n (take m bs)) (drop (n + 1) (take m bs)))
    → IfNone r (lacks_end (take 65 bs) ≡ true)
no_place bs m None e h = ap lacks_end (front_is bs m e) ∙ h
no_place bs m (Some n) e h = tt
