-- The header of a certificate of version 3.
use Rattle.std.proofs.Common.{◌≡◌, ℕ, Bool, List, ◌++◌, Option, Some, refl, sym, ap, subst, ◌∙◌, append_assoc}
use Rattle.std.proofs.lemmas.Option.{same_Some}
use Rattle.mapf_certificate.specs.declared.cert.LinesFault.{LinesFault}
use Rattle.mapf_certificate.specs.Buffered.{Buffered}
use Rattle.mapf_certificate.specs.Window.{Window, BeginsWith, Fails, IsNoTextFault}
use Rattle.mapf_certificate.proofs.Windows.{Window-trans, Window-known, Fails-after, Fails-weaker, Fails-not}
use Rattle.mapf_lemma_texts.specs.declared.due.Due.{Due}
use Rattle.mapf_lemma_texts.specs.declared.line.LemmaLine.{LemmaLine}
use Rattle.mapf_lemma_texts.specs.declared.line.LemmaLine.TheVariants as lines
use Rattle.mapf_lemma_texts.specs.declared.part.Part.{Part}
use Rattle.mapf_lemma_texts.specs.declared.sizes.LinePlace.{LinePlace}
use Rattle.mapf_lemma_texts.specs.declared.sizes.LinePlace.TheVariants as places
use Rattle.mapf_lemma_texts.specs.declared.sizes.LineSizes.{LineSizes}
use Rattle.mapf_lemma_texts.specs.Lines.{IsLine, line_text, width_of}
use Rattle.mapf_lemma_texts.specs.PartReading.{AreFirstSizes, AwaitsParts, AwaitsText, HasHeader, IsRest, PartReading, header_text}
use Rattle.mapf_lemma_texts.specs.Ranges.{IsOneTo}
use Rattle.mapf_lemma_texts.proofs.PartReadings.{sizes_same}
use Rattle.mapf_lemma_texts.proofs.PlainLines.{same_line}
use Rattle.mapf_lemma_texts.proofs.SizesLaws.{same_sizes}
use Rattle.mapf_model.specs.Limits.{most_agents}
use Rattle.mapf_model.specs.Printed.{IsClaimInRange}
use Rattle.mapf_model.specs.declared.item.Claim.{Claim}
use Rattle.mapf_model.specs.declared.item.Claim.TheVariants as claims

-- only a claim's line could hang on the width, and it doesn't
claim_words : (width : ℕ) (claim : Claim) → line_text width (lines.Claim claim) ≡ line_text 1 (lines.Claim claim)
claim_words width (claims.Cost cost) = refl
claim_words width (claims.Bound bound) = refl
claim_words width claims.Impossible = refl

-- bytes begin with a line that may come there
abbrev Begins : LinePlace → List ℕ → Type 0
Begins place = BeginsWith LemmaLine (IsLine place) (line_text (width_of place))

-- the last two lines of a header
record Counted (bytes : List ℕ) : Type 0 where
  agents : ℕ
  claim : Claim
  agents_in_range : IsOneTo most_agents agents
  claim_in_range : IsClaimInRange claim
  rest : List ℕ
  spelled : bytes ≡ line_text 1 (lines.Agents agents) ++ (line_text 1 (lines.Claim claim) ++ rest)

header_cut : (width agents : ℕ) (claim : Claim) (s : List ℕ) → header_text width agents claim ++ s ≡ line_text 1 lines.Title ++ (line_text 1 (lines.Agents agents) ++ (line_text 1 (lines.Claim claim) ++ s))
header_cut width agents claim s =
    append_assoc (line_text 1 lines.Title) (line_text 1 (lines.Agents agents) ++ line_text width (lines.Claim claim)) s
    ∙ ap (λ l. line_text 1 lines.Title ++ l) (append_assoc (line_text 1 (lines.Agents agents)) (line_text width (lines.Claim claim)) s)
    ∙ ap (λ l. line_text 1 lines.Title ++ (line_text 1 (lines.Agents agents) ++ (l ++ s))) (claim_words width claim)

title_next : (width : ℕ) (t : List ℕ) → HasHeader width t → Begins places.Title t
title_next width t has = record {
  value = lines.Title;
  is = tt;
  rest = line_text 1 (lines.Agents has.value.0) ++ (line_text 1 (lines.Claim has.value.1) ++ has.rest);
  spelled = has.spelled ∙ header_cut width has.value.0 has.value.1 has.rest;
}

after_title : (width : ℕ) (first : LemmaLine) (more : List ℕ) → first ≡ lines.Title → HasHeader width (line_text 1 first ++ more) → Counted more
after_title width first more is has =
    let rest = line_text 1 (lines.Agents has.value.0) ++ (line_text 1 (lines.Claim has.value.1) ++ has.rest) in
    let spelled : line_text 1 lines.Title ++ more ≡ line_text 1 lines.Title ++ rest = ap (λ l. line_text 1 l ++ more) (sym is) ∙ has.spelled ∙ header_cut width has.value.0 has.value.1 has.rest in
    let (same, tail) = same_line places.Title lines.Title lines.Title more rest tt tt spelled in
    record { agents = has.value.0; claim = has.value.1; agents_in_range = has.is.0; claim_in_range = has.is.1; rest = has.rest; spelled = tail }

agents_next : (t : List ℕ) → Counted t → Begins places.Agents t
agents_next t counted = record { value = lines.Agents counted.agents; is = counted.agents_in_range; rest = line_text 1 (lines.Claim counted.claim) ++ counted.rest; spelled = counted.spelled }

after_agents : (line : LemmaLine) (more : List ℕ) → IsLine places.Agents line → Counted (line_text 1 line ++ more) → Begins places.Claim more
after_agents line more is counted =
    let rest = line_text 1 (lines.Claim counted.claim) ++ counted.rest in
    let (same, tail) = same_line places.Agents line (lines.Agents counted.agents) more rest is counted.agents_in_range counted.spelled in
    record { value = lines.Claim counted.claim; is = counted.claim_in_range; rest = counted.rest; spelled = tail }

pub fails_in_title : (width : ℕ) (had left : Option (List ℕ)) (failed : Bool) (x : Buffered) (fault : LinesFault) → Fails had left failed x (Begins places.Title) fault → Fails had left failed x (HasHeader width) fault
fails_in_title width had left failed x fault fails = Fails-weaker had left failed x (HasHeader width) (Begins places.Title) fault (title_next width) fails

pub fails_in_agents : (width : ℕ) (had mid left : Option (List ℕ)) (failed : Bool) (x y : Buffered) (first : LemmaLine) (fault : LinesFault) → first ≡ lines.Title → Window had mid x y (line_text 1 first)
    → Fails mid left failed y (Begins places.Agents) fault → Fails had left failed x (HasHeader width) fault
fails_in_agents width had mid left failed x y first fault is window fails =
    Fails-after had mid left failed x y (line_text 1 first) (HasHeader width) (Begins places.Agents) fault window (λ more has. agents_next more (after_title width first more is has)) fails

pub fails_in_claim : (width : ℕ) (had one mid left : Option (List ℕ)) (failed : Bool) (x y z : Buffered) (first second : LemmaLine) (fault : LinesFault) → first ≡ lines.Title → IsLine places.Agents second
    → Window had one x y (line_text 1 first) → Window one mid y z (line_text 1 second) → Fails mid left failed z (Begins places.Claim) fault → Fails had left failed x (HasHeader width) fault
fails_in_claim width had one mid left failed x y z first second fault is_first is_second window more fails =
    Fails-after had one left failed x y (line_text 1 first) (HasHeader width) Counted fault window (λ t has. after_title width first t is_first has)
    (Fails-after one mid left failed y z (line_text 1 second) Counted (Begins places.Claim) fault more (λ t counted. after_agents second t is_second counted) fails)

pub header_window : (width : ℕ) (had one mid left : Option (List ℕ)) (x y z w : Buffered) (first second third : LemmaLine) (agents : ℕ) (claim : Claim) → Window had one x y (line_text 1 first) → Window one mid y z (line_text 1 second) → Window mid left z w (line_text 1 third)
    → first ≡ lines.Title → second ≡ lines.Agents agents → third ≡ lines.Claim claim → Window had left x w (header_text width agents claim)
header_window width had one mid left x y z w first second third agents claim p q r is_first is_second is_third =
    let last : line_text 1 third ≡ line_text width (lines.Claim claim) = ap (line_text 1) is_third ∙ sym (claim_words width claim) in
    let three : line_text 1 first ++ (line_text 1 second ++ line_text 1 third) ≡ header_text width agents claim =
    ap (λ l. line_text 1 first ++ (line_text 1 second ++ l)) last ∙ ap (λ l. line_text 1 first ++ (line_text 1 l ++ line_text width (lines.Claim claim))) is_second ∙ ap (λ l. line_text 1 l ++ (line_text 1 (lines.Agents agents) ++ line_text width (lines.Claim claim))) is_first in
    subst (Window had left x w) three (Window-trans had one left x y w (line_text 1 first) (line_text 1 second ++ line_text 1 third) p (Window-trans one mid left y z w (line_text 1 second) (line_text 1 third) q r))

agents_are : (a b : ℕ) → lines.Agents a ≡ lines.Agents b → a ≡ b
agents_are a b e = cc

claim_is : (a b : Claim) → lines.Claim a ≡ lines.Claim b → a ≡ b
claim_is a b e = cc

-- two texts that begin with a header, and of which one begins the other, begin with the same header
pub same_header : (width agents agents' : ℕ) (claim claim' : Claim) (s t : List ℕ) → IsOneTo most_agents agents → IsOneTo most_agents agents' → IsClaimInRange claim → IsClaimInRange claim' → header_text width agents claim ++ s ≡ header_text width agents' claim' ++ t
    → (agents ≡ agents') × (claim ≡ claim') × (s ≡ t)
same_header width agents agents' claim claim' s t p q r u e =
    let first = line_text 1 (lines.Agents agents) ++ (line_text 1 (lines.Claim claim) ++ s) in
    let second = line_text 1 (lines.Agents agents') ++ (line_text 1 (lines.Claim claim') ++ t) in
    let (titles, tail) = same_line places.Title lines.Title lines.Title first second tt tt (sym (header_cut width agents claim s) ∙ e ∙ header_cut width agents' claim' t) in
    let (counts, more) = same_line places.Agents (lines.Agents agents) (lines.Agents agents') (line_text 1 (lines.Claim claim) ++ s) (line_text 1 (lines.Claim claim') ++ t) p q tail in
    let (says, rest) = same_line places.Claim (lines.Claim claim) (lines.Claim claim') s t r u more in
    (agents_are agents agents' counts, claim_is claim claim' says, rest)

-- what follows a header makes a certificate with it
pub header_joins : (had left : Option (List ℕ)) (old new : PartReading) (agents : ℕ) (claim : Claim) (sizes : LineSizes) → IsOneTo most_agents agents → IsClaimInRange claim → AreFirstSizes old.width old.height agents sizes → new.header ≡ Some (sizes, claim) → new.due ≡ old.due
    → Window had left old.buffer new.buffer (header_text old.width agents claim) → (bytes : List ℕ) → had ≡ Some bytes → (ps : List Part) → AwaitsParts left new ps → AwaitsText had old agents claim ps
header_joins had left old new agents claim sizes few ranged sized header due window bytes known ps awaits =
    let text = header_text old.width agents claim in
    let (rest, kept, same, many) = Window-known had left old.buffer new.buffer text bytes window known in
    let one : awaits.bytes ≡ rest = same_Some awaits.bytes rest (sym awaits.known ∙ kept) in
    let after = new.buffer.bytes ++ awaits.bytes in
    let same_sized = sizes_same new.header awaits.sizes sizes awaits.claim claim awaits.header header in
    let moved = subst (λ (d : Due). IsRest sizes d ps after) due (subst (λ (s : LineSizes). IsRest s new.due ps after) same_sized awaits.rest) in
    record {
      bytes = bytes;
      known = known;
      text = record {
        agents_in_range = few;
        claim_in_range = ranged;
        sizes = sizes;
        first_sizes = sized;
        after = after;
        spelled = same ∙ ap (λ l. text ++ (new.buffer.bytes ++ l)) (sym one);
        rest = moved;
      };
    }

-- first sizes of the same numbers are the same
pub first_same : (width height agents agents' : ℕ) (a b : LineSizes) → agents ≡ agents' → AreFirstSizes width height agents a → AreFirstSizes width height agents' b → a ≡ b
first_same width height agents agents' a b same p q =
    same_sizes a b (p.width_is ∙ sym q.width_is) (p.height_is ∙ sym q.height_is) (p.agents_are ∙ same ∙ sym q.agents_are) (p.no_lists ∙ sym q.no_lists)

-- the header that was read is the one that came
pub header_same : (had left : Option (List ℕ)) (old new : PartReading) (agents due : ℕ) (claim says : Claim) (sizes : LineSizes) (ps : List Part) → IsOneTo most_agents agents → IsClaimInRange claim → AreFirstSizes old.width old.height agents sizes → new.header ≡ Some (sizes, claim) → new.due ≡ old.due
    → Window had left old.buffer new.buffer (header_text old.width agents claim) → AwaitsText had old due says ps → (agents ≡ due) × (claim ≡ says) × AwaitsParts left new ps
header_same had left old new agents due claim says sizes ps few ranged sized header next window awaits =
    let (rest, kept, same, many) = Window-known had left old.buffer new.buffer (header_text old.width agents claim) awaits.bytes window awaits.known in
    let text = awaits.text in
    let (one, two, tail) = same_header old.width agents due claim says (new.buffer.bytes ++ rest) text.after few text.agents_in_range ranged text.claim_in_range (sym same ∙ text.spelled) in
    let sizes_are = first_same old.width old.height due agents text.sizes sizes (sym one) text.first_sizes sized in
    let moved = subst (λ (d : Due). IsRest sizes d ps text.after) (sym next) (subst (λ (s : LineSizes). IsRest s old.due ps text.after) sizes_are text.rest) in
    (one, two, record { sizes = sizes; claim = claim; header = header; bytes = rest; known = kept; rest = subst (IsRest sizes new.due ps) (sym tail) moved })

-- a certificate that is awaited isn't refused
pub header_awaited : (had left : Option (List ℕ)) (failed : Bool) (r : PartReading) (agents : ℕ) (claim : Claim) (ps : List Part) (fault : LinesFault) → AwaitsText had r agents claim ps → Fails had left failed r.buffer (HasHeader r.width) fault → IsNoTextFault fault
header_awaited had left failed r agents claim ps fault awaits fails =
    let text = awaits.text in
    Fails-not had left failed r.buffer (HasHeader r.width) fault awaits.bytes fails awaits.known (record { value = (agents, claim); is = (text.agents_in_range, text.claim_in_range); rest = text.after; spelled = text.spelled })
