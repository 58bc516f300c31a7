-- The header of a certificate.
use Rattle.std.proofs.Common.{◌≡◌, ℕ, Bool, List, ◌++◌, Option, Some, refl, sym, ap, subst, ◌∙◌, append_assoc}
use Rattle.mapf_model.specs.declared.item.Claim.{Claim}
use Rattle.mapf_model.specs.declared.item.Claim.TheVariants as claims
use Rattle.mapf_model.specs.Grid.{GridMap}
use Rattle.mapf_model.specs.Tree.{Node}
use Rattle.mapf_certificate.specs.declared.version.Version.{Version}
use Rattle.mapf_certificate.specs.declared.cert.LinesFault.{LinesFault}
use Rattle.mapf_certificate.specs.declared.line.CertLine.{CertLine}
use Rattle.mapf_certificate.specs.declared.line.CertLine.TheVariants as lines
use Rattle.mapf_certificate.specs.declared.tree_line.Due.TheVariants as dues
use Rattle.mapf_certificate.specs.Buffered.{Buffered}
use Rattle.mapf_certificate.specs.Lines.{IsLine, IsAgentCount, IsCertClaim}
use Rattle.mapf_certificate.specs.Certificates.{line_text, header_text, IsRest}
use Rattle.mapf_certificate.specs.Reading.{Reading, grid_at, agents_at}
use Rattle.mapf_certificate.specs.CertReading.{HasHeader, Awaits, AwaitsCert}
use Rattle.mapf_certificate.specs.Untouched.{TakesThere}
use Rattle.mapf_certificate.specs.Window.{Window, Fails, IsNoTextFault}
use Rattle.mapf_certificate.specs.Bounded.{BeginsWithLine}
use Rattle.mapf_certificate.proofs.PlainLines.{same_line}
use Rattle.mapf_certificate.proofs.TakenThere.{there-trans}
use Rattle.mapf_certificate.proofs.Windows.{Window-trans, Window-known, Fails-after, Fails-weaker, Fails-not}
use Rattle.std.proofs.lemmas.Option.{same_Some}

-- only a claim's line could hang on the width, and it doesn't
claim_words : (width : ℕ) (claim : Claim) → line_text width (lines.Claim claim) ≡ line_text 1 (lines.Claim claim)
claim_words width (claims.Cost cost) = refl
claim_words width (claims.Bound bound) = refl
claim_words width claims.Impossible = refl

-- the last two lines of a header of this version
record Counted (version : Version) (bytes : List ℕ) : Type 0 where
  agents : ℕ
  claim : Claim
  agents_in_range : IsAgentCount agents
  claim_in_range : IsCertClaim version claim
  rest : List ℕ
  spelled : bytes ≡ line_text 1 (lines.Agents agents) ++ (line_text 1 (lines.Claim claim) ++ rest)

header_cut : (version : Version) (width agents : ℕ) (claim : Claim) (s : List ℕ) → header_text version width agents claim ++ s ≡ line_text 1 (lines.Title version) ++ (line_text 1 (lines.Agents agents) ++ (line_text 1 (lines.Claim claim) ++ s))
header_cut version width agents claim s =
    append_assoc (line_text 1 (lines.Title version)) (line_text 1 (lines.Agents agents) ++ line_text width (lines.Claim claim)) s
    ∙ ap (λ l. line_text 1 (lines.Title version) ++ l) (append_assoc (line_text 1 (lines.Agents agents)) (line_text width (lines.Claim claim)) s)
    ∙ ap (λ l. line_text 1 (lines.Title version) ++ (line_text 1 (lines.Agents agents) ++ (l ++ s))) (claim_words width claim)

title_next : (width : ℕ) (t : List ℕ) → HasHeader width t → BeginsWithLine dues.Title t
title_next width t has = record {
  value = lines.Title has.value.0;
  is = tt;
  rest = line_text 1 (lines.Agents has.value.1) ++ (line_text 1 (lines.Claim has.value.2) ++ has.rest);
  spelled = has.spelled ∙ header_cut has.value.0 width has.value.1 has.value.2 has.rest;
}

version_same : (a b : Version) → lines.Title a ≡ lines.Title b → a ≡ b
version_same a b e = cc

after_title : (width : ℕ) (version : Version) (more : List ℕ) → HasHeader width (line_text 1 (lines.Title version) ++ more) → Counted version more
after_title width version more has =
    let rest = line_text 1 (lines.Agents has.value.1) ++ (line_text 1 (lines.Claim has.value.2) ++ has.rest) in
    let (same, tail) = same_line dues.Title (lines.Title version) (lines.Title has.value.0) more rest tt tt (has.spelled ∙ header_cut has.value.0 width has.value.1 has.value.2 has.rest) in
    let of_version = subst (λ (v : Version). IsCertClaim v has.value.2) (sym (version_same version has.value.0 same)) has.is.1 in
    record { agents = has.value.1; claim = has.value.2; agents_in_range = has.is.0; claim_in_range = of_version; rest = has.rest; spelled = tail }

after_first : (width : ℕ) (first : CertLine) (version : Version) (more : List ℕ) → first ≡ lines.Title version → HasHeader width (line_text 1 first ++ more) → Counted version more
after_first width first version more is has = after_title width version more (subst (λ (l : CertLine). HasHeader width (line_text 1 l ++ more)) is has)

agents_next : (version : Version) (t : List ℕ) → Counted version t → BeginsWithLine dues.Agents t
agents_next version t counted = record { value = lines.Agents counted.agents; is = counted.agents_in_range; rest = line_text 1 (lines.Claim counted.claim) ++ counted.rest; spelled = counted.spelled }

after_agents : (version : Version) (line : CertLine) (more : List ℕ) → IsLine dues.Agents line → Counted version (line_text 1 line ++ more) → BeginsWithLine (dues.Claim version) more
after_agents version line more is counted =
    let rest = line_text 1 (lines.Claim counted.claim) ++ counted.rest in
    let (same, tail) = same_line dues.Agents line (lines.Agents counted.agents) more rest is counted.agents_in_range counted.spelled in
    record { value = lines.Claim counted.claim; is = counted.claim_in_range; rest = counted.rest; spelled = tail }

pub fails_in_title : (width : ℕ) (had left : Option (List ℕ)) (failed : Bool) (x : Buffered) (fault : LinesFault) → Fails had left failed x (BeginsWithLine dues.Title) fault → Fails had left failed x (HasHeader width) fault
fails_in_title width had left failed x fault fails = Fails-weaker had left failed x (HasHeader width) (BeginsWithLine dues.Title) fault (title_next width) fails

pub fails_in_agents : (width : ℕ) (had mid left : Option (List ℕ)) (failed : Bool) (x y : Buffered) (first : CertLine) (version : Version) (fault : LinesFault) → first ≡ lines.Title version → Window had mid x y (line_text 1 first)
    → Fails mid left failed y (BeginsWithLine dues.Agents) fault → Fails had left failed x (HasHeader width) fault
fails_in_agents width had mid left failed x y first version fault is window fails =
    Fails-after had mid left failed x y (line_text 1 first) (HasHeader width) (BeginsWithLine dues.Agents) fault window (λ more has. agents_next version more (after_first width first version more is has)) fails

pub fails_in_claim : (width : ℕ) (had one mid left : Option (List ℕ)) (failed : Bool) (x y z : Buffered) (first second : CertLine) (version : Version) (fault : LinesFault) → first ≡ lines.Title version → IsLine dues.Agents second
    → Window had one x y (line_text 1 first) → Window one mid y z (line_text 1 second) → Fails mid left failed z (BeginsWithLine (dues.Claim version)) fault → Fails had left failed x (HasHeader width) fault
fails_in_claim width had one mid left failed x y z first second version fault is_first is_second window more fails =
    Fails-after had one left failed x y (line_text 1 first) (HasHeader width) (Counted version) fault window (λ t has. after_first width first version t is_first has)
    (Fails-after one mid left failed y z (line_text 1 second) (Counted version) (BeginsWithLine (dues.Claim version)) fault more (λ t counted. after_agents version second t is_second counted) fails)

three_lines : (width : ℕ) (first second third : CertLine) (version : Version) (agents : ℕ) (claim : Claim) → first ≡ lines.Title version → second ≡ lines.Agents agents → third ≡ lines.Claim claim → line_text 1 first ++ (line_text 1 second ++ line_text 1 third) ≡ header_text version width agents claim
three_lines width first second third version agents claim is_first is_second is_third =
    let last : line_text 1 third ≡ line_text width (lines.Claim claim) = ap (line_text 1) is_third ∙ sym (claim_words width claim) in
    ap (λ l. line_text 1 first ++ (line_text 1 second ++ l)) last ∙ ap (λ l. line_text 1 first ++ (line_text 1 l ++ line_text width (lines.Claim claim))) is_second ∙ ap (λ l. line_text 1 l ++ (line_text 1 (lines.Agents agents) ++ line_text width (lines.Claim claim))) is_first

-- a header whose lines were all in the buffer
pub header_there : {S : Type 0} (width : ℕ) (s0 s1 s2 s3 : S) (x y z w : Buffered) (first second third : CertLine) (version : Version) (agents : ℕ) (claim : Claim) → TakesThere s0 s1 x y (line_text 1 first) → TakesThere s1 s2 y z (line_text 1 second) → TakesThere s2 s3 z w (line_text 1 third)
    → first ≡ lines.Title version → second ≡ lines.Agents agents → third ≡ lines.Claim claim → TakesThere s0 s3 x w (header_text version width agents claim)
header_there width s0 s1 s2 s3 x y z w first second third version agents claim p q r is_first is_second is_third =
    subst (TakesThere s0 s3 x w) (three_lines width first second third version agents claim is_first is_second is_third)
    (there-trans s0 s1 s3 x y w (line_text 1 first) (line_text 1 second ++ line_text 1 third) p (there-trans s1 s2 s3 y z w (line_text 1 second) (line_text 1 third) q r))

pub header_window : (width : ℕ) (had one mid left : Option (List ℕ)) (x y z w : Buffered) (first second third : CertLine) (version : Version) (agents : ℕ) (claim : Claim) → Window had one x y (line_text 1 first) → Window one mid y z (line_text 1 second) → Window mid left z w (line_text 1 third)
    → first ≡ lines.Title version → second ≡ lines.Agents agents → third ≡ lines.Claim claim → Window had left x w (header_text version width agents claim)
header_window width had one mid left x y z w first second third version agents claim p q r is_first is_second is_third =
    subst (Window had left x w) (three_lines width first second third version agents claim is_first is_second is_third) (Window-trans had one left x y w (line_text 1 first) (line_text 1 second ++ line_text 1 third) p (Window-trans one mid left y z w (line_text 1 second) (line_text 1 third) q r))

agents_same : (a b : ℕ) → lines.Agents a ≡ lines.Agents b → a ≡ b
agents_same a b e = cc

claim_same : (a b : Claim) → lines.Claim a ≡ lines.Claim b → a ≡ b
claim_same a b e = cc

-- two texts that begin with a header, and of which one begins the other, begin with the same header
pub same_header : (version version' : Version) (width agents agents' : ℕ) (claim claim' : Claim) (s t : List ℕ) → IsAgentCount agents → IsAgentCount agents' → IsCertClaim version claim → IsCertClaim version' claim' → header_text version width agents claim ++ s ≡ header_text version' width agents' claim' ++ t
    → (version ≡ version') × (agents ≡ agents') × (claim ≡ claim') × (s ≡ t)
same_header version version' width agents agents' claim claim' s t p q r u e =
    let first = line_text 1 (lines.Agents agents) ++ (line_text 1 (lines.Claim claim) ++ s) in
    let second = line_text 1 (lines.Agents agents') ++ (line_text 1 (lines.Claim claim') ++ t) in
    let (titles, tail) = same_line dues.Title (lines.Title version) (lines.Title version') first second tt tt (sym (header_cut version width agents claim s) ∙ e ∙ header_cut version' width agents' claim' t) in
    let (counts, more) = same_line dues.Agents (lines.Agents agents) (lines.Agents agents') (line_text 1 (lines.Claim claim) ++ s) (line_text 1 (lines.Claim claim') ++ t) p q tail in
    let same = version_same version version' titles in
    let (says, rest) = same_line (dues.Claim version) (lines.Claim claim) (lines.Claim claim') s t r (subst (λ (v : Version). IsCertClaim v claim') (sym same) u) more in
    (same, agents_same agents agents' counts, claim_same claim claim' says, rest)

-- what follows a header makes a certificate with it
pub header_joins : (had left : Option (List ℕ)) (old new : Reading) (agents : ℕ) (claim : Claim) → IsAgentCount agents → IsCertClaim new.version claim → Window had left old.buffer new.buffer (header_text new.version old.width agents claim) → grid_at new ≡ grid_at old → agents_at new ≡ agents → new.pending ≡ old.pending
    → (bytes : List ℕ) → had ≡ Some bytes → (nodes : List Node) → Awaits left new nodes → AwaitsCert had old new.version agents claim nodes
header_joins had left old new agents claim few ranged window grid count pending bytes known nodes awaits =
    let (rest, kept, same, many) = Window-known had left old.buffer new.buffer (header_text new.version old.width agents claim) bytes window known in
    let one : awaits.bytes ≡ rest = same_Some awaits.bytes rest (sym awaits.known ∙ kept) in
    let moved = subst (λ (k : ℕ). IsRest new.version (grid_at old) agents k nodes (new.buffer.bytes ++ awaits.bytes)) pending (subst (λ (n : ℕ). IsRest new.version (grid_at old) n new.pending nodes (new.buffer.bytes ++ awaits.bytes)) count (subst (λ (g : GridMap). IsRest new.version g (agents_at new) new.pending nodes (new.buffer.bytes ++ awaits.bytes)) grid awaits.rest)) in
    record {
      bytes = bytes;
      known = known;
      text = record {
        agents_in_range = few;
        claim_in_range = ranged.0;
        claim_of_version = ranged.1;
        after = new.buffer.bytes ++ awaits.bytes;
        spelled = same ∙ ap (λ l. header_text new.version old.width agents claim ++ (new.buffer.bytes ++ l)) (sym one);
        rest = moved;
      };
    }

-- the header that was read is the one that came
pub header_same : (had left : Option (List ℕ)) (old new : Reading) (version : Version) (agents due : ℕ) (claim says : Claim) (nodes : List Node) → IsAgentCount agents → IsCertClaim new.version claim → Window had left old.buffer new.buffer (header_text new.version old.width agents claim) → grid_at new ≡ grid_at old → agents_at new ≡ agents → new.pending ≡ old.pending
    → AwaitsCert had old version due says nodes → (new.version ≡ version) × (agents ≡ due) × (claim ≡ says) × Awaits left new nodes
header_same had left old new version agents due claim says nodes few ranged window grid count pending awaits =
    let (rest, kept, same, many) = Window-known had left old.buffer new.buffer (header_text new.version old.width agents claim) awaits.bytes window awaits.known in
    let text = awaits.text in
    let (zero, one, two, tail) = same_header new.version version old.width agents due claim says (new.buffer.bytes ++ rest) text.after few text.agents_in_range ranged (text.claim_in_range, text.claim_of_version) (sym same ∙ text.spelled) in
    let of_version = subst (λ (v : Version). IsRest v (grid_at old) due old.pending nodes text.after) (sym zero) text.rest in
    let moved = subst (λ (k : ℕ). IsRest new.version (grid_at new) (agents_at new) k nodes text.after) (sym pending) (subst (λ (n : ℕ). IsRest new.version (grid_at new) n old.pending nodes text.after) (sym one ∙ sym count) (subst (λ (g : GridMap). IsRest new.version g due old.pending nodes text.after) (sym grid) of_version)) in
    (zero, one, two, record { bytes = rest; known = kept; rest = subst (IsRest new.version (grid_at new) (agents_at new) new.pending nodes) (sym tail) moved })

-- a certificate that is awaited isn't refused
pub header_awaited : (had left : Option (List ℕ)) (failed : Bool) (r : Reading) (version : Version) (agents : ℕ) (claim : Claim) (nodes : List Node) (fault : LinesFault) → AwaitsCert had r version agents claim nodes → Fails had left failed r.buffer (HasHeader r.width) fault → IsNoTextFault fault
header_awaited had left failed r version agents claim nodes fault awaits fails =
    let text = awaits.text in
    Fails-not had left failed r.buffer (HasHeader r.width) fault awaits.bytes fails awaits.known (record { value = (version, agents, claim); is = (text.agents_in_range, (text.claim_in_range, text.claim_of_version)); rest = text.after; spelled = text.spelled })
