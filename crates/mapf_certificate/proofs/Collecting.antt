-- Items collected one after another.
use Rattle.std.proofs.Common.{◌≡◌, ℕ, Bool, List, [], ◌∷◌, ◌++◌, Option, Some, Result, Err, MatchResult, sym, ap, subst, ◌∙◌, append_assoc}
use Rattle.std.proofs.lemmas.List.{append-nil}
use Rattle.mapf_model.specs.declared.item.Claim.{Claim}
use Rattle.mapf_model.specs.Tree.{Node}
use Rattle.mapf_certificate.specs.declared.version.Version.{Version}
use Rattle.mapf_certificate.specs.declared.cert.LinesFault.{LinesFault}
use Rattle.mapf_certificate.specs.declared.cert.LinesFault.TheVariants.{Text, Device, TooLong, Memory}
use Rattle.mapf_certificate.specs.Buffered.{Buffered}
use Rattle.mapf_certificate.specs.Reading.{Reading}
use Rattle.mapf_certificate.specs.CertReading.{Awaits, AwaitsCert, TakesHeader, TakesNode, TakesEnd}
use Rattle.mapf_certificate.specs.Window.{Window, Fails, StopsReader, IsNoTextFault}
use Rattle.mapf_certificate.proofs.Windows.{Window-trans, Window-known, Exceeds-after}

-- from the opened reader to this one a header and these nodes were read
pub record Collected (start now : Option (List ℕ)) (opened r : Reading) (version : Version) (agents : ℕ) (claim : Claim) (seen : List Node) : Type 0 where
  pub text : List ℕ
  pub window : Window start now opened.buffer r.buffer text
  pub found : (bytes : List ℕ) → start ≡ Some bytes → (nodes : List Node) → Awaits now r nodes → AwaitsCert start opened version agents claim (seen ++ nodes)
  pub only : (of : Version) (count : ℕ) (says : Claim) (all : List Node) → AwaitsCert start opened of count says all → (version ≡ of) × (agents ≡ count) × (claim ≡ says) × (nodes : List Node) × (all ≡ seen ++ nodes) × Awaits now r nodes

pub collected_none : (start now : Option (List ℕ)) (opened r : Reading) (version : Version) (agents : ℕ) (claim : Claim) (seen : List Node) → seen ≡ [] → r.version ≡ version → TakesHeader start now opened r agents claim
    → ((of : Version) (count : ℕ) (says : Claim) (nodes : List Node) → AwaitsCert start opened of count says nodes → (r.version ≡ of) × (agents ≡ count) × (claim ≡ says) × Awaits now r nodes) → Collected start now opened r version agents claim seen
collected_none start now opened r version agents claim seen none same takes only = record {
  text = _;
  window = takes.window;
  found = λ bytes known nodes awaits. subst (λ (l : List Node). AwaitsCert start opened version agents claim (l ++ nodes)) (sym none) (subst (λ (v : Version). AwaitsCert start opened v agents claim nodes) same (takes.joins bytes known nodes awaits));
  only = λ of count says all awaits. let (o, p, q, next) = only of count says all awaits in (sym same ∙ o, p, q, all, ap (λ l. l ++ all) (sym none), next);
}

pub collected_more : (start mid now : Option (List ℕ)) (opened r s : Reading) (version : Version) (agents : ℕ) (claim : Claim) (seen new : List Node) (node : Node) → Collected start mid opened r version agents claim seen → TakesNode mid now r s node
    → ((due : Node) (nodes : List Node) → Awaits mid r (due ∷ nodes) → (node ≡ due) × Awaits now s nodes) → (Awaits mid r [] → ⊥) → new ≡ seen ++ (node ∷ []) → Collected start now opened s version agents claim new
collected_more start mid now opened r s version agents claim seen new node before takes same ends grown = record {
  text = _;
  window = Window-trans start mid now opened.buffer r.buffer s.buffer before.text _ before.window takes.read.window;
  found = λ bytes known nodes awaits.
      let (rest, kept, all, many) = Window-known start mid opened.buffer r.buffer before.text bytes before.window known in
      subst (AwaitsCert start opened version agents claim) (sym (after nodes)) (before.found bytes known (node ∷ nodes) (takes.joins rest kept nodes awaits));
  only = λ of count says all awaits.
      let (o, p, q, nodes, e, next) = before.only of count says all awaits in
      let (more, e', next') = by all nodes e next in
      (o, p, q, more, e', next');
}
  where
    after : (nodes : List Node) → new ++ nodes ≡ seen ++ (node ∷ nodes)
    after nodes = ap (λ l. l ++ nodes) grown ∙ append_assoc seen (node ∷ []) nodes

    by : (all nodes : List Node) → all ≡ seen ++ nodes → Awaits mid r nodes → (more : List Node) × (all ≡ new ++ more) × Awaits now s more
    by all [] e next = absurd (ends next)
    by all (due ∷ nodes) e next =
        let (one, then) = same due nodes next in
        (nodes, e ∙ ap (λ (n : Node). seen ++ (n ∷ nodes)) (sym one) ∙ sym (after nodes), then)

pub collected_all : (start mid now : Option (List ℕ)) (opened r s : Reading) (version : Version) (agents : ℕ) (claim : Claim) (seen : List Node) → Collected start mid opened r version agents claim seen → TakesEnd mid now r s → (bytes : List ℕ) → start ≡ Some bytes → AwaitsCert start opened version agents claim seen
collected_all start mid now opened r s version agents claim seen before takes bytes known =
    let (rest, kept, all, many) = Window-known start mid opened.buffer r.buffer before.text bytes before.window known in
    subst (AwaitsCert start opened version agents claim) (append-nil seen) (before.found bytes known [] (takes.joins rest kept))

pub collected_only : (start mid : Option (List ℕ)) (opened r : Reading) (version : Version) (agents : ℕ) (claim : Claim) (seen : List Node) → Collected start mid opened r version agents claim seen → ((due : Node) (nodes : List Node) → Awaits mid r (due ∷ nodes) → ⊥)
    → (of : Version) (count : ℕ) (says : Claim) (all : List Node) → AwaitsCert start opened of count says all → (version ≡ of) × (agents ≡ count) × (claim ≡ says) × (seen ≡ all)
collected_only start mid opened r version agents claim seen before none of count says all awaits =
    let (o, p, q, nodes, e, next) = before.only of count says all awaits in
    (o, p, q, by nodes e next)
  where
    by : (nodes : List Node) → all ≡ seen ++ nodes → Awaits mid r nodes → seen ≡ all
    by [] e next = sym (e ∙ append-nil seen)
    by (due ∷ nodes) e next = absurd (none due nodes next)

-- what comes isn't refused at the next item
pub collected_stops : (start mid : Option (List ℕ)) (opened r : Reading) (version : Version) (agents : ℕ) (claim : Claim) (seen : List Node) (fault : LinesFault) → Collected start mid opened r version agents claim seen
    → ((due : Node) (nodes : List Node) → Awaits mid r (due ∷ nodes) → IsNoTextFault fault) → (Awaits mid r [] → IsNoTextFault fault)
    → (of : Version) (count : ℕ) (says : Claim) (all : List Node) → AwaitsCert start opened of count says all → IsNoTextFault fault
collected_stops start mid opened r version agents claim seen fault before items ends of count says all awaits =
    let (o, p, q, nodes, e, next) = before.only of count says all awaits in by nodes next
  where
    by : (nodes : List Node) → Awaits mid r nodes → IsNoTextFault fault
    by [] next = ends next
    by (due ∷ nodes) next = items due nodes next

pub stops_at : (a b : Option (List ℕ)) (failed : Bool) (x : Buffered) (Is : List ℕ → Type 0) (fault : LinesFault) → Fails a b failed x Is fault → StopsReader a b failed x fault
stops_at a b failed x Is (Text fault) fails = tt
stops_at a b failed x Is Device fails = fails.0
stops_at a b failed x Is TooLong fails = fails.1
stops_at a b failed x Is Memory fails = tt

pub stops_after : (a b c : Option (List ℕ)) (failed : Bool) (x y : Buffered) (t : List ℕ) (Is : List ℕ → Type 0) (fault : LinesFault) → Window a b x y t → Fails b c failed y Is fault → StopsReader a c failed x fault
stops_after a b c failed x y t Is (Text fault) window fails = tt
stops_after a b c failed x y t Is Device window fails = fails.0
stops_after a b c failed x y t Is TooLong window fails = Exceeds-after a b c x y t window fails.1
stops_after a b c failed x y t Is Memory window fails = tt

-- an error that is passed on
pub err_matches : {A E : Type 0} (r : Result A E) (P : A → Type 0) (Q : E → Type 0) (e : E) → (y : E) × (r ≡ Err y) × (y ≡ e) → Q e → MatchResult r P Q
err_matches {A = A} {E = E} r P Q e (y, is, same) holds = let M : Result A E → Type 0 = λ s. MatchResult s P Q in subst M (sym is) (subst Q (sym same) holds)
