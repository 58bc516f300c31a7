-- A certificate's header and tree together.
use Rattle.std.proofs.Common.{◌≡◌, ◌≤◌, ℕ, Bool, List, [], ◌∷◌, ◌++◌, Option, Some, IfSome, option_map, length, refl, sym, ◌∙◌, subst, arith}
use Rattle.std.proofs.lemmas.Option.{same_Some}
use Rattle.mapf_model.specs.declared.item.Claim.{Claim}
use Rattle.mapf_model.specs.Laws.{FrontDecides, TreeIsUnique}
use Rattle.mapf_model.specs.Plan.{Instance}
use Rattle.mapf_model.specs.Tree.{ConstraintTree, Node, NodesShow, Shows, nodes_of, root}
use Rattle.mapf_certificate.specs.declared.version.Version.{Version}
use Rattle.mapf_certificate.specs.declared.cert.LinesFault.{LinesFault}
use Rattle.mapf_certificate.specs.declared.cert.LinesFault.TheVariants.{Text, Device, TooLong, Memory}
use Rattle.mapf_certificate.specs.declared.cert.CertFault.TheVariants as texts
use Rattle.mapf_certificate.specs.Buffered.{Buffered}
use Rattle.mapf_certificate.specs.CertReading.{Awaits, AwaitsCert, IsCertText, TakesHeader}
use Rattle.mapf_certificate.specs.Certificates.{SpellsCert, header_text}
use Rattle.mapf_certificate.specs.Reading.{Reading, grid_at}
use Rattle.mapf_certificate.specs.Window.{Window, Fails, IsNoTextFault}
use Rattle.mapf_certificate.proofs.CertTexts.{AreSized, spells_from_text, text_from_spells}
use Rattle.mapf_certificate.proofs.Windows.{Window-known, ComesWithin-after, Exceeds-after, refuses_within}
use Rattle.mapf_lemma_checker.proofs.WholeLemmas.{if_made}
use Rattle.mapf_checker.specs.declared.fault.CheckFault.{CheckFault}
use Rattle.mapf_checker.specs.declared.fault.CheckFault.TheVariants.{C2, C3, C4, C6, C7, C8, C9}
use Rattle.mapf_checker.specs.declared.fault.FromFault.{FromFault}
use Rattle.mapf_checker.specs.declared.fault.FromFault.TheVariants as from
use Rattle.mapf_checker.specs.CertJudging.{IsOpened, HasHeaderRefusal, HasTreeRefusal, IsJudgedTree}
use Rattle.mapf_checker.specs.Faults.{of_cert, IsOfChecking}
use Rattle.mapf_checker.specs.Refusals.{BeginsWithHeader, HasBadNode, HasBadNodeInCert, HasTreeCertRefusal}
use Rattle.mapf_checker.specs.Verdict.{IsGoodTreeCert}

module _ (problem : Instance) (had : Option (List ℕ)) (start : Reading) (opened : IsOpened problem start) (bytes : List ℕ) (known : had ≡ Some bytes) where
  sized : AreSized problem.grid (grid_at start)
  sized = record { width = sym opened.width; height = sym opened.height }

  -- what spells a certificate is awaited
  pub awaits_spelled : (version : Version) (agents : ℕ) (claimed : Claim) (tree : ConstraintTree) → SpellsCert problem.grid (start.buffer.bytes ++ bytes) version agents claimed tree → AwaitsCert had start version agents claimed (nodes_of tree)
  awaits_spelled version agents claimed tree spells = record {
    bytes = bytes;
    known = known;
    text = subst (λ pending. IsCertText (grid_at start) pending version agents claimed (nodes_of tree) (start.buffer.bytes ++ bytes)) (sym opened.pending)
        (text_from_spells problem.grid (grid_at start) version agents claimed tree (start.buffer.bytes ++ bytes) sized spells);
  }

  -- and what is awaited spells one
  pub spelled_awaited : (version : Version) (agents : ℕ) (claimed : Claim) (nodes : List Node) → AwaitsCert had start version agents claimed nodes → (tree : ConstraintTree) × SpellsCert problem.grid (start.buffer.bytes ++ bytes) version agents claimed tree × (nodes ≡ nodes_of tree)
  spelled_awaited version agents claimed nodes awaits =
      let came : awaits.bytes ≡ bytes = same_Some awaits.bytes bytes (sym awaits.known ∙ known) in
      spells_from_text problem.grid (grid_at start) version agents claimed nodes (start.buffer.bytes ++ bytes) (record { width = opened.width; height = opened.height })
      (subst (λ pending. IsCertText (grid_at start) pending version agents claimed nodes (start.buffer.bytes ++ bytes)) opened.pending (subst (λ b. IsCertText (grid_at start) start.pending version agents claimed nodes (start.buffer.bytes ++ b)) came awaits.text))

  -- the bytes begin with the header
  pub begins : (left : Option (List ℕ)) (new : Reading) (agents : ℕ) (claimed : Claim) → TakesHeader had left start new agents claimed → BeginsWithHeader problem (start.buffer.bytes ++ bytes) agents claimed
  begins left new agents claimed takes =
      let (after, known_left, same, count) = Window-known had left start.buffer new.buffer (header_text new.version start.width agents claimed) bytes takes.window known in
      record { version = new.version; agents_in_range = takes.agents_in_range; claim_in_range = takes.claim_in_range; claim_of_version = takes.claim_of_version; rest = new.buffer.bytes ++ after; spelled = subst (λ w. start.buffer.bytes ++ bytes ≡ header_text new.version w agents claimed ++ (new.buffer.bytes ++ after)) opened.width same }

-- why reading a header stopped
pub stops_heading : (problem : Instance) (claim : Claim) (had left : Option (List ℕ)) (failed : Bool) (start : Reading) (IsText : List ℕ → Type 0) (fault : LinesFault) → Fails had left failed start.buffer IsText fault →
    ((version : Version) (agents : ℕ) (claimed : Claim) (nodes : List Node) → AwaitsCert had start version agents claimed nodes → IsNoTextFault fault) → IsOfChecking had left failed start.buffer (HasHeaderRefusal problem claim had start) (of_cert fault)
stops_heading problem claim had left failed start IsText (Text texts.Memory) fails none = absurd fails
stops_heading problem claim had left failed start IsText (Text fault) fails none = (fails.0, refuses_within had left start.buffer IsText fails.1, (λ e. cc, none))
stops_heading problem claim had left failed start IsText fault fails none = fails

-- a weaker statement about the same error
pub stops_as : {P Q : CheckFault → Type 0} (had left : Option (List ℕ)) (failed : Bool) (buffer : Buffered) (fault : FromFault) → ((refusal : CheckFault) → P refusal → Q refusal) → IsOfChecking had left failed buffer P fault → IsOfChecking had left failed buffer Q fault
stops_as had left failed buffer (from.Refused refusal) f stops = (stops.0, stops.1, f refusal stops.2)
stops_as had left failed buffer fault f stops = stops

-- after a part was taken
pub stops_after : {P Q : CheckFault → Type 0} (had mid left : Option (List ℕ)) (failed : Bool) (old now : Buffered) (taken : List ℕ) (fault : FromFault) → Window had mid old now taken → ((refusal : CheckFault) → P refusal → Q refusal) →
    IsOfChecking mid left failed now P fault → IsOfChecking had left failed old Q fault
stops_after had mid left failed old now taken (from.Refused refusal) window f stops = (stops.0, ComesWithin-after had mid left old now taken window stops.1, f refusal stops.2)
stops_after had mid left failed old now taken from.Device window f stops = (stops.0, ComesWithin-after had mid left old now taken window stops.1)
stops_after had mid left failed old now taken from.TooLong window f stops = (stops.0, Exceeds-after had mid left old now taken window stops.1)
stops_after had mid left failed old now taken from.Memory window f stops = (stops.0, ComesWithin-after had mid left old now taken window stops.1)

module _ (problem : Instance) (claim : Claim) (had : Option (List ℕ)) (start : Reading) (opened : IsOpened problem start) where
  -- a refusal of the header is one of the certificate
  pub header_refusal : (refusal : CheckFault) → HasHeaderRefusal problem claim had start refusal → HasTreeCertRefusal problem claim (option_map (λ bytes. start.buffer.bytes ++ bytes) had) refusal
  header_refusal (C2 fault) (other, none) = (other, if_made had (λ bytes. start.buffer.bytes ++ bytes) _ (λ bytes known version agents claimed tree spells. none version agents claimed (nodes_of tree) (awaits_spelled problem had start opened bytes known version agents claimed tree spells)))
  header_refusal C3 is = if_made had (λ bytes. start.buffer.bytes ++ bytes) _ is
  header_refusal C4 is = if_made had (λ bytes. start.buffer.bytes ++ bytes) _ is
  header_refusal refusal is = absurd is

  module _ (mid : Option (List ℕ)) (headed : Reading) (takes : TakesHeader had mid start headed (length problem.agents) claim) where
    -- the bytes after the header
    after_header : (bytes : List ℕ) → had ≡ Some bytes → (rest : List ℕ) × (mid ≡ Some rest) × (start.buffer.bytes ++ bytes ≡ header_text headed.version problem.grid.width (length problem.agents) claim ++ (headed.buffer.bytes ++ rest))
    after_header bytes known =
        let (rest, known_mid, same, count) = Window-known had mid start.buffer headed.buffer (header_text headed.version start.width (length problem.agents) claim) bytes takes.window known in
        (rest, known_mid, subst (λ w. start.buffer.bytes ++ bytes ≡ header_text headed.version w (length problem.agents) claim ++ (headed.buffer.bytes ++ rest)) opened.width same)

    bad_node_in : (refusal : CheckFault) → ((bytes : List ℕ) → mid ≡ Some bytes → HasBadNode problem claim headed.version refusal (headed.buffer.bytes ++ bytes)) → IfSome (option_map (λ bytes. start.buffer.bytes ++ bytes) had) (HasBadNodeInCert problem claim refusal)
    bad_node_in refusal bad = if_made had (λ bytes. start.buffer.bytes ++ bytes) _ (λ bytes known. let (rest, known_mid, same) = after_header bytes known in record { version = headed.version; agents_in_range = takes.agents_in_range; claim_in_range = takes.claim_in_range; claim_of_version = takes.claim_of_version; nodes = headed.buffer.bytes ++ rest; spelled = same; bad = bad rest known_mid })

    -- so is one of the tree
    pub refusal_of_tree : ((version : Version) (agents : ℕ) (claimed : Claim) (nodes : List Node) → AwaitsCert had start version agents claimed nodes → Awaits mid headed nodes) → (refusal : CheckFault) → HasTreeRefusal problem claim mid headed refusal → HasTreeCertRefusal problem claim (option_map (λ bytes. start.buffer.bytes ++ bytes) had) refusal
    refusal_of_tree ahead (C2 fault) (other, none) = (other, if_made had (λ bytes. start.buffer.bytes ++ bytes) _ (λ bytes known version agents claimed tree spells. none (nodes_of tree) (ahead version agents claimed (nodes_of tree) (awaits_spelled problem had start opened bytes known version agents claimed tree spells))))
    refusal_of_tree ahead (C6 line) is = bad_node_in (C6 line) is
    refusal_of_tree ahead (C7 line) is = bad_node_in (C7 line) is
    refusal_of_tree ahead (C8 line) is = bad_node_in (C8 line) is
    refusal_of_tree ahead (C9 line) is = bad_node_in (C9 line) is
    refusal_of_tree ahead refusal is = absurd is

    -- a tree that was judged is the certificate's
    pub good_cert : FrontDecides → TreeIsUnique → IsJudgedTree problem claim mid headed → (bytes : List ℕ) → had ≡ Some bytes → IsGoodTreeCert problem claim (start.buffer.bytes ++ bytes)
    good_cert law unique judged bytes known =
        let (rest, known_mid, same) = after_header bytes known in
        let (tree, spells, is) = spelled_awaited problem had start opened bytes known headed.version (length problem.agents) claim judged.nodes (takes.joins bytes known judged.nodes (judged.read rest known_mid)) in
        let (shown, is_shown, shows) = ((law problem claim).whole judged.nodes).0 judged.shows in
        record { version = headed.version; tree = tree; spelled = spells; shows = subst (λ t. Shows problem claim t) (unique shown tree (sym is_shown ∙ is)) shows }

    -- and has no more bytes than are allowed
    pub cert_within : IsJudgedTree problem claim mid headed → (bytes : List ℕ) → had ≡ Some bytes → length bytes ≤ start.buffer.left
    cert_within judged bytes known =
        let (rest, known_mid, same, count) = Window-known had mid start.buffer headed.buffer (header_text headed.version start.width (length problem.agents) claim) bytes takes.window known in
        omega (arith, count, judged.within rest known_mid)

pub shown_tree : FrontDecides → (problem : Instance) (claim : Claim) (mid : Option (List ℕ)) (headed : Reading) → IsJudgedTree problem claim mid headed → (tree : ConstraintTree) × Shows problem claim tree
shown_tree law problem claim mid headed judged = let (tree, is, shows) = ((law problem claim).whole judged.nodes).0 judged.shows in (tree, shows)

pub nodes_show : FrontDecides → (problem : Instance) (claim : Claim) (tree : ConstraintTree) → Shows problem claim tree → NodesShow problem claim (root ∷ []) (nodes_of tree)
nodes_show law problem claim tree shows = ((law problem claim).whole (nodes_of tree)).1 (tree, refl, shows)
