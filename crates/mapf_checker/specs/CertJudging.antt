-- What is known of a certificate while it is judged.
use Rattle.std.specs.Prelude.{◌≡◌, ◌≢◌, ◌↔◌, ◌≤◌, ℕ, Bool, false, List, [], ◌∷◌, ◌++◌, Option, Some, None, Result, IfOk}
use Rattle.std.specs.Prelude.{IfErr, OnOk, MatchBool, All, length}
use Rattle.std.specs.List.{flat_map}
use Rattle.mapf_model.specs.declared.item.Claim.{Claim}
use Rattle.mapf_model.specs.Plan.{Instance}
use Rattle.mapf_model.specs.Tree.{Node, NodeContext, NodesShow, root}
use Rattle.mapf_certificate.specs.declared.cert.CertFault.TheVariants as certs
use Rattle.mapf_certificate.specs.Certificates.{IsNode, node_text}
use Rattle.mapf_certificate.specs.CertReading.{Awaits, AwaitsCert}
use Rattle.mapf_certificate.specs.Reading.{Reading}
use Rattle.mapf_certificate.specs.declared.version.Version.{Version}
use Rattle.mapf_certificate.specs.Window.{ComesWithin, Window}
use Rattle.mapf_checker.specs.declared.fault.CheckFault.{CheckFault}
use Rattle.mapf_checker.specs.declared.fault.CheckFault.TheVariants.{C2, C3, C4, C6, C7, C8, C9}
use Rattle.mapf_checker.specs.declared.fault.FromFault.{FromFault}
use Rattle.mapf_checker.specs.declared.tree.Progress.{Progress}
use Rattle.mapf_checker.specs.Faults.{IsNoRefusal, IsOfChecking}
use Rattle.mapf_checker.specs.Progress.{contexts_after_all, pending_by, AreAllAlike, IsReady}
use Rattle.mapf_checker.specs.Refusals.{BeginsWithHeader, HasBadNode}

-- nothing was taken
pub record IsOpened (problem : Instance) (reading : Reading) : Type 0 where
  pub width : reading.width ≡ problem.grid.width
  pub height : reading.height ≡ problem.grid.height
  pub header : reading.header ≡ None
  pub fault : reading.fault ≡ None
  pub part : reading.is_whole ≡ false
  pub pending : reading.pending ≡ 1

-- the header was read, is for the problem's number of agents and makes this claim
pub record IsHeaded (problem : Instance) (claim : Claim) (reading : Reading) : Type 0 where
  pub width : reading.width ≡ problem.grid.width
  pub height : reading.height ≡ problem.grid.height
  pub header : reading.header ≡ Some (length problem.agents, claim)
  pub fault : reading.fault ≡ None
  pub part : reading.is_whole ≡ false
  pub pending : reading.pending ≡ 1

-- what a refusal says of the bytes that begin with a header
abbrev pub HasHeaderRefusal : Instance → Claim → Option (List ℕ) → Reading → CheckFault → Type 0
HasHeaderRefusal problem claim had reading (C2 fault) =
    (fault ≢ certs.Memory) × ((version : Version) (agents : ℕ) (claimed : Claim) (nodes : List Node) →
    AwaitsCert had reading version agents claimed nodes → ⊥)
HasHeaderRefusal problem claim had reading C3 =
    (bytes : List ℕ) → had ≡ Some bytes → (agents : ℕ) × (claimed : Claim)
    × BeginsWithHeader problem (reading.buffer.bytes ++ bytes) agents claimed × (agents ≢ length problem.agents)
HasHeaderRefusal problem claim had reading C4 =
    (bytes : List ℕ) → had ≡ Some bytes → (agents : ℕ) × (claimed : Claim)
    × BeginsWithHeader problem (reading.buffer.bytes ++ bytes) agents claimed × (claimed ≢ claim)
HasHeaderRefusal problem claim had reading fault = ⊥

-- what a refusal says of the bytes after the header
abbrev pub HasTreeRefusal : Instance → Claim → Option (List ℕ) → Reading → CheckFault → Type 0
HasTreeRefusal problem claim had reading (C2 fault) =
    (fault ≢ certs.Memory) × ((nodes : List Node) → Awaits had reading nodes → ⊥)
HasTreeRefusal problem claim had reading (C6 line) =
    (bytes : List ℕ) → had ≡ Some bytes →
    HasBadNode problem claim reading.version (C6 line) (reading.buffer.bytes ++ bytes)
HasTreeRefusal problem claim had reading (C7 line) =
    (bytes : List ℕ) → had ≡ Some bytes →
    HasBadNode problem claim reading.version (C7 line) (reading.buffer.bytes ++ bytes)
HasTreeRefusal problem claim had reading (C8 line) =
    (bytes : List ℕ) → had ≡ Some bytes →
    HasBadNode problem claim reading.version (C8 line) (reading.buffer.bytes ++ bytes)
HasTreeRefusal problem claim had reading (C9 line) =
    (bytes : List ℕ) → had ≡ Some bytes →
    HasBadNode problem claim reading.version (C9 line) (reading.buffer.bytes ++ bytes)
HasTreeRefusal problem claim had reading fault = ⊥

-- the nodes show the claim, the text from the reader's place on spells them, and no more bytes came than were left of
-- the limit
pub record IsJudgedTree (problem : Instance) (claim : Claim) (had : Option (List ℕ)) (reading : Reading) : Type 0 where
  pub nodes : List Node
  pub shows : NodesShow problem claim (root ∷ []) nodes
  pub read : (bytes : List ℕ) → had ≡ Some bytes → Awaits had reading nodes
  pub within : (bytes : List ℕ) → had ≡ Some bytes → length bytes ≤ reading.buffer.left

-- the header was read, and the reader and the judge expect the same number of trees
pub record IsBetweenItems (problem : Instance) (claim : Claim) (reading : Reading) (progress : Progress) : Type 0 where
  pub width : reading.width ≡ problem.grid.width
  pub height : reading.height ≡ problem.grid.height
  pub header : reading.header ≡ Some (length problem.agents, claim)
  pub fault : reading.fault ≡ None
  pub part : reading.is_whole ≡ false
  pub count : reading.pending ≡ length (pending_by progress)
  pub ready : IsReady problem progress

-- how far a tree was read and judged: these nodes, which are in range, were read; whether they and others show the
-- claim depends on the others alone, and the trees still expected inherit these contexts, as far as it matters
pub record IsReadTo (problem : Instance) (claim : Claim) (had left : Option (List ℕ)) (start reading : Reading)
    (pending : List NodeContext) : Type 0 where
  pub given : List Node
  pub in_range : All (IsNode start.version problem.grid (length problem.agents)) given
  pub width : reading.width ≡ start.width
  pub version : reading.version ≡ start.version
  pub window : Window had left start.buffer reading.buffer (flat_map (node_text start.version start.width) given)
  pub ahead : (nodes : List Node) → Awaits had start nodes → (rest : List Node) × (nodes ≡ given ++ rest)
      × Awaits left reading rest
  pub behind : (bytes : List ℕ) → had ≡ Some bytes → (rest : List Node) → Awaits left reading rest →
      Awaits had start (given ++ rest)
  pub place : AreAllAlike problem pending (contexts_after_all (root ∷ []) given)
  pub shows : (rest : List Node) → NodesShow problem claim (root ∷ []) (given ++ rest) ↔ NodesShow problem claim pending
      rest

-- what one more call means: `true`, one more item was read and judged; `false`, the whole tree was; no more bytes came
-- than are allowed; if the text from its start on spells nodes that show the claim, nothing is refused; and what an
-- error means
pub record IsReadOn (problem : Instance) (claim : Claim) (had left : Option (List ℕ)) (failed : Bool)
    (start reading : Reading) (pending : List NodeContext) (result : Result Bool FromFault) : Type 0 where
  pub read : IfOk result (λ more. MatchBool more (IsReadTo problem claim had left start reading pending)
      (IsJudgedTree problem claim had start))
  pub came : OnOk result (ComesWithin had left start.buffer)
  pub only : (nodes : List Node) → Awaits had start nodes → NodesShow problem claim (root ∷ []) nodes →
      IfErr result IsNoRefusal
  pub stops : IfErr result (IsOfChecking had left failed start.buffer (HasTreeRefusal problem claim had start))
