-- What the results of a reader of certificates say of the bytes that its source gave.
use Rattle.std.specs.Prelude.{◌≡◌, ℕ, ◌+◌, ◌-◌, ◌≤◌, true, List, [], ◌∷◌, ◌++◌, Option, Some}
use Rattle.std.specs.Io.KnownBytes.{IsAtEnd}
use Rattle.mapf_model.specs.declared.item.Claim.{Claim}
use Rattle.mapf_model.specs.Grid.{GridMap}
use Rattle.mapf_model.specs.Printed.{IsClaimInRange}
use Rattle.mapf_model.specs.Tree.{ConstraintTree, Node, SplitNode, LeafNode, ClashNode, Spell}
use Rattle.mapf_certificate.specs.declared.version.Version.{Version}
use Rattle.mapf_certificate.specs.declared.cert.Cert.{Cert}
use Rattle.mapf_certificate.specs.declared.line.CertLine.{CertLine}
use Rattle.mapf_certificate.specs.declared.line.CertLine.TheVariants as lines
use Rattle.mapf_certificate.specs.Lines.{IsAgentCount, IsClaimOfVersion, IsCertClaim}
use Rattle.mapf_certificate.specs.Buffered.{Buffered}
use Rattle.mapf_certificate.specs.Window.{Window, BeginsWith}
use Rattle.mapf_certificate.specs.Reading.{Reading, grid_at, agents_at}
use Rattle.mapf_certificate.specs.Certificates.{line_text, node_text, header_text, IsNode, IsRest, SpellsCert}

-- how many subtrees are pending after a node
abbrev pub trees_pending_after : ℕ → Node → ℕ
trees_pending_after pending (SplitNode conflict blocks) = pending + 1
trees_pending_after pending (LeafNode blocks) = pending - 1
trees_pending_after pending (ClashNode i j) = pending - 1

-- the bytes begin with a header
abbrev pub HasHeader : ℕ → List ℕ → Type 0
HasHeader width bytes =
    BeginsWith (Version × ℕ × Claim) (λ h. IsAgentCount h.1 × IsCertClaim h.0 h.2) (λ h. header_text h.0 width h.1 h.2)
    bytes

-- the bytes are what is left of a certificate: nodes that complete the pending subtrees, and the end
abbrev pub IsRestAt : Reading → List ℕ → Type 0
IsRestAt reading bytes =
    (nodes : List Node) × IsRest reading.version (grid_at reading) (agents_at reading) reading.pending nodes bytes

-- what is in the buffer and then still comes from the source spells these nodes, which complete the pending subtrees,
-- and the end. Of an opaque source, such as a file, this never holds
pub record Awaits (remaining : Option (List ℕ)) (reading : Reading) (nodes : List Node) : Type 0 where
  pub bytes : List ℕ
  pub known : remaining ≡ Some bytes
  pub rest : IsRest reading.version (grid_at reading) (agents_at reading) reading.pending nodes
      (reading.buffer.bytes ++ bytes)

-- the bytes spell a header, then these nodes, which complete so many trees, and the end
pub record IsCertText (grid : GridMap) (pending : ℕ) (version : Version) (agents : ℕ) (claim : Claim)
    (nodes : List Node)
    (bytes : List ℕ) : Type 0 where
  pub agents_in_range : IsAgentCount agents
  pub claim_in_range : IsClaimInRange claim
  pub claim_of_version : IsClaimOfVersion version claim
  pub after : List ℕ
  pub spelled : bytes ≡ header_text version grid.width agents claim ++ after
  pub rest : IsRest version grid agents pending nodes after

-- what is in the buffer and then still comes from the source spells this header, then these nodes, and the end
pub record AwaitsCert (remaining : Option (List ℕ)) (reading : Reading) (version : Version) (agents : ℕ) (claim : Claim)
    (nodes : List Node) : Type 0 where
  pub bytes : List ℕ
  pub known : remaining ≡ Some bytes
  pub text : IsCertText (grid_at reading) reading.pending version agents claim nodes (reading.buffer.bytes ++ bytes)

-- a header was read: its three lines were taken, of which the first gave the version; and it and what follows make a
-- certificate, if the source reports its bytes
pub record TakesHeader (had left : Option (List ℕ)) (old new : Reading) (agents : ℕ) (claim : Claim) : Type 0 where
  pub agents_in_range : IsAgentCount agents
  pub claim_in_range : IsClaimInRange claim
  pub claim_of_version : IsClaimOfVersion new.version claim
  pub window : Window had left old.buffer new.buffer (header_text new.version old.width agents claim)
  pub joins : (bytes : List ℕ) → had ≡ Some bytes → (nodes : List Node) → Awaits left new nodes →
      AwaitsCert had old new.version agents claim nodes

-- these lines of a node follow this first line of it
pub record CompletesNode (version : Version) (grid : GridMap) (agents : ℕ) (had left : Option (List ℕ))
    (old new : Buffered) (line : CertLine) (node : Node) : Type 0 where
  pub in_range : IsNode version grid agents node
  pub taken : List ℕ
  pub spelled : line_text grid.width line ++ taken ≡ node_text version grid.width node
  pub window : Window had left old new taken

-- a node was read: its lines were taken, and a subtree was pending
pub record ReadsNode (had left : Option (List ℕ)) (old new : Reading) (node : Node) : Type 0 where
  pub in_range : IsNode old.version (grid_at old) (agents_at old) node
  pub window : Window had left old.buffer new.buffer (node_text old.version old.width node)
  pub was_pending : 1 ≤ old.pending
  pub pending : new.pending ≡ trees_pending_after old.pending node

-- the end was read: no subtree is pending, the last line was taken, and the source has ended
pub record ReadsEnd (had left : Option (List ℕ)) (old new : Reading) : Type 0 where
  pub none_pending : old.pending ≡ 0
  pub window : Window had left old.buffer new.buffer (line_text old.width lines.End)
  pub ended : IsAtEnd left
  pub empty : new.buffer.bytes ≡ []
  pub pending : new.pending ≡ 0

-- a node was read, and it is the next one: it and what completes the subtrees pending after it complete those pending
-- before it
pub record TakesNode (had left : Option (List ℕ)) (old new : Reading) (node : Node) : Type 0 where
  pub read : ReadsNode had left old new node
  pub joins : (bytes : List ℕ) → had ≡ Some bytes → (nodes : List Node) → Awaits left new nodes →
      Awaits had old (node ∷ nodes)

-- the end was read, and nothing else was left
pub record TakesEnd (had left : Option (List ℕ)) (old new : Reading) : Type 0 where
  pub read : ReadsEnd had left old new
  pub whole : new.is_whole ≡ true
  pub joins : (bytes : List ℕ) → had ≡ Some bytes → Awaits had old []

-- the bytes spell the certificate, with the same items
abbrev pub IsSpelled : GridMap → List ℕ → Cert → Type 0
IsSpelled grid bytes cert =
    (tree : ConstraintTree) × SpellsCert grid bytes cert.version cert.agents cert.claim tree
    × Spell cert.tree.items tree

-- the certificate is of this version, has this header, and its items spell this tree
abbrev pub IsCertOf : Version → ℕ → Claim → ConstraintTree → Cert → Type 0
IsCertOf version agents claim tree cert =
    (cert.version ≡ version) × (cert.agents ≡ agents) × (cert.claim ≡ claim) × Spell cert.tree.items tree
