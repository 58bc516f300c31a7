-- What a refusal says of the two texts.
use Rattle.std.specs.Prelude.{◌≡◌, ◌≢◌, ◌⊎◌, ⊤, ℕ, List, [], ◌∷◌, ◌++◌, Option, IfSome, All, length}
use Rattle.std.specs.List.{flat_map}
use Rattle.mapf_model.specs.declared.item.Claim.{Claim}
use Rattle.mapf_model.specs.declared.cause.Cause.{Cause}
use Rattle.mapf_model.specs.Plan.{Instance}
use Rattle.mapf_model.specs.Printed.{IsClaimInRange}
use Rattle.mapf_model.specs.Tree.{ConstraintTree, Node, NodeContext, root}
use Rattle.mapf_certificate.specs.declared.cert.CertFault.TheVariants as certs
use Rattle.mapf_certificate.specs.declared.version.Version.{Version}
use Rattle.mapf_certificate.specs.declared.version.Version.TheVariants.{One}
use Rattle.mapf_certificate.specs.declared.plan_text.PlanAnswer.{PlanAnswer}
use Rattle.mapf_certificate.specs.declared.plan_text.PlanAnswer.TheVariants.{Found, Limit}
use Rattle.mapf_certificate.specs.declared.plan_text.PlanTextFault.TheVariants as plans
use Rattle.mapf_certificate.specs.Certificates.{IsNode, SpellsCert, header_text, node_text}
use Rattle.mapf_certificate.specs.Lines.{IsAgentCount, IsClaimOfVersion}
use Rattle.mapf_certificate.specs.Plans.{SpellsPlan}
use Rattle.mapf_checker.specs.declared.fault.CheckFault.{CheckFault}
use Rattle.mapf_checker.specs.declared.fault.CheckFault.TheVariants.{C1, C2, C3, C4, C5, C6, C7, C8, C9, C10}
use Rattle.mapf_checker.specs.Defects.{HasDefect}
use Rattle.mapf_checker.specs.Faults.{of_lemma_refusal}
use Rattle.mapf_checker.specs.NodeDefects.{HasNodeDefect}
use Rattle.mapf_checker.specs.Progress.{contexts_after_all}
use Rattle.mapf_checker.specs.Verdict.{IsGoodPlan}
use Rattle.mapf_lemma_checker.specs.Answers.{FitsAnswer}
use Rattle.mapf_lemma_checker.specs.Whole.{HasLemmaDefect, IsGoodLemmaCert}
use Rattle.mapf_lemma_checker.specs.declared.fault.LemmaRefusal.{LemmaRefusal}
use Rattle.mapf_lemma_texts.specs.declared.line.LemmaLine.TheVariants.{Title}
use Rattle.mapf_lemma_texts.specs.Lines.{line_text}

-- what a refusal says of the plan text: it spells nothing, is for another number of agents, says that a limit was
-- reached and has no bound, or has a plan with this defect
abbrev pub HasPlanRefusal : Instance → List ℕ → CheckFault → Type 0
HasPlanRefusal problem bytes (C1 fault) =
    (fault ≢ plans.Memory) × ((version : Version) (agents : ℕ) (says : PlanAnswer) →
    SpellsPlan problem.grid bytes version agents says → ⊥)
HasPlanRefusal problem bytes C3 =
    (version : Version) × (agents : ℕ) × (says : PlanAnswer) × SpellsPlan problem.grid bytes version agents says
    × (agents ≢ length problem.agents)
HasPlanRefusal problem bytes C4 =
    (cause : Cause) × SpellsPlan problem.grid bytes One (length problem.agents) (Limit cause)
HasPlanRefusal problem bytes (C5 fault) =
    (version : Version) × (plan : List (List ℕ))
    × SpellsPlan problem.grid bytes version (length problem.agents) (Found plan) × HasDefect problem plan fault
HasPlanRefusal problem bytes fault = ⊥

-- the bytes begin with a header whose numbers are in their ranges, with a claim that its version may make
pub record BeginsWithHeader (problem : Instance) (bytes : List ℕ) (agents : ℕ) (claim : Claim) : Type 0 where
  pub version : Version
  pub agents_in_range : IsAgentCount agents
  pub claim_in_range : IsClaimInRange claim
  pub claim_of_version : IsClaimOfVersion version claim
  pub rest : List ℕ
  pub spelled : bytes ≡ header_text version problem.grid.width agents claim ++ rest

-- the bytes of this version begin with nodes, each in range, of which the last has this defect
pub record HasBadNode (problem : Instance) (claim : Claim) (version : Version) (fault : CheckFault) (bytes : List ℕ)
    : Type 0 where
  pub before : List Node
  pub before_in_range : All (IsNode version problem.grid (length problem.agents)) before
  pub node : Node
  pub in_range : IsNode version problem.grid (length problem.agents) node
  pub here : NodeContext
  pub pending : List NodeContext
  -- what the node inherits
  pub place : contexts_after_all (root ∷ []) before ≡ here ∷ pending
  pub defect : HasNodeDefect problem claim here node fault
  pub rest : List ℕ
  pub spelled : bytes ≡ flat_map (node_text version problem.grid.width) before
      ++ (node_text version problem.grid.width node ++ rest)

-- the same after the header, which is for the problem and the claim, whose numbers are in their ranges, and whose
-- version may make the claim
pub record HasBadNodeInCert (problem : Instance) (claim : Claim) (fault : CheckFault) (bytes : List ℕ) : Type 0 where
  pub version : Version
  pub agents_in_range : IsAgentCount (length problem.agents)
  pub claim_in_range : IsClaimInRange claim
  pub claim_of_version : IsClaimOfVersion version claim
  pub nodes : List ℕ
  pub spelled : bytes ≡ header_text version problem.grid.width (length problem.agents) claim ++ nodes
  pub bad : HasBadNode problem claim version fault nodes

-- what a refusal says of a certificate of version 1 or 2, whose bytes may be unknown and which has to show this claim:
-- it spells nothing, is for another number of agents, claims something else, or has a node with this defect
abbrev pub HasTreeCertRefusal : Instance → Claim → Option (List ℕ) → CheckFault → Type 0
HasTreeCertRefusal problem claim known (C2 fault) =
    (fault ≢ certs.Memory) × IfSome known (λ bytes. (version : Version) (agents : ℕ) (claimed : Claim)
    (tree : ConstraintTree) → SpellsCert problem.grid bytes version agents claimed tree → ⊥)
HasTreeCertRefusal problem claim known C3 =
    IfSome known (λ bytes. (agents : ℕ) × (claimed : Claim) × BeginsWithHeader problem bytes agents claimed
    × (agents ≢ length problem.agents))
HasTreeCertRefusal problem claim known C4 =
    IfSome known (λ bytes. (agents : ℕ) × (claimed : Claim) × BeginsWithHeader problem bytes agents claimed
    × (claimed ≢ claim))
HasTreeCertRefusal problem claim known (C6 line) = IfSome known (HasBadNodeInCert problem claim (C6 line))
HasTreeCertRefusal problem claim known (C7 line) = IfSome known (HasBadNodeInCert problem claim (C7 line))
HasTreeCertRefusal problem claim known (C8 line) = IfSome known (HasBadNodeInCert problem claim (C8 line))
HasTreeCertRefusal problem claim known (C9 line) = IfSome known (HasBadNodeInCert problem claim (C9 line))
HasTreeCertRefusal problem claim known fault = ⊥

-- the bytes begin with the first line of a certificate of version 3
abbrev pub BeginsVersionThree : List ℕ → Type 0
BeginsVersionThree bytes = (rest : List ℕ) × (bytes ≡ line_text 0 Title ++ rest)

-- the refusal is one with which a certificate of version 3 may be refused
abbrev pub IsOfLemmas : CheckFault → Type 0
IsOfLemmas (C2 fault) = fault ≢ certs.Memory
IsOfLemmas C3 = ⊤
IsOfLemmas C4 = ⊤
IsOfLemmas (C6 line) = ⊤
IsOfLemmas (C7 line) = ⊤
IsOfLemmas (C8 line) = ⊤
IsOfLemmas (C9 line) = ⊤
IsOfLemmas (C10 line) = ⊤
IsOfLemmas fault = ⊥

-- what a refusal says of a certificate of version 3, whose bytes may be unknown, beside an answer with this claim: the
-- bytes spell no certificate that shows a claim which fits the answer, and they have the refusal's defect
abbrev pub HasLemmaCertRefusal : Instance → Claim → Option (List ℕ) → CheckFault → Type 0
HasLemmaCertRefusal problem answer known fault =
    IsOfLemmas fault × IfSome known (λ bytes. BeginsVersionThree bytes
    × ((claimed : Claim) → FitsAnswer answer claimed → IsGoodLemmaCert problem claimed bytes → ⊥)
    × ((refusal : LemmaRefusal) × (fault ≡ of_lemma_refusal refusal) × HasLemmaDefect problem answer bytes refusal))

-- what a refusal says of a certificate, by its first line
abbrev pub HasCertRefusal : Instance → Claim → Option (List ℕ) → CheckFault → Type 0
HasCertRefusal problem answer known fault =
    (IfSome known (λ bytes. BeginsVersionThree bytes → ⊥) × HasTreeCertRefusal problem answer known fault)
    ⊎ HasLemmaCertRefusal problem answer known fault

-- what a refusal says of two texts, where the certificate's bytes may be unknown. The certificate counts only if the
-- plan text is accepted
abbrev pub HasRefusal : Instance → List ℕ → Option (List ℕ) → CheckFault → Type 0
HasRefusal problem plan known fault =
    HasPlanRefusal problem plan fault ⊎ ((answer : Claim) × IsGoodPlan problem plan answer
    × HasCertRefusal problem answer known fault)
