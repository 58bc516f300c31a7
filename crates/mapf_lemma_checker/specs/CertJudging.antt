-- What is known of a certificate of version 3 while its parts are judged.
use Rattle.std.specs.Prelude.{◌≡◌, ◌≢◌, ◌+◌, ◌≤◌, ℕ, Bool, false, List, ◌++◌, Option, Some, None, Result, IfOk}
use Rattle.std.specs.Prelude.{IfErr, OnOk, MatchBool, IsSome, IsSomeAnd, length}
use Rattle.mapf_certificate.specs.declared.cert.CertFault.TheVariants as certs
use Rattle.mapf_certificate.specs.Window.{ComesWithin, Window}
use Rattle.mapf_lemma_checker.specs.declared.fault.LemmaFault.{LemmaFault}
use Rattle.mapf_lemma_checker.specs.declared.fault.LemmaRefusal.{LemmaRefusal}
use Rattle.mapf_lemma_checker.specs.declared.fault.LemmaRefusal.TheVariants.{C2, C3, C4}
use Rattle.mapf_lemma_checker.specs.Answers.{FitsAnswer}
use Rattle.mapf_lemma_checker.specs.BadParts.{BeginsWithLemmaHeader, HasBadPart}
use Rattle.mapf_lemma_checker.specs.Faults.{IsOfChecking}
use Rattle.mapf_lemma_checker.specs.LemmaParts.{AreSizesOf}
use Rattle.mapf_lemma_checker.specs.States.{JudgeState, ShowParts, first_state, tree_in}
use Rattle.mapf_lemma_texts.specs.PartReading.{PartReading, AwaitsParts, AwaitsText, IsRest}
use Rattle.mapf_lemma_texts.specs.declared.due.Due.{Due}
use Rattle.mapf_lemma_texts.specs.declared.due.Due.TheVariants as dues
use Rattle.mapf_lemma_texts.specs.declared.part.Part.{Part}
use Rattle.mapf_lemma_texts.specs.declared.sizes.LineSizes.{LineSizes}
use Rattle.mapf_model.specs.declared.item.Claim.{Claim}
use Rattle.mapf_model.specs.declared.label.Label.{Label}
use Rattle.mapf_model.specs.Plan.{Instance}

-- nothing was read
pub record IsOpened (problem : Instance) (reading : PartReading) : Type 0 where
  pub width_is : reading.width ≡ problem.grid.width
  pub height_is : reading.height ≡ problem.grid.height
  pub no_header : reading.header ≡ None
  pub no_fault : reading.fault ≡ None
  pub going : reading.is_whole ≡ false
  pub first_due : reading.due ≡ dues.Prices

-- a tree of a lemma by cases is judged, of which so many subtrees are still to come
abbrev pub HasCasesPending : JudgeState → ℕ → Type 0
HasCasesPending state pending = IsSomeAnd state.tree (λ tree. IsSome tree.case × (length tree.pending ≡ pending))

-- the last tree is judged or comes next, and so many of its subtrees are still to come
abbrev pub HasLastPending : Instance → Label → JudgeState → ℕ → Type 0
HasLastPending problem target state pending =
    ((tree_in problem target state.tree).case ≡ None)
    × (length (tree_in problem target state.tree).pending ≡ pending)

-- in this state of the judge this part is due, if the reader knows of so many lists
abbrev pub IsStateAt : Instance → Label → ℕ → Due → JudgeState → Type 0
IsStateAt problem target lists dues.Prices state =
    (state.tree ≡ None) × (length state.lists ≡ 0) × (lists ≡ 0)
IsStateAt problem target lists (dues.Lists left) state =
    (state.tree ≡ None) × (length state.lists + left ≡ lists)
IsStateAt problem target lists (dues.Lemmas left) state = (state.tree ≡ None) × (length state.lists ≡ lists)
IsStateAt problem target lists (dues.Cases pending left) state =
    HasCasesPending state pending × (length state.lists ≡ lists)
IsStateAt problem target lists (dues.Tree pending) state =
    HasLastPending problem target state pending × (length state.lists ≡ lists)

-- the header was read, and the reader and the judge expect the same part
pub record IsBetweenParts (problem : Instance) (target : Label) (reading : PartReading) (state : JudgeState)
    : Type 0 where
  pub sizes : LineSizes
  pub claim : Claim
  pub header : reading.header ≡ Some (sizes, claim)
  pub of_problem : AreSizesOf problem sizes
  pub no_fault : reading.fault ≡ None
  pub going : reading.is_whole ≡ false
  pub state_at : IsStateAt problem target sizes.lists reading.due state

-- the bytes spell these parts, each in its place from the reader's place on, and the end
pub record SpellsRest (reading : PartReading) (parts : List Part) (bytes : List ℕ) : Type 0 where
  pub sizes : LineSizes
  pub claim : Claim
  pub header : reading.header ≡ Some (sizes, claim)
  pub rest : IsRest sizes reading.due parts bytes

-- how far a certificate was read and judged: these parts were read, each in its place, and they show what they have to
-- show; whether they and others do depends on the others alone
pub record IsJudgedTo (problem : Instance) (target : Label) (had left : Option (List ℕ)) (start reading : PartReading)
    (state : JudgeState) : Type 0 where
  pub given : List Part
  pub shown : ShowParts problem target first_state given state
  pub taken : List ℕ
  pub window : Window had left start.buffer reading.buffer taken
  pub placed : (rest : List Part) (bytes : List ℕ) → SpellsRest reading rest bytes →
      (whole : List ℕ) × SpellsRest start (given ++ rest) whole
  pub ahead : (parts : List Part) → AwaitsParts had start parts → (rest : List Part) × (parts ≡ given ++ rest)
      × AwaitsParts left reading rest
  pub behind : (bytes : List ℕ) → had ≡ Some bytes → (rest : List Part) → AwaitsParts left reading rest →
      AwaitsParts had start (given ++ rest)
  pub shows : (rest : List Part) (last : JudgeState) → ShowParts problem target first_state (given ++ rest) last →
      ShowParts problem target state rest last
  pub bad : (bytes rest : List ℕ) → had ≡ Some bytes → left ≡ Some rest →
      HasBadPart problem target reading state (reading.buffer.bytes ++ rest) →
      HasBadPart problem target start first_state (start.buffer.bytes ++ bytes)

-- the parts from the reader's place on show what they have to show, each in its place; the bytes spell them, if the
-- source reports its bytes; and no more bytes came than were left of the limit
pub record AreJudgedParts (problem : Instance) (target : Label) (had : Option (List ℕ)) (reading : PartReading)
    : Type 0 where
  pub parts : List Part
  pub last : JudgeState
  pub shown : ShowParts problem target first_state parts last
  pub text : List ℕ
  pub placed : SpellsRest reading parts text
  pub read : (bytes : List ℕ) → had ≡ Some bytes → AwaitsParts had reading parts
  pub within : (bytes : List ℕ) → had ≡ Some bytes → length bytes ≤ reading.buffer.left

-- the bytes that begin with a header have the defect that a refusal tells by its code
abbrev pub HasHeaderDefect : Instance → Claim → Option (List ℕ) → PartReading → LemmaRefusal → Type 0
HasHeaderDefect problem answer had reading (C2 fault) =
    (agents : ℕ) (claim : Claim) (parts : List Part) → AwaitsText had reading agents claim parts → ⊥
HasHeaderDefect problem answer had reading C3 =
    (bytes : List ℕ) → had ≡ Some bytes → (agents : ℕ) × (claim : Claim)
    × BeginsWithLemmaHeader problem (reading.buffer.bytes ++ bytes) agents claim × (agents ≢ length problem.agents)
HasHeaderDefect problem answer had reading C4 =
    (bytes : List ℕ) → had ≡ Some bytes → (claim : Claim)
    × BeginsWithLemmaHeader problem (reading.buffer.bytes ++ bytes) (length problem.agents) claim
    × (FitsAnswer answer claim → ⊥)
HasHeaderDefect problem answer had reading refusal = ⊥

-- what a refusal says of the bytes that begin with a header: no claim that they make fits the answer, and they have the
-- refusal's defect
abbrev pub HasHeaderRefusal : Instance → Claim → Option (List ℕ) → PartReading → LemmaRefusal → Type 0
HasHeaderRefusal problem answer had reading refusal =
    (refusal ≢ C2 certs.Memory) × ((claim : Claim) (parts : List Part) → FitsAnswer answer claim →
    AwaitsText had reading (length problem.agents) claim parts → ⊥) × HasHeaderDefect problem answer had reading refusal

-- the bytes after the header have the defect that a refusal tells by its code
abbrev pub HasPartDefect : Instance → Label → Option (List ℕ) → PartReading → LemmaRefusal → Type 0
HasPartDefect problem target had reading (C2 fault) = (parts : List Part) → AwaitsParts had reading parts → ⊥
HasPartDefect problem target had reading C3 = ⊥
HasPartDefect problem target had reading C4 = ⊥
HasPartDefect problem target had reading refusal =
    (bytes : List ℕ) → had ≡ Some bytes → HasBadPart problem target reading first_state (reading.buffer.bytes ++ bytes)

-- what a refusal says of the bytes after the header: no parts that they spell show what they have to show, and they
-- have the refusal's defect
abbrev pub HasPartRefusal : Instance → Label → Option (List ℕ) → PartReading → LemmaRefusal → Type 0
HasPartRefusal problem target had reading refusal =
    (refusal ≢ C2 certs.Memory) × ((parts : List Part) (last : JudgeState) → AwaitsParts had reading parts →
    ShowParts problem target first_state parts last → ⊥) × HasPartDefect problem target had reading refusal

-- what one more call means: `true`, one more part was read and judged; `false`, all parts were; no more bytes came than
-- are allowed; and what an error means
pub record IsJudgedOn (problem : Instance) (target : Label) (had left : Option (List ℕ)) (failed : Bool)
    (start reading : PartReading) (state : JudgeState) (result : Result Bool LemmaFault) : Type 0 where
  pub read : IfOk result (λ more. MatchBool more (IsJudgedTo problem target had left start reading state)
      (AreJudgedParts problem target had start))
  pub came : OnOk result (ComesWithin had left start.buffer)
  pub stops : IfErr result
      (IsOfChecking had left failed start.buffer (HasPartRefusal problem target had start))
